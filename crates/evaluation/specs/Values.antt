-- What evaluation promises of the expression at a place.
use Rattle.std.specs.Prelude.{◌≡◌, ℕ, ◌+◌, ◌-◌, ◌*◌, ◌%◌, ◌^◌, ◌≤◌, List, ◌++◌, length, drop, nat_lt}
use Rattle.model.specs.Program.{nth, or, bit, Expression, value}
use Rattle.model.specs.Rows.{row_e, deep_e}
use Rattle.rows.specs.declared.decode.Operator.{Operator}
use Rattle.rows.specs.declared.decode.Operator.TheVariants.{Sum, Difference, Product, Less}
use Rattle.evaluation.specs.declared.expressions.Valued.{Valued}

-- what an operator makes of two numbers
abbrev pub applied : Operator → ℕ → ℕ → ℕ
applied Sum a b = (a + b) % 2 ^ 32
applied Difference a b = (a + 2 ^ 32 - b) % 2 ^ 32
applied Product a b = a * b % 2 ^ 32
applied Less a b = bit (nat_lt a b)

-- the element at a place, 0 where there is none
abbrev pub at_or_0 : List ℕ → ℕ → ℕ
at_or_0 vs x = or 0 (nth vs x)

-- The value of an expression that stands at a place with the words x behind it, and where these begin.
pub record Evaluated (s vs : List ℕ) (at : ℕ) (e : Expression) (x : List ℕ) (r : Valued) : Type 0 where
  pub value : r.value ≡ value vs e
  pub rest : drop r.next s ≡ x
  pub ends : r.next ≡ at + length (row_e e)

abbrev pub Evaluates : List ℕ → List ℕ → ℕ → ℕ → Valued → Type 0
Evaluates s vs at d r = (e : Expression) (x : List ℕ) → drop at s ≡ row_e e ++ x → deep_e e ≤ d → Evaluated s vs at e x r
