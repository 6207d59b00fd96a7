-- The term at a place is exactly the beginning of the expression that is written there.
use Rattle.std.proofs.Common.{◌≡◌, ℕ, suc, ◌+◌, max, ◌&&◌, List, ◌∷◌, ◌++◌, drop, Some, refl, ◌∙◌, append_assoc, arith}
use Rattle.rows.specs.declared.decode.Term.{Term}
use Rattle.rows.specs.declared.decode.Term.TheVariants.{Number, Variable, Pair}
use Rattle.rows.specs.declared.decode.Operator.{Operator}
use Rattle.rows.specs.declared.decode.Operator.TheVariants.{Sum, Difference, Product, Less}
use Rattle.rows.specs.Decode.{term_at, operator_code}
use Rattle.rows.proofs.Places.{word_at, word_here, words_left, rest_at}
use Rattle.model.specs.Program.{Expression, num, var, add, sub, mul, less}
use Rattle.model.specs.Rows.{row_e, deep_e}
use Rattle.model.specs.Keeps.{ok}

-- the operation of an operator on two expressions
abbrev pub operation : Operator → Expression → Expression → Expression
operation Sum a b = add a b
operation Difference a b = sub a b
operation Product a b = mul a b
operation Less a b = less a b

pub row_e_operation : (o : Operator) (a b : Expression) → row_e (operation o a b) ≡ operator_code o ∷ (row_e a ++ row_e b)
row_e_operation Sum a b = refl
row_e_operation Difference a b = refl
row_e_operation Product a b = refl
row_e_operation Less a b = refl

pub deep_e_operation : (o : Operator) (a b : Expression) → deep_e (operation o a b) ≡ suc (max (deep_e a) (deep_e b))
deep_e_operation Sum a b = refl
deep_e_operation Difference a b = refl
deep_e_operation Product a b = refl
deep_e_operation Less a b = refl

pub ok_operation : (n : ℕ) (o : Operator) (a b : Expression) → ok n (operation o a b) ≡ ok n a && ok n b
ok_operation n Sum a b = refl
ok_operation n Difference a b = refl
ok_operation n Product a b = refl
ok_operation n Less a b = refl

-- A term at place i is the beginning of an expression with the words x behind it.
pub data TermStanding (s : List ℕ) (i : ℕ) (x : List ℕ) : Term → Expression → Type 0 where
  at_num : {n : ℕ} → drop (i + 2) s ≡ x → TermStanding s i x (Number n) (num n)
  at_var : {n : ℕ} → drop (i + 2) s ≡ x → TermStanding s i x (Variable n) (var n)
  at_pair : {o : Operator} {f : ℕ} (a b : Expression) → drop f s ≡ row_e a ++ (row_e b ++ x) → TermStanding s i x (Pair o f) (operation o a b)

pub record TermFound (s : List ℕ) (i : ℕ) (x : List ℕ) (e : Expression) : Type 0 where
  pub it : Term
  pub is : term_at s i ≡ Some it
  pub standing : TermStanding s i x it e

pair_found : (s : List ℕ) (i : ℕ) (o : Operator) (a b : Expression) (x : List ℕ) → drop i s ≡ operator_code o ∷ ((row_e a ++ row_e b) ++ x) → term_at s i ≡ Some (Pair o (i + 1)) → TermFound s i x (operation o a b)
pair_found s i o a b x h k = record { it = Pair o (i + 1); is = k; standing = at_pair a b (rest_at s i 1 h ∙ append_assoc (row_e a) (row_e b) x) }

-- What stands at a place is found there.
pub term_found : (s : List ℕ) (i : ℕ) (e : Expression) (x : List ℕ) → drop i s ≡ row_e e ++ x → TermFound s i x e
term_found s i (num n) x h =
    let a = word_here s i h in
    let b = word_at s i 1 h in
    let n' = words_left s i h in
    record { it = Number n; is = grind arith; standing = at_num (rest_at s i 2 h) }
term_found s i (var n) x h =
    let a = word_here s i h in
    let b = word_at s i 1 h in
    let n' = words_left s i h in
    record { it = Variable n; is = grind arith; standing = at_var (rest_at s i 2 h) }
term_found s i (add p q) x h =
    let a = word_here s i h in
    let n = words_left s i h in
    pair_found s i Sum p q x h (grind arith)
term_found s i (sub p q) x h =
    let a = word_here s i h in
    let n = words_left s i h in
    pair_found s i Difference p q x h (grind arith)
term_found s i (mul p q) x h =
    let a = word_here s i h in
    let n = words_left s i h in
    pair_found s i Product p q x h (grind arith)
term_found s i (less p q) x h =
    let a = word_here s i h in
    let n = words_left s i h in
    pair_found s i Less p q x h (grind arith)
