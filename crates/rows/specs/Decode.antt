-- What the words at a place say, as the types of the code. The laws that tie this to the writing of programs are
-- `instruction-exact`, `term-exact`, `point-exact` and `head-exact` in proofs/.
use Rattle.std.specs.Prelude.{◌≡◌, ℕ, ◌+◌, ◌-◌, ◌<◌, ◌≤◌, Bool, cond, List, length, Some, None, Option, ◌==◌, nat_le, nat_lt, slice_index, slice_index_or}
use Rattle.std.specs.Option.{option_map}
use Rattle.rows.specs.declared.decode.Call.{Call}
use Rattle.rows.specs.declared.decode.Instruction.{Instruction}
use Rattle.rows.specs.declared.decode.Instruction.TheVariants.{Stop, Give, Take, Choose, Offer, Set, If, Show, Start, Become}
use Rattle.rows.specs.declared.decode.Term.{Term}
use Rattle.rows.specs.declared.decode.Term.TheVariants.{Number, Variable, Pair}
use Rattle.rows.specs.declared.decode.Operator.{Operator}
use Rattle.rows.specs.declared.decode.Operator.TheVariants.{Sum, Difference, Product, Less}
use Rattle.rows.specs.declared.decode.PointKind.{PointKind}
use Rattle.rows.specs.declared.decode.PointKind.TheVariants.{Over, Gives, Takes, Chooses, Offers}
use Rattle.rows.specs.declared.decode.Head.{Head}
use Rattle.model.specs.Program.{Point, over, gives, takes, chooses, offers}

-- more than n words stand from place i on
abbrev pub more_than : List ℕ → ℕ → ℕ → Bool
more_than s i n = nat_lt n (length s - i)

-- x, if more than n words are left
abbrev pub with_more : {A : Type 0} → List ℕ → ℕ → ℕ → A → Option A
with_more s i n x = cond (more_than s i n) (Some x) None

-- the operands of a start or become: process, how many conversations, these, how many numbers, these
abbrev pub call_at : List ℕ → ℕ → Option Call
call_at s i = cond (nat_le (4 + slice_index s (i + 2)) (length s - i))
    (Some (record { process = slice_index s (i + 1); conversations = i + 3; count = slice_index s (i + 2); numbers = i + 4 + slice_index s (i + 2); expressions = slice_index s (i + 3 + slice_index s (i + 2)) }))
    None

-- by the word at place i, the code of what a process does
abbrev pub instruction_by : List ℕ → ℕ → ℕ → Option Instruction
instruction_by s i w =
    cond (w == 0) (Some Stop) (
    cond (w == 1) (with_more s i 1 (Give (slice_index s (i + 1)) (i + 2))) (
    cond (w == 2) (with_more s i 2 (Take (slice_index s (i + 1)) (slice_index s (i + 2)) (i + 3))) (
    cond (w == 3) (with_more s i 2 (Choose (slice_index s (i + 1)) (slice_index s (i + 2)) (i + 3))) (
    cond (w == 4) (with_more s i 1 (Offer (slice_index s (i + 1)) (i + 2))) (
    cond (w == 5) (with_more s i 1 (Set (slice_index s (i + 1)) (i + 2))) (
    cond (w == 6) (Some (If (i + 1))) (
    cond (w == 7) (Some (Show (i + 1))) (
    cond (w == 8) (option_map Start (call_at s i)) (
    cond (w == 9) (option_map Become (call_at s i)) None)))))))))

abbrev pub instruction_at : List ℕ → ℕ → Option Instruction
instruction_at s i = cond (more_than s i 0) (instruction_by s i (slice_index s i)) None

-- the same for a give, take, choose or offer only
abbrev pub talk_by : List ℕ → ℕ → ℕ → Option Instruction
talk_by s i w =
    cond (w == 1) (with_more s i 1 (Give (slice_index s (i + 1)) (i + 2))) (
    cond (w == 2) (with_more s i 2 (Take (slice_index s (i + 1)) (slice_index s (i + 2)) (i + 3))) (
    cond (w == 3) (with_more s i 2 (Choose (slice_index s (i + 1)) (slice_index s (i + 2)) (i + 3))) (
    cond (w == 4) (with_more s i 1 (Offer (slice_index s (i + 1)) (i + 2))) None)))

abbrev pub talk_at : List ℕ → ℕ → Option Instruction
talk_at s i = cond (more_than s i 0) (talk_by s i (slice_index s i)) None

-- the conversation of these, and 0 for the others
abbrev pub conversation_in : Instruction → ℕ
conversation_in Stop = 0
conversation_in (Give c v) = c
conversation_in (Take c x n) = c
conversation_in (Choose c k n) = c
conversation_in (Offer c f) = c
conversation_in (Set x v) = 0
conversation_in (If v) = 0
conversation_in (Show v) = 0
conversation_in (Start k) = 0
conversation_in (Become k) = 0

-- by the code of an expression
abbrev pub term_by : List ℕ → ℕ → ℕ → Option Term
term_by s i w =
    cond (w == 0) (with_more s i 1 (Number (slice_index s (i + 1)))) (
    cond (w == 1) (with_more s i 1 (Variable (slice_index s (i + 1)))) (
    cond (w == 2) (Some (Pair Sum (i + 1))) (
    cond (w == 3) (Some (Pair Difference (i + 1))) (
    cond (w == 4) (Some (Pair Product (i + 1))) (
    cond (w == 5) (Some (Pair Less (i + 1))) None)))))

abbrev pub term_at : List ℕ → ℕ → Option Term
term_at s i = cond (more_than s i 0) (term_by s i (slice_index s i)) None

-- the same for a number or variable only
abbrev pub leaf_by : List ℕ → ℕ → ℕ → Option Term
leaf_by s i w =
    cond (w == 0) (with_more s i 1 (Number (slice_index s (i + 1)))) (
    cond (w == 1) (with_more s i 1 (Variable (slice_index s (i + 1)))) None)

abbrev pub leaf_at : List ℕ → ℕ → Option Term
leaf_at s i = cond (more_than s i 0) (leaf_by s i (slice_index s i)) None

-- by the code of a point
abbrev pub point_by : List ℕ → ℕ → ℕ → Option PointKind
point_by s i w =
    cond (w == 0) (Some Over) (
    cond (w == 1) (with_more s i 1 (Gives (slice_index s (i + 1)))) (
    cond (w == 2) (with_more s i 1 (Takes (slice_index s (i + 1)))) (
    cond (w == 3) (with_more s i 2 (Chooses (slice_index s (i + 1)) (slice_index s (i + 2)))) (
    cond (w == 4) (with_more s i 2 (Offers (slice_index s (i + 1)) (slice_index s (i + 2)))) None))))

abbrev pub point_at : List ℕ → ℕ → Option PointKind
point_at s i = cond (more_than s i 0) (point_by s i (slice_index s i)) None

-- the point that a kind of point is in the model
abbrev pub said : PointKind → Point
said Over = over
said (Gives n) = gives n
said (Takes n) = takes n
said (Chooses n m) = chooses n m
said (Offers n m) = offers n m

-- the beginning of a process: how many conversations, their points, numbers handed in, variables
abbrev pub head_at : List ℕ → ℕ → Option Head
head_at s i = cond (nat_le (3 + slice_index s i) (length s - i))
    (Some (record { talks = i + 1; count = slice_index s i; numbers = slice_index s (i + 1 + slice_index s i); variables = slice_index s (i + 2 + slice_index s i); body = i + 3 + slice_index s i }))
    None

-- The words that an instruction found at place i stands for, and that they are there.
pub record CallWords (s : List ℕ) (i : ℕ) (k : Call) : Type 0 where
  pub process : slice_index_or s (i + 1) 0 ≡ k.process
  pub listed : slice_index_or s (i + 2) 0 ≡ k.count
  pub counted : slice_index_or s (i + 3 + k.count) 0 ≡ k.expressions
  pub conversations : k.conversations ≡ i + 3
  pub numbers : k.numbers ≡ i + 4 + k.count
  pub within : k.numbers ≤ length s

abbrev pub Words : List ℕ → ℕ → Instruction → Type 0
Words s i Stop = (slice_index s i ≡ 0) × (i < length s)
Words s i (Give c v) = (slice_index s i ≡ 1) × (slice_index s (i + 1) ≡ c) × (v ≡ i + 2) × (v ≤ length s)
Words s i (Take c x n) = (slice_index s i ≡ 2) × (slice_index s (i + 1) ≡ c) × (slice_index s (i + 2) ≡ x) × (n ≡ i + 3) × (n ≤ length s)
Words s i (Choose c k n) = (slice_index s i ≡ 3) × (slice_index s (i + 1) ≡ c) × (slice_index s (i + 2) ≡ k) × (n ≡ i + 3) × (n ≤ length s)
Words s i (Offer c f) = (slice_index s i ≡ 4) × (slice_index s (i + 1) ≡ c) × (f ≡ i + 2) × (f ≤ length s)
Words s i (Set x v) = (slice_index s i ≡ 5) × (slice_index s (i + 1) ≡ x) × (v ≡ i + 2) × (v ≤ length s)
Words s i (If v) = (slice_index s i ≡ 6) × (v ≡ i + 1) × (v ≤ length s)
Words s i (Show v) = (slice_index s i ≡ 7) × (v ≡ i + 1) × (v ≤ length s)
Words s i (Start k) = (slice_index s i ≡ 8) × CallWords s i k
Words s i (Become k) = (slice_index s i ≡ 9) × CallWords s i k

abbrev pub operator_code : Operator → ℕ
operator_code Sum = 2
operator_code Difference = 3
operator_code Product = 4
operator_code Less = 5

abbrev pub TermWords : List ℕ → ℕ → Term → Type 0
TermWords s i (Number n) = (slice_index s i ≡ 0) × (slice_index s (i + 1) ≡ n) × (i + 2 ≤ length s)
TermWords s i (Variable x) = (slice_index s i ≡ 1) × (slice_index s (i + 1) ≡ x) × (i + 2 ≤ length s)
TermWords s i (Pair o f) = (slice_index s i ≡ operator_code o) × (f ≡ i + 1) × (f ≤ length s)

abbrev pub PointWords : List ℕ → ℕ → PointKind → Type 0
PointWords s i Over = (slice_index s i ≡ 0) × (i < length s)
PointWords s i (Gives n) = (slice_index s i ≡ 1) × (slice_index s (i + 1) ≡ n) × (i + 1 < length s)
PointWords s i (Takes n) = (slice_index s i ≡ 2) × (slice_index s (i + 1) ≡ n) × (i + 1 < length s)
PointWords s i (Chooses n m) = (slice_index s i ≡ 3) × (slice_index s (i + 1) ≡ n) × (slice_index s (i + 2) ≡ m) × (i + 2 < length s)
PointWords s i (Offers n m) = (slice_index s i ≡ 4) × (slice_index s (i + 1) ≡ n) × (slice_index s (i + 2) ≡ m) × (i + 2 < length s)

-- the words that the beginning of a process found at place i stands for
pub record HeadWords (s : List ℕ) (i : ℕ) (h : Head) : Type 0 where
  pub count : slice_index_or s i 0 ≡ h.count
  pub numbers : slice_index_or s (i + 1 + h.count) 0 ≡ h.numbers
  pub variables : slice_index_or s (i + 2 + h.count) 0 ≡ h.variables
  pub talks : h.talks ≡ i + 1
  pub body : h.body ≡ i + 3 + h.count
  pub within : h.body ≤ length s
