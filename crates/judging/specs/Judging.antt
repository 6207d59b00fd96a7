-- What the judge promises of what it goes through.
use Rattle.std.specs.Prelude.{◌≡◌, ℕ, ◌<◌, ◌≤◌, Bool, true, false, List, ◌++◌, length, drop, Some, None, Option}
use Rattle.std.proofs.Math.Option.{Option as Maybe, some, none}
use Rattle.rows.specs.declared.decode.PointKind.{PointKind}
use Rattle.rows.specs.Decode.{said}
use Rattle.judging.specs.declared.conversations.Conversations.{Conversations}
use Rattle.judging.specs.declared.moves.Fork.{Fork}
use Rattle.judging.specs.Standing.{stand}
use Rattle.model.specs.Program.{nth, Point, Expression, Program}
use Rattle.model.specs.Rows.{row_e, row_es, deep_e, deep_es}
use Rattle.model.specs.Keeps.{At, Ways, ways, then, is_over, at_point, hands, ok, oks}

-- The verdict on something that is written with the words x behind it, where b says whether it passes: a place where
-- x begins if it does, and none if it does not.
abbrev pub Verdict : List ℕ → List ℕ → Bool → Option ℕ → Type 0
Verdict s x b None = b ≡ false
Verdict s x b (Some j) = (b ≡ true) × (drop j s ≡ x)

-- a place that is found lies behind place i, within the rows
abbrev pub Behind : List ℕ → ℕ → Option ℕ → Type 0
Behind s i None = Unit {0}
Behind s i (Some j) = (i < j) × (j ≤ length s)

abbrev pub NotBefore : List ℕ → ℕ → Option ℕ → Type 0
NotBefore s i None = Unit {0}
NotBefore s i (Some j) = (i ≤ j) × (i ≤ length s → j ≤ length s)

-- whatever expression, or so many expressions, stand at place i: their variables are among n
abbrev pub VariablesSay : List ℕ → ℕ → ℕ → ℕ → Option ℕ → Type 0
VariablesSay s i d n r = (e : Expression) (x : List ℕ) → drop i s ≡ row_e e ++ x → deep_e e ≤ d → Verdict s x (ok n e) r

abbrev pub AllVariablesSay : List ℕ → ℕ → ℕ → ℕ → ℕ → Option ℕ → Type 0
AllVariablesSay s i d n count r = (es : List Expression) (x : List ℕ) → length es ≡ count → drop i s ≡ row_es es ++ x → deep_es es ≤ d → Verdict s x (oks n es) r

-- A conversation is at a point that says so, or at none: any test of its point comes to that of what the point says.
abbrev pub KindSays : Program → At → ℕ → Option PointKind → Type 0
KindSays g a c None = (k : Point → Bool) → at_point g a c k ≡ false
KindSays g a c (Some q) = (k : Point → Bool) → at_point g a c k ≡ k (said q)

-- the points at which two ways go on
abbrev pub ways_of : Option Fork → Maybe Ways
ways_of None = none
ways_of (Some f) = some (ways f.first f.second)

-- one conversation is over or handed on
abbrev pub over_one : Program → Maybe ℕ → Bool
over_one g none = true
over_one g (some t) = then (nth g.points t) is_over

-- what handing on comes to: the conversations that are left, or a refusal
abbrev pub HandsSay : At → List ℕ → List ℕ → Option Conversations → Type 0
HandsSay a cs ts None = hands a cs ts ≡ none
HandsSay a cs ts (Some c) = hands a cs ts ≡ some (stand c)
