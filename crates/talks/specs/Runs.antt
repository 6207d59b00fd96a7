-- What the answers of a run mean, when each comes, and what is promised with it.
use Rattle.std.specs.Prelude.{◌≡◌, ℕ, zero, suc, ◌+◌, ◌*◌, ◌<◌, ◌≤◌, true, false, ◌↔◌, List, length, take, drop}
use Rattle.talks.specs.declared.answers.Ran.{Ran}
use Rattle.talks.specs.declared.answers.Ran.TheVariants.{Done, Spent, Crowded, Unkept, Unread, OutFull, Few}
use Rattle.model.specs.Program.{Program}
use Rattle.model.specs.Steps.{Configuration, Steps, begin}
use Rattle.model.specs.Keeps.{kept}
use Rattle.model.specs.Rows.{Reads}
use Rattle.model.specs.Theorems.{OneProgram, Ends, Pictured, WaitingEnds, TwoThatWait, NeverJams, EitherOrder, SameEnd, SameSteps, AnyOrder, HasEnd, SameEndAhead, Confluent, CrowdedAlike, Still, AllStopped, Out}

-- What an answer says of words s, run with n processes at most and so many turns, where `shown` was o and is o'.
abbrev pub GoSays : List ℕ → ℕ → ℕ → List ℕ → List ℕ → Ran → Type 0
GoSays s n turns o o' (Done k) = (g : Program) × (a : Configuration) × Reads s g × (kept g ≡ true) × Steps g (begin g turns) a × Still g a × AllStopped a × (length a.workers ≤ n) × (k ≡ length a.shown) × (take k o' ≡ a.shown) × (drop k o' ≡ drop k o)
GoSays s n turns o o' (Spent k) = (g : Program) × (a : Configuration) × Reads s g × (kept g ≡ true) × Steps g (begin g turns) a × Still g a × Out a × (length a.workers ≤ n) × (k ≡ length a.shown) × (take k o' ≡ a.shown) × (drop k o' ≡ drop k o)
GoSays s n turns o o' Crowded = (g : Program) × (a : Configuration) × Reads s g × (kept g ≡ true) × Steps g (begin g turns) a × (n < length a.workers) × (o' ≡ o)
GoSays s n turns o o' Unkept = (g : Program) × Reads s g × (kept g ≡ false) × (o' ≡ o)
GoSays s n turns o o' Unread = ((g : Program) → Reads s g → ⊥) × (o' ≡ o)
GoSays s n turns o o' OutFull = (g : Program) × (a : Configuration) × Reads s g × (kept g ≡ true) × Steps g (begin g turns) a × Still g a × (length a.workers ≤ n) × (length o < length a.shown) × (o' ≡ o)
GoSays s n turns o o' Few = o' ≡ o

-- The order in which the answers are looked for.
abbrev pub rank : Ran → ℕ
rank Few = 0
rank Unread = 1
rank Unkept = 2
rank Crowded = 3
rank OutFull = 4
rank (Done k) = 5
rank (Spent k) = 5

-- The condition of the answers of a rank, for w work words and room for so many numbers: there are too few work words;
-- the words are no program; the program does not keep; in some order there are too many processes; an order that comes
-- to an end shows more than there is room for.
abbrev pub When : List ℕ → ℕ → ℕ → ℕ → ℕ → ℕ → Type 0
When s n turns room w zero = w < 4096 + 128 * n
When s n turns room w (suc zero) = (g : Program) → Reads s g → ⊥
When s n turns room w (suc (suc zero)) = (g : Program) × Reads s g × (kept g ≡ false)
When s n turns room w (suc (suc (suc zero))) = (g : Program) × (a : Configuration) × Reads s g × (kept g ≡ true) × Steps g (begin g turns) a × (n < length a.workers)
When s n turns room w (suc (suc (suc (suc zero)))) = (g : Program) × (a : Configuration) × Reads s g × (kept g ≡ true) × Steps g (begin g turns) a × Still g a × (room < length a.shown)
When s n turns room w (suc (suc (suc (suc (suc k))))) = Unit {0}

-- An answer comes where its condition holds, and none before it does.
pub record Comes (s : List ℕ) (n turns room w : ℕ) (r : Ran) : Type 0 where
  pub here : When s n turns room w (rank r)
  pub not_before : (k : ℕ) → k < rank r → When s n turns room w k → ⊥

-- The theorems, which the gate asks for with the call's promise.
pub record Parts : Type 0 where
  pub p1 : OneProgram
  pub p2 : Ends
  pub p3 : NeverJams
  pub p4 : AnyOrder
  pub pictured : Pictured
  pub follows : WaitingEnds
  pub two : TwoThatWait
  pub diamond : EitherOrder
  pub end : SameEnd
  pub steps : SameSteps
  pub ahead : HasEnd
  pub same_ahead : SameEndAhead
  pub confluent : Confluent
  pub crowded : CrowdedAlike

-- What a run promises: the answer is right; it is the one that comes, and no other answer is right and comes; the
-- theorems hold; and `few` comes exactly where the work words are too few.
pub record GoPost (s : List ℕ) (n turns : ℕ) (o o' : List ℕ) (w : ℕ) (r : Ran) : Type 0 where
  pub says : GoSays s n turns o o' r
  pub parts : Parts
  pub few : (w < 4096 + 128 * n) ↔ (r ≡ Few)
  pub comes : Comes s n turns (length o) w r
  pub only : (q : Ran) (o'' : List ℕ) → GoSays s n turns o o'' q → Comes s n turns (length o) w q → q ≡ r
