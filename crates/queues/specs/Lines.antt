-- Who waits at the ends of lines, in lent words: two words a line, one for each side, 0 or 1 + the process.
use Rattle.std.specs.Prelude.{◌≡◌, ℕ, ◌-◌, ◌<◌, cond, List, [], length, Some, None, Option as Maybe, ◌==◌, ◌≢◌, slice_index, slice_index_or}
use Rattle.std.proofs.Math.Option.{Option, some, none}
use Rattle.model.specs.Steps.{Endpoint}

-- who waits, by the code
abbrev pub who_of : ℕ → Option ℕ
who_of n = cond (n == 0) none (some (n - 1))

-- who waits at an end
abbrev pub waiter_at : List (List ℕ) → Endpoint → Option ℕ
waiter_at s e = who_of (slice_index (slice_index_or s e.line []) e.side)

-- who is noted at an end is now o; at all other ends it is as it was
pub record Noted (s s' : List (List ℕ)) (e : Endpoint) (o : Option ℕ) : Type 0 where
  pub long : length s' ≡ length s
  pub at : waiter_at s' e ≡ o
  pub others : (d : Endpoint) → d.side < 2 → (d ≢ e) → waiter_at s' d ≡ waiter_at s d

-- an option of the code as one of the model
abbrev pub option : Maybe ℕ → Option ℕ
option None = none
option (Some n) = some n

-- the other end of a line
abbrev pub facing : Endpoint → Endpoint
facing e = record { line = e.line; side = 1 - e.side }
