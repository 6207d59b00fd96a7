-- The records of processes in lent words. A record has 64 words:
--   1 the place in the rows · 2 turns left · 3 state · 4 how many variables · 5 how many ends ·
--   16 to 31 variables · 32 to 47 lines of ends · 48 to 63 sides of ends.
use Rattle.std.specs.Prelude.{◌≡◌, ℕ, ◌+◌, min, cond, List, [], ◌∷◌, ◌++◌, length, Some, None, Option as Maybe, ◌==◌, ◌≢◌, slice_index, slice_index_or}
use Rattle.std.proofs.Math.Option.{Option, some, none}
use Rattle.model.specs.Program.{put, bit}
use Rattle.model.specs.Steps.{Endpoint, State, running, stopped, spent}
use Rattle.records.specs.declared.process.End.{End}
use Rattle.records.specs.declared.process.Standing.{Standing}
use Rattle.records.specs.declared.process.Standing.TheVariants.{Running, Stopped, Spent}
use Rattle.records.specs.Tables.{table}

-- what is kept of a process: its place in the rows, its variables, ends, turns and state
pub record Record : Type 0 where
  pub place : ℕ
  pub left : ℕ
  pub state : State
  pub vars : List ℕ
  pub ends : List (Option Endpoint)

-- a state by its code
abbrev pub state_of : ℕ → State
state_of n = cond (n == 0) running (cond (n == 1) stopped spent)

-- an end by its line and its code: 0 where there is no end, 1 for side 0, else side 1
abbrev pub end_of : ℕ → ℕ → Option Endpoint
end_of l s = cond (s == 0) none (some (record { line = l; side = cond (s == 1) 0 1 }))

-- variables and ends of a record, at most sixteen
abbrev pub vars_of : List ℕ → List ℕ
vars_of w = table (λ k. slice_index w (16 + k)) 0 (min (slice_index w 4) 16)

abbrev pub ends_of : List ℕ → List (Option Endpoint)
ends_of w = table (λ k. end_of (slice_index w (32 + k)) (slice_index w (48 + k))) 0 (min (slice_index w 5) 16)

-- the record that words are
abbrev pub record_of : List ℕ → Record
record_of w = record { place = slice_index w 1; left = slice_index w 2; state = state_of (slice_index w 3); vars = vars_of w; ends = ends_of w }

-- record i
abbrev pub record_at : List (List ℕ) → ℕ → Record
record_at s i = record_of (slice_index_or s i [])

-- Record i is now r; all other records are as they were.
pub record Kept (s s' : List (List ℕ)) (i : ℕ) (r : Record) : Type 0 where
  pub long : length s' ≡ length s
  pub at : record_at s' i ≡ r
  pub others : (j : ℕ) → (j ≢ i) → record_at s' j ≡ record_at s j

-- a record with one field changed
abbrev pub moved : Record → ℕ → Record
moved r p = record { place = p; left = r.left; state = r.state; vars = r.vars; ends = r.ends }

abbrev pub assigned : Record → ℕ → ℕ → Record
assigned r x v = record { place = r.place; left = r.left; state = r.state; vars = put r.vars x v; ends = r.ends }

abbrev pub ended : Record → State → Record
ended r k = record { place = r.place; left = r.left; state = k; vars = r.vars; ends = r.ends }

abbrev pub cleared : Record → ℕ → Record
cleared r c = record { place = r.place; left = r.left; state = r.state; vars = r.vars; ends = put r.ends c none }

abbrev pub spends : Record → ℕ → Record
spends r l = record { place = r.place; left = l; state = r.state; vars = r.vars; ends = r.ends }

abbrev pub begins : ℕ → ℕ → Record
begins p l = record { place = p; left = l; state = running; vars = []; ends = [] }

abbrev pub with_end : Record → Option Endpoint → Record
with_end r e = record { place = r.place; left = r.left; state = r.state; vars = r.vars; ends = r.ends ++ (e ∷ []) }

abbrev pub with_number : Record → ℕ → Record
with_number r v = record { place = r.place; left = r.left; state = r.state; vars = r.vars ++ (v ∷ []); ends = r.ends }

-- the ends and states of the code as those of the model
abbrev pub endpoint : End → Endpoint
endpoint e = record { line = e.line; side = bit e.far }

abbrev pub viewed : Maybe End → Option Endpoint
viewed None = none
viewed (Some e) = some (endpoint e)

abbrev pub state_is : Standing → State
state_is Running = running
state_is Stopped = stopped
state_is Spent = spent
