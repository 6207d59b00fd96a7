-- What is promised of the words of a run at its beginning.
use Rattle.std.specs.Prelude.{◌≡◌, ℕ, ◌<◌, List, [], length, slice_index_or, Result, Ok, Err}
use Rattle.model.specs.Program.{Program}
use Rattle.model.specs.Steps.{begin}
use Rattle.model.specs.Rows.{Reads}
use Rattle.rows.specs.declared.map.Map.{Map}
use Rattle.rows.specs.Mapped.{Mapped}
use Rattle.engine.specs.declared.step.Run.{Run}
use Rattle.engine.specs.declared.set_up.Unready.{Unready}
use Rattle.engine.specs.declared.set_up.Unready.TheVariants.{Crowded, Empty}
use Rattle.engine.specs.Running.{Running}

-- a run does not begin: there is no room for the first process, or there is no first process
abbrev pub Refused : List ℕ → Map → ℕ → ℕ → Unready → Type 0
Refused s m most turns Crowded = (g : Program) → Reads s g → Mapped s g m → most < length (begin g turns).workers
Refused s m most turns Empty = (g : Program) → Reads s g → Mapped s g m → (begin g turns).workers ≡ []

-- a run over records, lines and slots, at its beginning: its first record is the first of these, its lines and its slots are
-- these, one process is there, which can go on, and no number was shown
pub record Beginning (procs lines : List (List ℕ)) (slots : List ℕ) (r : Run) : Type 0 where
  pub first : slice_index_or r.processes.now 0 [] ≡ slice_index_or procs 0 []
  pub sides : r.lines.now ≡ lines
  pub ring : r.ready.slots.now ≡ slots
  pub head : r.ready.head ≡ 0
  pub ready : r.ready.count ≡ 1
  pub count : r.count ≡ 1
  pub total : r.total ≡ 0

-- there is room for the first process, and each run over these records, lines and slots, at its beginning, holds the
-- configuration in which a run begins, with whatever is in the words for numbers shown; or a run does not begin
abbrev pub SetIn : List ℕ → Map → ℕ → ℕ → List (List ℕ) → List (List ℕ) → List ℕ → Result (Unit {0}) Unready → Type 0
SetIn s m most turns procs lines slots (Ok _) = (0 < most) ×
    ((g : Program) (shown : List ℕ) (r : Run) → Reads s g → Mapped s g m → Beginning procs lines slots r → Running s m.second g shown shown r (begin g turns))
SetIn s m most turns procs lines slots (Err e) = Refused s m most turns e

-- where a run does not begin, records, lines and slots are as they were
abbrev pub Untouched : List (List ℕ) → List (List ℕ) → List ℕ → List (List ℕ) → List (List ℕ) → List ℕ → Result (Unit {0}) Unready → Type 0
Untouched procs lines slots procs' lines' slots' (Ok _) = Unit {0}
Untouched procs lines slots procs' lines' slots' (Err _) = (procs' ≡ procs) × (lines' ≡ lines) × (slots' ≡ slots)

-- there is room for so many processes, and the run holds the configuration in which it begins, with whatever is in the
-- words for numbers shown; or it does not begin
abbrev pub SetUp : List ℕ → Map → ℕ → ℕ → Result Run Unready → Type 0
SetUp s m most turns (Ok r) = (length r.processes.now ≡ most) ×
    ((g : Program) (shown : List ℕ) → Reads s g → Mapped s g m → Running s m.second g shown shown r (begin g turns))
SetUp s m most turns (Err e) = Refused s m most turns e
