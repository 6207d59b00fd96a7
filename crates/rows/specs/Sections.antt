-- What the reader promises of the sections of the rows: the points, the processes, and the whole.
use Rattle.std.specs.Prelude.{◌≡◌, ℕ, ◌+◌, ◌<◌, ◌≤◌, List, ◌++◌, length, drop, Option, MatchOption, ◌≢◌, slice_index}
use Rattle.std.proofs.Math.Option.{some}
use Rattle.rows.specs.declared.map.Map.{Map}
use Rattle.rows.specs.declared.lookup.Rows.{Rows}
use Rattle.rows.specs.Mapped.{ProcessAt, Known}
use Rattle.model.specs.Program.{nth, Point, Process, Program}
use Rattle.model.specs.Rows.{row_p, row_ps, row_r, row_rs, Fine, AllFine, Reads}

-- n points stand from place i up to place j, and the table has the place of each.
pub record PointsAt (s table : List ℕ) (i n j : ℕ) : Type 0 where
  pub them : List Point
  pub many : length them ≡ n
  pub rows : drop i s ≡ row_ps them ++ drop j s
  pub places : (k : ℕ) (p : Point) → nth them k ≡ some p → (x : List ℕ) × (drop (slice_index table k) s ≡ row_p p ++ x)
  pub within : i ≤ length s → j ≤ length s

-- No n points stand at place i, whatever follows.
abbrev pub NoPoints : List ℕ → ℕ → ℕ → Type 0
NoPoints s i n = (ps : List Point) (x : List ℕ) → length ps ≡ n → drop i s ≢ row_ps ps ++ x

abbrev pub PointsEnd : List ℕ → List ℕ → ℕ → ℕ → Option ℕ → Type 0
PointsEnd s table i n r = MatchOption r (NoPoints s i n) (PointsAt s table i n)

-- A process within the limits stands from place i up to place j.
pub record ProcessTo (s second : List ℕ) (i j : ℕ) : Type 0 where
  pub it : Process
  pub fine : Fine it
  pub at : ProcessAt s second i it
  pub behind : at.behind ≡ drop j s
  pub ends : j ≡ i + length (row_r it)
  pub further : i < j
  pub within : j ≤ length s

-- No such process stands at place i, whatever follows.
abbrev pub NoProcess : List ℕ → ℕ → Type 0
NoProcess s i = (p : Process) (x : List ℕ) → drop i s ≡ row_r p ++ x → Fine p → ⊥

abbrev pub ProcessEnd : List ℕ → List ℕ → ℕ → Option ℕ → Type 0
ProcessEnd s second i r = MatchOption r (NoProcess s i) (ProcessTo s second i)

-- Processes within the limits, at most 64, stand from place i to the end of the rows, and the tables have their
-- places and second ways; or none do.
pub record ProcessesAt (s places second : List ℕ) (i n : ℕ) : Type 0 where
  pub them : List Process
  pub many : length them ≡ n
  pub few : n ≤ 64
  pub rows : drop i s ≡ row_rs them
  pub fine : AllFine them
  pub at : (k : ℕ) (p : Process) → nth them k ≡ some p → ProcessAt s second (slice_index places k) p

abbrev pub NoProcesses : List ℕ → ℕ → Type 0
NoProcesses s i = (ps : List Process) → length ps ≤ 64 → drop i s ≡ row_rs ps → AllFine ps → ⊥

abbrev pub ProcessesEnd : List ℕ → List ℕ → List ℕ → ℕ → ℕ → Option (Unit {0}) → Type 0
ProcessesEnd s places second i n r = MatchOption r (NoProcesses s i) (λ _. ProcessesAt s places second i n)

-- These words are a program, short enough, and this is its map.
pub record Filled (s : List ℕ) (m : Map) : Type 0 where
  pub short : length s ≤ 16384
  pub program : Program
  pub known : Known s m program

-- No program is written as these words.
abbrev pub NoProgram : List ℕ → Type 0
NoProgram s = (g : Program) → Reads s g → ⊥

-- The map is that of the program that these words are; or they are no program.
abbrev pub Fills : List ℕ → Map → Option (Unit {0}) → Type 0
Fills s m r = MatchOption r (NoProgram s) (λ _. Filled s m)

-- Rows were read from these words: they are those of a program, with its map.
pub record RowsOf (s : List ℕ) (r : Rows) : Type 0 where
  pub words : r.words.now ≡ s
  pub program : Program
  pub known : Known s r.map.now program

-- These words are a program, and its rows are these; or they are no program.
abbrev pub ReadSays : List ℕ → Option Rows → Type 0
ReadSays s r = MatchOption r (NoProgram s) (RowsOf s)
