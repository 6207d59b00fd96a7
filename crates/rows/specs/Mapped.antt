-- What the reader yields besides its answer: where each point and each process begins, and where second ways begin.
use Rattle.std.specs.Prelude.{◌≡◌, ℕ, ◌+◌, ◌<◌, ◌≤◌, List, ◌∷◌, ◌++◌, length, drop, Option, MatchOption, slice_index}
use Rattle.std.proofs.Math.Option.{some, none}
use Rattle.rows.specs.declared.decode.Head.{Head}
use Rattle.rows.specs.declared.decode.PointKind.{PointKind}
use Rattle.rows.specs.declared.lookup.Rows.{Rows}
use Rattle.rows.specs.declared.map.Map.{Map}
use Rattle.rows.specs.Decode.{said}
use Rattle.rows.specs.Reading.{Seconds}
use Rattle.model.specs.Program.{nth, Point, Process, Program}
use Rattle.model.specs.Rows.{row_a, row_p, row_r, Reads}

-- A process is written at a place, and the table has the second ways of what it does.
pub record ProcessAt (s second : List ℕ) (at : ℕ) (p : Process) : Type 0 where
  pub behind : List ℕ
  pub rows : drop at s ≡ row_r p ++ behind
  pub seconds : Seconds second (at + 3 + length p.talks) p.body

-- The beginning of a process found at a place is that of process p, with the words x behind the process.
pub record HeadIs (s : List ℕ) (i : ℕ) (h : Head) (p : Process) (x : List ℕ) : Type 0 where
  pub count : h.count ≡ length p.talks
  pub numbers : h.numbers ≡ p.nums
  pub variables : h.variables ≡ p.vars
  pub talks : drop h.talks s ≡ p.talks ++ (p.nums ∷ p.vars ∷ (row_a p.body ++ x))
  pub body : drop h.body s ≡ row_a p.body ++ x
  pub place : h.body ≡ i + 3 + length p.talks

-- The map of a program: its points and processes by their places, the other sides by where their list begins.
pub record Mapped (s : List ℕ) (g : Program) (m : Map) : Type 0 where
  pub point_count : m.points.count ≡ length g.points
  pub points : (i : ℕ) (p : Point) → nth g.points i ≡ some p → (x : List ℕ) × (drop (slice_index m.points.at i) s ≡ row_p p ++ x)
  pub sides : (i : ℕ) → i < length g.other → nth g.other i ≡ some (slice_index s (m.sides + i))
  pub room : m.sides + length g.other ≤ length s
  pub process_count : m.processes.count ≡ length g.procs
  pub processes : (i : ℕ) (p : Process) → nth g.procs i ≡ some p → ProcessAt s m.second (slice_index m.processes.at i) p

-- These words are this program, and this is its map.
pub record Known (s : List ℕ) (m : Map) (g : Program) : Type 0 where
  pub reads : Reads s g
  pub mapped : Mapped s g m

-- this holds of the program that the rows are, if they are one
abbrev pub Of : Rows → (Program → Type 0) → Type 0
Of r P = (g : Program) → Known r.words.now r.map.now g → P g

-- what looking up a point, the other side of a point, and a process comes to
abbrev pub PointIs : Program → ℕ → Option PointKind → Type 0
PointIs g i r = MatchOption r (nth g.points i ≡ none) (λ k. nth g.points i ≡ some (said k))

abbrev pub OtherIs : Program → ℕ → Option ℕ → Type 0
OtherIs g i r = MatchOption r (nth g.other i ≡ none) (λ j. nth g.other i ≡ some j)

pub record ProcessFound (s second : List ℕ) (g : Program) (i : ℕ) (h : Head) : Type 0 where
  pub it : Process
  pub is : nth g.procs i ≡ some it
  pub place : ℕ
  pub behind : List ℕ
  pub head : HeadIs s place h it behind
  pub seconds : Seconds second h.body it.body

abbrev pub ProcessIs : List ℕ → List ℕ → Program → ℕ → Option Head → Type 0
ProcessIs s second g i r = MatchOption r (nth g.procs i ≡ none) (ProcessFound s second g i)
