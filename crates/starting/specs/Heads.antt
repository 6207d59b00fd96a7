-- The beginning of a process of the program, as it is found in the words.
use Rattle.std.specs.Prelude.{◌≡◌, ℕ, ◌≤◌, List, ◌++◌, drop, Option, MatchOption}
use Rattle.std.proofs.Math.Option.{some, none}
use Rattle.rows.specs.declared.decode.Head.{Head}
use Rattle.rows.specs.declared.map.Map.{Map}
use Rattle.rows.specs.Mapped.{Mapped}
use Rattle.rows.specs.Reading.{Seconds}
use Rattle.model.specs.Program.{nth, Process, Program}
use Rattle.model.specs.Rows.{row_a, deep, Reads}

-- process f of the program, and where what it does is written
pub record HeadIs (s second : List ℕ) (g : Program) (f : ℕ) (h : Head) : Type 0 where
  pub process : Process
  pub is : nth g.procs f ≡ some process
  pub behind : List ℕ
  pub rows : drop h.body s ≡ row_a process.body ++ behind
  pub seconds : Seconds second h.body process.body
  pub vars : h.variables ≡ process.vars
  pub few : process.vars ≤ 16
  pub nested : deep process.body ≤ 256

abbrev pub HeadOf : List ℕ → Map → ℕ → Option Head → Type 0
HeadOf s m f r = (g : Program) → Reads s g → Mapped s g m → MatchOption r (nth g.procs f ≡ none) (HeadIs s m.second g f)
