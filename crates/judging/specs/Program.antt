-- The tests that make up whether a program keeps, one point and one process at a time.
use Rattle.std.specs.Prelude.{◌≡◌, ℕ, Bool, ◌&&◌, List, Option, MatchOption, ◌==◌}
use Rattle.std.specs.Borrow.{Bor}
use Rattle.std.proofs.Math.Option.{none}
use Rattle.rows.specs.declared.decode.Head.{Head}
use Rattle.rows.specs.declared.lookup.Rows.{Rows}
use Rattle.rows.specs.Mapped.{ProcessFound}
use Rattle.model.specs.Program.{nth, Point, Process, Program}
use Rattle.model.specs.Keeps.{then, mutual_sides, faces, keeps, begins}

-- a point has another side that fits
abbrev pub PointFits : Program → ℕ → Point → Bool
PointFits g i p = then (nth g.other i) (λ j. mutual_sides g i j && then (nth g.points j) (faces g p))

-- a process, by its number, keeps to its conversations
abbrev pub ProcessKeeps : Program → ℕ → Process → Bool
ProcessKeeps g i p = keeps g p.vars (i == 0) p.body (begins p.talks)

-- process i of the program is found by its beginning, and its conversations begin at these points
pub record Begins (r : Rows) (g : Program) (i : ℕ) (h : Head) (points : List ℕ) : Type 0 where
  pub found : ProcessFound r.words.now r.map.now.second g i h
  pub talks : points ≡ found.it.talks

abbrev pub BeginsAt : Rows → Program → ℕ → Option (Head × Bor (List ℕ)) → Type 0
BeginsAt r g i o = MatchOption o (nth g.procs i ≡ none) (λ b. Begins r g i b.0 b.1.now)
