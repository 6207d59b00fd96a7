use Rattle.std.proofs.Common.{◌≡◌, drop}
use Rattle.exploring.specs.Circles.{hop}
use Rattle.exploring.proofs.circles.holder_of.Given as goal

-- none of the rows that were looked at is one of this process
abbrev pub invariant-loop-row : goal.invariant-loop-row
invariant-loop-row l = hop (drop l.row-index l.left) l.i ≡ hop l.left l.i
