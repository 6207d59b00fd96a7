use Rattle.std.proofs.Common.{◌≡◌, true, take}
use Rattle.syntax.proofs.sides.all_stay_below.Given as goal
use Rattle.syntax.specs.Meaning.{points_of}
use Rattle.syntax.specs.Mirror.{all_below}

abbrev pub invariant-loop-p : goal.invariant-loop-p
invariant-loop-p l = all_below l.all (points_of (take l.p-index l.points)) ≡ true
