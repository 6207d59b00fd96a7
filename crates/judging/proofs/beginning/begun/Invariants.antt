use Rattle.std.proofs.Common.{◌≡◌, take}
use Rattle.model.specs.Keeps.{begins}
use Rattle.judging.specs.Standing.{stand}
use Rattle.judging.proofs.beginning.begun.Given as goal

abbrev pub invariant-loop-point : goal.invariant-loop-point
invariant-loop-point l = stand l.all ≡ begins (take l.point-index l.points)
