use Rattle.std.proofs.Common.{◌≡◌, ◌++◌, vec_items}
use Rattle.syntax.proofs.sides.push_numbers.Given as goal
use Rattle.syntax.specs.Mirror.{from}

abbrev pub invariant-loop-i : goal.invariant-loop-i
invariant-loop-i l = vec_items l.out ≡ vec_items l.initial.out ++ from l.first l.i
