use Rattle.std.proofs.Common.{◌≡◌, ◌++◌, map, take, vec_items}
use Rattle.syntax.proofs.sides.push_mirrored.Given as goal
use Rattle.syntax.specs.Meaning.{points_of}
use Rattle.syntax.specs.Mirror.{mirror}

abbrev pub invariant-loop-p : goal.invariant-loop-p
invariant-loop-p l = points_of (vec_items l.out) ≡ points_of (vec_items l.initial.out) ++ map (mirror l.half) (points_of (take l.p-index l.near))
