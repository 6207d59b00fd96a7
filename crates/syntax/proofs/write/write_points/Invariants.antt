use Rattle.std.proofs.Common.{◌≡◌, ◌++◌, take, vec_items}
use Rattle.syntax.proofs.Flat.{flat, point_words}
use Rattle.syntax.proofs.write.write_points.Given as goal

abbrev pub invariant-loop-p : goal.invariant-loop-p
invariant-loop-p l = vec_items l.out ≡ vec_items l.initial.out ++ flat point_words (take l.p-index l.points)
