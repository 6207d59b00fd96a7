use Rattle.std.proofs.Common.{◌≡◌, ◌++◌, take, vec_items}
use Rattle.syntax.proofs.Flat.{flat, expression_words}
use Rattle.syntax.proofs.write.write_expressions.Given as goal

abbrev pub invariant-loop-e : goal.invariant-loop-e
invariant-loop-e l = vec_items l.out ≡ vec_items l.initial.out ++ flat expression_words (take l.e-index l.es)
