use Rattle.evaluation.proofs.HandingLaws.{Going}
use Rattle.evaluation.proofs.handed.numbers_at.Given as goal

abbrev pub invariant-loop-value : goal.invariant-loop-value
invariant-loop-value l = Going l.p l.vars l.at l.depth l.count l.value-index l.value-items l.next
