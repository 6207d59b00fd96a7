use Rattle.std.proofs.Common.{vec_len}
use Rattle.actions.proofs.expressions.reduce.Given as goal

abbrev pub decreases-loop-sign : goal.decreases-loop-sign
decreases-loop-sign l = vec_len l.s.signs
