use Rattle.std.proofs.Common.{◌+◌, ◌*◌}
use Rattle.evaluation.proofs.expressions.+evaluate_operate.Given as goal

abbrev pub decreases-evaluate : goal.decreases-evaluate
decreases-evaluate l = 2 * l.depth + 1

abbrev pub decreases-operate : goal.decreases-operate
decreases-operate l = 2 * l.depth
