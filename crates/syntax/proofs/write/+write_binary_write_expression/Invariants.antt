use Rattle.std.proofs.Common.{◌+◌}
use Rattle.syntax.proofs.Sizes.{nodes}
use Rattle.syntax.proofs.write.+write_binary_write_expression.Given as goal

abbrev pub decreases-write_binary : goal.decreases-write_binary
decreases-write_binary l = nodes l.a.now + nodes l.b.now + 1

abbrev pub decreases-write_expression : goal.decreases-write_expression
decreases-write_expression l = nodes l.e.now
