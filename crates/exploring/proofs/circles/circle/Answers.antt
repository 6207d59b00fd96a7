use Rattle.std.proofs.Common.{None, arith}
use Rattle.exploring.proofs.CircleLaws.{no_circle, next_looked}
use Rattle.exploring.proofs.circles.circle.Goals as goal

pub loop-row-preserved : goal.loop-row-preserved
loop-row-preserved c = next_looked c.args.left.now c.loop-row.row-index (record { process = 0; place = 0; end = None; holder = None }) (omega arith) c.loop-row.invariant c.if-comes_back.ensures

pub returns : goal.returns
returns c = no_circle c.args.left.now c.loop-row.row-index (omega arith) c.loop-row.invariant
