use Rattle.std.proofs.Common.{None, arith}
use Rattle.exploring.proofs.CircleLaws.{found_row, next_row, no_row}
use Rattle.exploring.proofs.circles.holder_of.Goals as goal

pub returns-then-row-i : goal.returns-then-row-i
returns-then-row-i c = found_row c.args.left.now c.loop-row.row-index c.args.i (record { process = 0; place = 0; end = None; holder = None }) c.loop-row.invariant (omega arith) c.if-row-i.true

pub loop-row-preserved : goal.loop-row-preserved
loop-row-preserved c = next_row c.args.left.now c.loop-row.row-index c.args.i (record { process = 0; place = 0; end = None; holder = None }) c.loop-row.invariant (omega arith) c.if-row-i.false

pub returns : goal.returns
returns c = no_row c.args.left.now c.loop-row.row-index c.args.i (omega arith) c.loop-row.invariant
