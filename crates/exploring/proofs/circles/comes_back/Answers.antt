use Rattle.std.proofs.Common.{arith}
use Rattle.exploring.proofs.CircleLaws.{ends_here, goes_round, goes_on}
use Rattle.exploring.proofs.circles.comes_back.Goals as goal

pub returns-in_default : goal.returns-in_default
returns-in_default c = ends_here c.args.left.now c.args.i c.loop.index c.loop.at c.loop.invariant.0 c.loop.invariant.1 c.in_default.ensures

pub returns-then-j-i : goal.returns-then-j-i
returns-then-j-i c = (c.loop.index, omega arith, goes_round c.args.left.now c.args.i c.loop.index c.loop.at c.loop.invariant.0 c.loop.invariant.1 c.in-Some.j c.in-Some.ensures c.if-j-i.true)

pub loop-preserved : goal.loop-preserved
loop-preserved c = goes_on c.args.left.now c.args.i c.loop.index c.loop.at c.loop.invariant.0 c.loop.invariant.1 c.in-Some.j c.in-Some.ensures c.if-j-i.false
