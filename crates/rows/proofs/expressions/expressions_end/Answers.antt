use Rattle.rows.proofs.Sequences.{expressions_none, expressions_more, expressions_stuck}
use Rattle.rows.proofs.expressions.expressions_end.Goals as goal

pub loop-init : goal.loop-init
loop-init c = expressions_none c.args.p.now c.args.at c.args.depth

pub loop-preserved : goal.loop-preserved
loop-preserved c = expressions_more c.loop.invariant c.in_ok-here.ensures

pub returns-in_err-here : goal.returns-in_err-here
returns-in_err-here c = rw c.from_residual.ensures (expressions_stuck c.loop.invariant c.loop-test.true c.in_err-here.ensures)
