use Rattle.rows.proofs.ProgramLaws.{processed_more, processed_full, processed_stuck}
use Rattle.rows.proofs.unread.Unread.processes_end.Goals as goal

pub returns-in_err-add : goal.returns-in_err-add
returns-in_err-add c = rw c.from_residual.ensures (processed_full c.loop-here.invariant c.loop-here-test.true c.in_err-add.ensures)

pub returns-in_err-here : goal.returns-in_err-here
returns-in_err-here c = rw c.from_residual-in_err-here.ensures (processed_stuck c.loop-here.invariant c.loop-here-test.true c.in_err-here.ensures.ends)

pub loop-here-preserved : goal.loop-here-preserved
loop-here-preserved c = processed_more c.loop-here.invariant c.loop-here.places.wide c.in_ok-add.ensures c.in_ok-here.ensures.before c.in_ok-here.ensures.ends
