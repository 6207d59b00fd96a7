use Rattle.judging.proofs.VariableLaws.{checked_more, checked_missing}
use Rattle.judging.proofs.setting.Setting.all_variables_there.Goals as goal

pub loop-preserved : goal.loop-preserved
loop-preserved c = checked_more c.loop.invariant c.loop-test.true c.in_ok-here.ensures.says c.in_ok-here.ensures.behind

pub returns-in_err-here-clause-says : goal.returns-in_err-here-clause-says
returns-in_err-here-clause-says c = rw c.from_residual.ensures (checked_missing c.loop.invariant c.loop-test.true c.in_err-here.ensures.says)
