use Rattle.judging.specs.Standing.{stand}
use Rattle.judging.proofs.CallLaws.{start_careless, start_on}
use Rattle.judging.proofs.setting.Setting.start.Goals as goal

pub returns-in_err-left-clause-says : goal.returns-in_err-left-clause-says
returns-in_err-left-clause-says c =
    rw c.from_residual-in_err-left.ensures (start_careless c.args.self.now c.args.call.now c.args.listed.now c.args.depth (stand c.args.conversations.now) c.in_err-left.ensures)

pub returns-clause-says : goal.returns-clause-says
returns-clause-says c =
    start_on c.args.self.now c.args.call.now c.args.listed.now c.args.depth (stand c.args.conversations.now) c.in_ok-left.left c.in_ok-next.ensures.says c.in_ok-left.ensures
