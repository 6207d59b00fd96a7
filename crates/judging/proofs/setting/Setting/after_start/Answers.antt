use Rattle.std.proofs.Common.{arith}
use Rattle.judging.specs.Standing.{stand}
use Rattle.judging.proofs.HandingLaws.{hands_length}
use Rattle.judging.proofs.CallLaws.{start_goes}
use Rattle.judging.proofs.setting.Setting.after_start.Goals as goal

pub returns-in_err-add : goal.returns-in_err-add
returns-in_err-add c g known room =
    let l = hands_length (stand c.args.conversations.now) c.args.listed.now c.in_ok-new.wanted.now (stand c.in_ok-left.left) c.in_ok-left.ensures in
    let full = c.in_err-add.ensures.0 in
    absurd (omega arith)

pub returns : goal.returns
returns c g known room =
    start_goes (c.in_ok-head.ensures g known) c.if-call-head.false c.in_ok-new.ensures.cases.0 (stand c.args.conversations.now) c.args.listed.now c.add.new.self
    c.in_ok-left.ensures (c.in_ok-other.ensures g known) c.in_ok-add.ensures
