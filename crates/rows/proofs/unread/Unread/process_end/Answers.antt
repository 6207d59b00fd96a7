use Rattle.std.proofs.Common.{arith}
use Rattle.rows.proofs.ProcessLaws.{process_none, process_unfit, process_end}
use Rattle.rows.proofs.unread.Unread.process_end.Goals as goal

pub returns-in_err-head-clause-ends : goal.returns-in_err-head-clause-ends
returns-in_err-head-clause-ends c = rw c.from_residual.ensures (process_none c.args.self.now.words.now c.args.at c.in_err-head.ensures.is)

pub returns-then-head-gt16-clause-ends : goal.returns-then-head-gt16-clause-ends
returns-then-head-gt16-clause-ends c =
    let unfit = c.then-head-gt16.either in
    process_unfit c.args.self.now.words.now c.args.at c.in_ok-head.head c.in_ok-head.ensures.is (λ few wide loaded. grind arith)

pub returns-clause-ends : goal.returns-clause-ends
returns-clause-ends c =
    process_end c.args.self.now.words.now c.action_end.new.second c.args.at c.in_ok-head.head c.action_end.result c.in_ok-head.ensures.is c.in_ok-head.ensures.words
    c.if-head-gt16.false c.if-head-gt16-2.false c.if-head.false c.action_end.ensures.ends
