use Rattle.std.proofs.Common.{arith}
use Rattle.rows.proofs.Walks.{walk_none, walk_on, walk_fault, walk_end, walk_shallow, walk_first, walk_fork}
use Rattle.rows.proofs.unread.Unread.+action_end.Goals as goal

pub loop-end-init : goal.loop-end-init
loop-end-init t c = walk_none c.args.self.now.words.now c.args.second.now c.args.at c.args.depth c.args.room

pub returns-in_err-end-clause-ends : goal.returns-in_err-end-clause-ends
returns-in_err-end-clause-ends t c = rw c.from_residual.ensures (walk_fault c.loop-end.invariant c.in_err-end.ensures)

pub returns-in-End-clause-ends : goal.returns-in-End-clause-ends
returns-in-End-clause-ends t c = walk_end c.loop-end.invariant ((rw c.in-End.is at c.in_ok-end.ensures) c.loop-end.second)

pub loop-end-preserved-in-On : goal.loop-end-preserved-in-On
loop-end-preserved-in-On t c = walk_on c.loop-end.invariant (rw c.in-On.is at c.in_ok-end.ensures)

pub returns-in_err-deep-in-Fork-clause-ends : goal.returns-in_err-deep-in-Fork-clause-ends
returns-in_err-deep-in-Fork-clause-ends t c =
    rw c.from_residual-in_err-deep-in-Fork.ensures (walk_shallow c.loop-end.invariant (rw c.in-Fork.is at c.in_ok-end.ensures) c.in_err-deep-in-Fork.ensures)

pub returns-in_err-next-in-Fork-clause-ends : goal.returns-in_err-next-in-Fork-clause-ends
returns-in_err-next-in-Fork-clause-ends t c =
    rw c.from_residual-in_err-next-in-Fork.ensures (walk_first c.loop-end.invariant (rw c.in-Fork.is at c.in_ok-end.ensures) c.in_ok-deep-in-Fork.ensures c.in_err-next-in-Fork.ensures.ends)

pub loop-end-preserved : goal.loop-end-preserved
loop-end-preserved t c =
    walk_fork c.loop-end.invariant (rw c.in-Fork.is at c.in_ok-end.ensures) c.in_ok-next-in-Fork.ensures.before c.in_ok-deep-in-Fork.ensures c.in_ok-next-in-Fork.ensures.ends (omega arith)
