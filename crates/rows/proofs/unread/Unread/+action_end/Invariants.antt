use Rattle.std.proofs.Common.{◌-◌, length}
use Rattle.rows.proofs.Walks.{Walk}
use Rattle.rows.proofs.unread.Unread.+action_end.Given as goal

abbrev pub decreases-action_end : goal.decreases-action_end
decreases-action_end l = l.depth

abbrev pub invariant-loop-end : goal.invariant-loop-end
invariant-loop-end l = Walk l.self.words.now l.initial.second l.second l.at l.depth l.room l.here l.deep l.left

abbrev pub decreases-loop-end : goal.decreases-loop-end
decreases-loop-end l = length l.self.words.now - l.here
