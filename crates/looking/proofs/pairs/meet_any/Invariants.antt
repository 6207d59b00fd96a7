use Rattle.std.proofs.Common.{◌≡◌, ℕ, ◌<◌}
use Rattle.queues.specs.Slots.{slot}
use Rattle.looking.specs.Pairing.{Unmet}
use Rattle.looking.proofs.pairs.meet_any.Given as goal

-- the words are as they were, and none of those that were looked at can meet process i
abbrev pub invariant-loop-k : goal.invariant-loop-k
invariant-loop-k l = (l.processes ≡ l.initial.processes) × ((k : ℕ) → k < l.k → Unmet l.rows.words.now l.rows.map.now.second l.initial.processes l.i (slot l.count l.from k))
