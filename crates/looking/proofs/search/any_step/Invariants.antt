use Rattle.std.proofs.Common.{◌≡◌, ℕ, ◌<◌}
use Rattle.queues.specs.Slots.{slot}
use Rattle.looking.specs.Searching.{NoStep}
use Rattle.looking.proofs.search.any_step.Given as goal

-- the words are as they were, and none of those that were looked at can take a step
abbrev pub invariant-loop-k : goal.invariant-loop-k
invariant-loop-k l = (l.processes ≡ l.initial.processes) × ((k : ℕ) → k < l.k → NoStep l.rows.words.now l.rows.map.now l.initial.processes l.count (slot l.count l.first k))
