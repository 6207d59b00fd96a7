use Rattle.std.proofs.Common.{◌≡◌, ℕ, ◌<◌}
use Rattle.records.specs.Records.{record_at, state_is}
use Rattle.engine.proofs.out.some_at.Given as goal

abbrev pub invariant-loop-process : goal.invariant-loop-process
invariant-loop-process l = (k : ℕ) → k < l.process-index → (record_at l.processes k).state ≡ state_is l.how → ⊥
