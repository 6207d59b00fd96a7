use Rattle.std.proofs.Common.{ℕ, ◌<◌, false}
use Rattle.records.specs.Records.{record_at, endpoint}
use Rattle.jams.specs.Told.{HoldsEnd}
use Rattle.jams.proofs.holders.holder.Given as goal

abbrev pub invariant-loop-j : goal.invariant-loop-j
invariant-loop-j l = (k : ℕ) → k < l.j → HoldsEnd (record_at l.processes k) (endpoint l.e) false
