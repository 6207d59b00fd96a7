use Rattle.std.proofs.Common.{◌≡◌, ℕ, ◌<◌}
use mathlib.Core.Option.{some}
use Rattle.model.specs.Steps.{end}
use Rattle.records.specs.Records.{record_of, endpoint}
use Rattle.jams.proofs.holders.holds_end.Given as goal

abbrev pub invariant-loop-c : goal.invariant-loop-c
invariant-loop-c l = (k : ℕ) → k < l.c → end (record_of l.process).ends k ≡ some (endpoint l.e) → ⊥
