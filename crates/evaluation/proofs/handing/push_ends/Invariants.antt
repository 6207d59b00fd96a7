use Rattle.std.proofs.Common.{◌≡◌, take, map}
use Rattle.records.specs.Records.{record_of, viewed}
use Rattle.evaluation.specs.Handing.{with_ends}
use Rattle.evaluation.proofs.handing.push_ends.Given as goal

abbrev pub invariant-loop-end : goal.invariant-loop-end
invariant-loop-end l = record_of l.process ≡ with_ends (record_of l.initial.process) (map viewed (take l.end-index l.ends))
