use Rattle.std.proofs.Common.{◌≡◌, take}
use Rattle.records.specs.Records.{record_of}
use Rattle.evaluation.specs.Handing.{with_numbers}
use Rattle.evaluation.proofs.handing.push_numbers.Given as goal

abbrev pub invariant-loop-number : goal.invariant-loop-number
invariant-loop-number l = record_of l.process ≡ with_numbers (record_of l.initial.process) (take l.number-index l.numbers)
