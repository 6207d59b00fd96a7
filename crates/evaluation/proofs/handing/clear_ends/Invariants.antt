use Rattle.std.proofs.Common.{◌≡◌, take}
use Rattle.records.specs.Records.{record_of}
use Rattle.evaluation.specs.Handing.{taken_from}
use Rattle.evaluation.proofs.handing.clear_ends.Given as goal

abbrev pub invariant-loop-conversation : goal.invariant-loop-conversation
invariant-loop-conversation l = record_of l.process ≡ taken_from (record_of l.initial.process) (take l.conversation-index l.listed)
