use Rattle.records.specs.Records.{record_of}
use Rattle.evaluation.proofs.HandingLaws.{Gathered}
use Rattle.evaluation.proofs.handed.conversations_at.Given as goal

abbrev pub invariant-loop-k : goal.invariant-loop-k
invariant-loop-k l = Gathered l.listed (record_of l.process).ends l.k l.ends
