use Rattle.std.proofs.Common.{refl, arith}
use Rattle.records.specs.Records.{record_of}
use Rattle.evaluation.proofs.HandingLaws.{gathered_more, gathered_all}
use Rattle.evaluation.proofs.handed.conversations_at.Goals as goal

pub loop-k-init : goal.loop-k-init
loop-k-init c = record { long = refl; are = refl }

pub loop-k-preserved : goal.loop-k-preserved
loop-k-preserved c =
    gathered_more c.args.listed.now (record_of c.args.process.now).ends c.loop-k.k c.loop-k.ends c.end_at.result c.loop-k-test.true (omega arith) c.end_at.ensures c.loop-k.invariant

pub returns-clause-ends : goal.returns-clause-ends
returns-clause-ends c = gathered_all c.args.listed.now (record_of c.args.process.now).ends c.loop-k.k c.loop-k.ends (omega arith) c.loop-k.invariant
