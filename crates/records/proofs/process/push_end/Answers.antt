use Rattle.std.proofs.Common.{arith}
use Rattle.records.specs.Records.{viewed}
use Rattle.records.proofs.RecordLaws.{end_pushed}
use Rattle.records.proofs.process.push_end.Goals as goal

pub returns : goal.returns
returns c =
    end_pushed c.args.process.now (omega arith) c.ends_count-k.result c.end_code-line.result.0 c.end_code-line.result.1 (viewed c.args.end)
    c.ends_count-k.ensures.is (omega arith) c.end_code-line.ensures
