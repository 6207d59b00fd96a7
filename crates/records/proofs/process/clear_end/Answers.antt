use Rattle.std.proofs.Common.{arith}
use Rattle.records.proofs.RecordLaws.{end_cleared, cleared_past}
use Rattle.records.proofs.process.clear_end.Goals as goal

pub returns-then-k-ends_count : goal.returns-then-k-ends_count
returns-then-k-ends_count c = end_cleared c.args.process.now (omega arith) c.args.conversation (omega arith)

pub returns-else-k-ends_count : goal.returns-else-k-ends_count
returns-else-k-ends_count c = cleared_past c.args.process.now (omega arith) c.args.conversation (omega arith)
