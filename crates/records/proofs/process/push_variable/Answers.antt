use Rattle.std.proofs.Common.{arith}
use Rattle.records.proofs.RecordLaws.{variable_pushed}
use Rattle.records.proofs.process.push_variable.Goals as goal

pub returns : goal.returns
returns c = variable_pushed c.args.process.now (omega arith) c.variables_count-k.result c.args.value c.variables_count-k.ensures.is (omega arith)
