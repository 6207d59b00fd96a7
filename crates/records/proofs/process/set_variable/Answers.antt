use Rattle.std.proofs.Common.{arith}
use Rattle.records.proofs.RecordLaws.{variable_set, variable_past}
use Rattle.records.proofs.process.set_variable.Goals as goal

pub returns-then-variable-variables_count : goal.returns-then-variable-variables_count
returns-then-variable-variables_count c = variable_set c.args.process.now (omega arith) c.args.variable c.args.value (omega arith)

pub returns-else-variable-variables_count : goal.returns-else-variable-variables_count
returns-else-variable-variables_count c = variable_past c.args.process.now (omega arith) c.args.variable c.args.value (omega arith)
