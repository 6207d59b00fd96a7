use Rattle.std.proofs.Common.{sym, ◌∙◌}
use Rattle.records.proofs.RecordLaws.{vars_long}
use Rattle.records.proofs.process.variables_count.Goals as goal

pub returns-clause-is : goal.returns-clause-is
returns-clause-is c = c.min.ensures ∙ sym (vars_long c.args.of.now)
