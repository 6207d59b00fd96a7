use Rattle.std.proofs.Common.{sym, ◌∙◌}
use Rattle.records.proofs.RecordLaws.{ends_long}
use Rattle.records.proofs.process.ends_count.Goals as goal

pub returns-clause-is : goal.returns-clause-is
returns-clause-is c = c.min.ensures ∙ sym (ends_long c.args.of.now)
