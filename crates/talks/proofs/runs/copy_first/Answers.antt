use Rattle.std.proofs.Common.{rules}
use Rattle.std.proofs.lemmas.Slice.{overwrites}
use Rattle.talks.proofs.runs.copy_first.Goals as goal

pub returns : goal.returns
returns c = record { first = search (rules, overwrites); rest = search (rules, overwrites) }
