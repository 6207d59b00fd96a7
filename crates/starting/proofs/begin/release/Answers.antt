use Rattle.std.proofs.Common.{◌<◌, length, sym, subst}
use Rattle.records.specs.Records.{record_of}
use Rattle.starting.proofs.BeginningLaws.{released_few}
use Rattle.starting.proofs.begin.release.Goals as goal

pub push_end-requires : goal.push_end-requires
push_end-requires c = subst (λ r. length r.ends < 16) (sym c.clear_ends.ensures) (released_few (record_of c.args.process.now) c.args.listed.now c.requires)
