use Rattle.records.specs.Records.{endpoint}
use Rattle.jams.proofs.WaitLaws.{ends_all}
use Rattle.jams.proofs.holders.holds_end.Goals as goal

pub returns : goal.returns
returns c = ends_all c.args.process.now c.loop-c.c (endpoint c.args.e) c.loop-c-test.false c.loop-c.invariant
