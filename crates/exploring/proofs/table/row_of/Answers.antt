use Rattle.exploring.proofs.TableLaws.{row_nowhere, row_waits}
use Rattle.exploring.proofs.table.row_of.Goals as goal

pub returns-in-None : goal.returns-in-None
returns-in-None c m a h =
    row_nowhere c.args.p.now m c.args.processes.now c.args.count a h c.args.i c.requires.there c.requires.runs c.place.result c.place.ensures.place c.waits_at-end.result c.in-None.is c.waits_at-end.ensures

pub returns-in-Some : goal.returns-in-Some
returns-in-Some c m a h =
    row_waits c.args.p.now m c.args.processes.now c.args.count a h c.args.i c.requires.there c.requires.runs c.place.result c.place.ensures.place c.waits_at-end.result c.in-Some.e c.in-Some.is c.facing_end.result c.holder.result
    c.waits_at-end.ensures c.facing_end.ensures c.holder.ensures.holder c.holder.ensures.first
