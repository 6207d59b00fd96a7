use Rattle.exploring.proofs.ExploreLaws.{tells_spent, tells_jammed, tells_stopped}
use Rattle.exploring.proofs.runs.tell.Goals as goal

pub returns-then-some_at : goal.returns-then-some_at
returns-then-some_at c m a h =
    tells_spent c.args.p.now m c.args.processes.now c.args.count c.args.total c.args.left.now a h c.if-some_at.ensures

pub returns-then-some_at-2 : goal.returns-then-some_at-2
returns-then-some_at-2 c m a h =
    tells_jammed c.args.p.now m c.args.processes.now c.args.count c.args.total c.args.left.now a h c.fill.new.left c.fill.result c.if-some_at.ensures c.if-some_at-2.ensures (c.fill.ensures m a h)

pub returns : goal.returns
returns c m a h =
    tells_stopped c.args.p.now m c.args.processes.now c.args.count c.args.total c.args.left.now a h c.if-some_at.ensures c.if-some_at-2.ensures
