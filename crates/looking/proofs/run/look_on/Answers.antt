use Rattle.std.proofs.lemmas.Result.{err_from_is_err_and}
use Rattle.looking.proofs.LookLaws.{goes_on, comes_end, comes_err}
use Rattle.looking.proofs.run.look_on.Goals as goal

pub returns-in_err-look_once : goal.returns-in_err-look_once
returns-in_err-look_once c =
    let p = err_from_is_err_and c.from_residual.result c.from_residual.ensures.1 in
    rw (p.1, p.2) (comes_err c.args.rows.now.words.now c.args.rows.now.map.now c.args.processes.now c.loop.processes c.look_once.new.processes c.args.shown.now c.loop.shown c.look_once.new.shown c.args.from c.loop.at c.look_once.new.at c.loop.auto.processes c.loop.invariant.2 c.in_err-look_once.field-0.0 c.in_err-look_once.ensures)

pub loop-smaller : goal.loop-smaller
loop-smaller c =
    let h = c.requires.going in
    let t = goes_on c.args.rows.now.words.now c.args.rows.now.map.now c.args.processes.now c.loop.processes c.look_once.new.processes c.args.shown.now c.loop.shown c.look_once.new.shown c.args.from c.loop.at c.look_once.new.at c.loop.auto.processes c.loop.invariant.2 c.in_ok-look_once.field-0 c.if-branch.true c.in_ok-look_once.ensures in
    (t.2 h.program h.configuration h.old h.reads h.mapped h.standing).1

pub loop-preserved : goal.loop-preserved
loop-preserved c =
    let t = goes_on c.args.rows.now.words.now c.args.rows.now.map.now c.args.processes.now c.loop.processes c.look_once.new.processes c.args.shown.now c.loop.shown c.look_once.new.shown c.args.from c.loop.at c.look_once.new.at c.loop.auto.processes c.loop.invariant.2 c.in_ok-look_once.field-0 c.if-branch.true c.in_ok-look_once.ensures in
    (t.0, t.1, λ g a old reads mapped d. (t.2 g a old reads mapped d).0)

pub returns : goal.returns
returns c =
    comes_end c.args.rows.now.words.now c.args.rows.now.map.now c.args.processes.now c.loop.processes c.look_once.new.processes c.args.shown.now c.loop.shown c.look_once.new.shown c.args.from c.loop.at c.look_once.new.at c.loop.auto.processes c.loop.invariant.2 c.in_ok-look_once.field-0 c.if-branch.false c.in_ok-look_once.ensures
