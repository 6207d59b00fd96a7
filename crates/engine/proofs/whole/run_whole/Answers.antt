use Rattle.std.proofs.Common.{Err, subst}
use Rattle.std.proofs.lemmas.Result.{err_from_is_err_and}
use Rattle.engine.specs.declared.set_up.Unready.{Unready}
use Rattle.engine.specs.Setting.{SetUp}
use Rattle.engine.proofs.WholeLaws.{runs_err, runs_ok, at_rest_empty, at_once}
use Rattle.engine.proofs.whole.run_whole.Goals as goal

pub returns-in-Err-Crowded : goal.returns-in-Err-Crowded
returns-in-Err-Crowded c g reads mapped = at_once g c.args.most c.args.turns (subst (λ (e : Unready). SetUp c.args.rows.now.words.now c.args.rows.now.map.now c.args.most c.args.turns (Err e)) c.in-Err-Crowded.field-0-is c.in-Err-Crowded.ensures g reads mapped)

pub returns-in-Err-Empty : goal.returns-in-Err-Empty
returns-in-Err-Empty c g reads mapped = at_rest_empty g c.args.most c.args.turns c.args.shown.now (subst (λ (e : Unready). SetUp c.args.rows.now.words.now c.args.rows.now.map.now c.args.most c.args.turns (Err e)) c.in-Err-Empty.field-0-is c.in-Err-Empty.ensures g reads mapped)

pub returns-in_err-run_on : goal.returns-in_err-run_on
returns-in_err-run_on c =
    let p = err_from_is_err_and c.from_residual.result c.from_residual.ensures.1 in
    rw (p.1, p.2) (runs_err c.args.rows.now.words.now c.args.rows.now.map.now c.args.most c.args.turns c.args.shown.now c.run_on.new.shown c.in-Ok.run' c.run_on.new.self c.in-Ok.ensures.0 (λ g reads mapped. c.in-Ok.ensures.1 g c.args.shown.now reads mapped) c.in_err-run_on.field-0.0 c.in_err-run_on.ensures.ends)

pub returns : goal.returns
returns c g reads mapped = runs_ok c.args.rows.now.words.now c.args.rows.now.map.now c.args.most c.args.turns c.args.shown.now c.run_on.new.shown c.in-Ok.run' c.run_on.new.self c.in-Ok.ensures.0 (λ g reads mapped. c.in-Ok.ensures.1 g c.args.shown.now reads mapped) c.in_ok-run_on.ensures.ends c.some_at.result c.some_at-2.result c.some_at.ensures c.some_at-2.ensures g reads mapped
