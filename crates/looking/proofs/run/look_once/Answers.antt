use Rattle.std.proofs.Common.{Some, length, refl, ap, ◌∙◌, arith}
use Rattle.std.proofs.lemmas.Result.{err_from_is_err_and}
use Rattle.looking.specs.Searching.{AtEnd}
use Rattle.looking.proofs.LookLaws.{midway_quiet, midway_one, midway_shows, midway_fails, step_is}
use Rattle.looking.proofs.run.look_once.Goals as goal

pub returns-in_err-step : goal.returns-in_err-step
returns-in_err-step c =
    let p = err_from_is_err_and c.from_residual.result c.from_residual.ensures.1 in
    rw (p.1, p.2) (λ g a old reads mapped d. midway_fails c.args.rows.now.words.now c.args.rows.now.map.now.second g (length c.args.processes.now) old c.args.processes.now c.args.shown.now c.args.at.now.count c.args.at.now.total a d c.args.rows.now.map.now refl reads mapped c.in_err-step.field-0.0 c.in_err-step.ensures)

pub returns-in-On : goal.returns-in-On
returns-in-On c = (
  c.requires.some,
  c.requires.fits,
  λ g a old reads mapped d. midway_quiet c.args.rows.now.words.now c.args.rows.now.map.now.second g (length c.args.processes.now) old c.args.processes.now c.args.shown.now c.args.at.now.count c.args.at.now.total a d c.any_step.new.processes c.args.at.now.count ((step_is c.args.rows.now.words.now c.args.rows.now.map.now c.args.processes.now c.any_step.new.processes (length c.args.processes.now) c.args.at.now.count (AtEnd c.args.rows.now.words.now c.args.rows.now.map.now c.args.processes.now c.args.at.now.count) c.in_ok-step.field-0 _ (c.in-Some.is ∙ ap Some c.in-On.is) c.in_ok-step.ensures) g d.now reads mapped d.holding) c.requires.fits,
)

pub returns-in-Shown : goal.returns-in-Shown
returns-in-Shown c = (
  c.requires.some,
  c.requires.fits,
  λ g a old reads mapped d. midway_shows c.args.rows.now.words.now c.args.rows.now.map.now.second g (length c.args.processes.now) old c.args.processes.now c.args.shown.now c.args.at.now.count c.args.at.now.total a d c.any_step.new.processes c.write_down-at.new.shown c.in-Shown.value c.write_down-at.result ((step_is c.args.rows.now.words.now c.args.rows.now.map.now c.args.processes.now c.any_step.new.processes (length c.args.processes.now) c.args.at.now.count (AtEnd c.args.rows.now.words.now c.args.rows.now.map.now c.args.processes.now c.args.at.now.count) c.in_ok-step.field-0 _ (c.in-Some.is ∙ ap Some c.in-Shown.is) c.in_ok-step.ensures) g d.now reads mapped d.holding) c.write_down-at.ensures,
)

pub returns-in-Started : goal.returns-in-Started
returns-in-Started c =
    let t = (step_is c.args.rows.now.words.now c.args.rows.now.map.now c.args.processes.now c.any_step.new.processes (length c.args.processes.now) c.args.at.now.count (AtEnd c.args.rows.now.words.now c.args.rows.now.map.now c.args.processes.now c.args.at.now.count) c.in_ok-step.field-0 _ (c.in-Some.is ∙ ap Some c.in-Started.is) c.in_ok-step.ensures) in (
      omega arith,
      omega arith,
      λ g a old reads mapped d. midway_one c.args.rows.now.words.now c.args.rows.now.map.now.second g (length c.args.processes.now) old c.args.processes.now c.args.shown.now c.args.at.now.count c.args.at.now.total a d c.any_step.new.processes (t.1 g d.now reads mapped d.holding) t.0,
    )
