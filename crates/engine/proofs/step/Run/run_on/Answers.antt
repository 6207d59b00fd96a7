use Rattle.std.proofs.lemmas.Grind.{common_steps}
use Rattle.std.proofs.Common.{◌∙◌, arith}
use Rattle.model.specs.Steps.{here}
use Rattle.turns.specs.declared.turn.Trouble.TheVariants.{Crowded, Odd}
use Rattle.engine.proofs.EndingLaws.{in_place, in_place_on, reached_on, reached_still, ends_err, tells_err}
use Rattle.engine.proofs.step.Run.run_on.Goals as goal

pub loop-self-init : goal.loop-self-init
loop-self-init c = (in_place c.args.self.now, λ g a old reads mapped run. record { now = a; steps = here; running = run })

pub loop-self-smaller : goal.loop-self-smaller
loop-self-smaller c =
    let h = c.requires in
    let d = c.loop-self.invariant.1 h.program h.configuration h.old h.reads h.mapped h.running in
    (c.in-Ok.ensures.right h.program d.now h.old h.reads h.mapped d.running).falls

pub loop-self-preserved : goal.loop-self-preserved
loop-self-preserved c = (
  in_place_on c.args.self.now c.loop-self.self c.step.new.self c.loop-self.invariant.0 c.step.ensures.keeps,
  λ g a old reads mapped run.
      let d = c.loop-self.invariant.1 g a old reads mapped run in
      reached_on c.args.rows.now.words.now c.args.rows.now.map.now.second g old c.loop-self.shown c.loop-self.self a d c.step.new.shown c.step.new.self (c.in-Ok.ensures.right g d.now old reads mapped d.running),
)

pub returns-in-Err-Crowded-clause-ends : goal.returns-in-Err-Crowded-clause-ends
returns-in-Err-Crowded-clause-ends c = (
  c.step.ensures.room ∙ c.loop-self.invariant.0.records,
  λ g a old reads mapped run. ends_err c.args.rows.now.words.now c.args.rows.now.map.now g old c.loop-self.shown c.loop-self.self a (c.loop-self.invariant.1 g a old reads mapped run) reads mapped c.step.new.shown c.step.new.self c.step.ensures.room Crowded (rw c.in-Err-Crowded.field-0-is at c.in-Err-Crowded.ensures.right),
)

pub returns-in-Err-Crowded-clause-tells : goal.returns-in-Err-Crowded-clause-tells
returns-in-Err-Crowded-clause-tells c g a old reads mapped run = tells_err c.args.rows.now.words.now c.args.rows.now.map.now g old c.loop-self.shown c.loop-self.self a (c.loop-self.invariant.1 g a old reads mapped run) reads mapped c.step.new.shown c.step.new.self Crowded (rw c.in-Err-Crowded.field-0-is at c.in-Err-Crowded.ensures.right) (rw c.in-Err-Crowded.field-0-is at c.in-Err-Crowded.ensures.leaves)

pub returns-in-Err-Crowded-clause-keeps : goal.returns-in-Err-Crowded-clause-keeps
returns-in-Err-Crowded-clause-keeps c = in_place_on c.args.self.now c.loop-self.self c.step.new.self c.loop-self.invariant.0 c.step.ensures.keeps

pub returns-in-Err-Odd-clause-ends : goal.returns-in-Err-Odd-clause-ends
returns-in-Err-Odd-clause-ends c = (
  c.step.ensures.room ∙ c.loop-self.invariant.0.records,
  λ g a old reads mapped run. ends_err c.args.rows.now.words.now c.args.rows.now.map.now g old c.loop-self.shown c.loop-self.self a (c.loop-self.invariant.1 g a old reads mapped run) reads mapped c.step.new.shown c.step.new.self c.step.ensures.room Odd (rw c.in-Err-Odd.field-0-is at c.in-Err-Odd.ensures.right),
)

pub returns-in-Err-Odd-clause-tells : goal.returns-in-Err-Odd-clause-tells
returns-in-Err-Odd-clause-tells c g a old reads mapped run = tells_err c.args.rows.now.words.now c.args.rows.now.map.now g old c.loop-self.shown c.loop-self.self a (c.loop-self.invariant.1 g a old reads mapped run) reads mapped c.step.new.shown c.step.new.self Odd (rw c.in-Err-Odd.field-0-is at c.in-Err-Odd.ensures.right) (rw c.in-Err-Odd.field-0-is at c.in-Err-Odd.ensures.leaves)

-- field by field, and of the lines by search, so that a body is refused for letting go of them, and not for how it is written
pub returns-in-Err-Odd-clause-keeps : goal.returns-in-Err-Odd-clause-keeps
returns-in-Err-Odd-clause-keeps c =
    let k = in_place_on c.args.self.now c.loop-self.self c.step.new.self c.loop-self.invariant.0 c.step.ensures.keeps in
    record { processes = k.processes; lines = grind (arith, common_steps); slots = k.slots; records = k.records; sides = grind (arith, common_steps); places = k.places }

pub returns-clause-ends : goal.returns-clause-ends
returns-clause-ends c = (
  c.loop-self.invariant.0.records,
  λ g a old reads mapped run. reached_still c.args.rows.now.words.now c.args.rows.now.map.now.second g old c.loop-self.shown c.loop-self.self a (c.loop-self.invariant.1 g a old reads mapped run) c.loop-self.self.fits c.loop-self-test.false,
)

pub returns-clause-keeps : goal.returns-clause-keeps
returns-clause-keeps c = c.loop-self.invariant.0
