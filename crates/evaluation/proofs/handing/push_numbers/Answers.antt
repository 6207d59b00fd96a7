use Rattle.std.proofs.Common.{◌<◌, length, get_or, ap, ◌∙◌, subst, sym, take_all, arith}
use Rattle.records.specs.Records.{record_of, with_number}
use Rattle.evaluation.specs.Handing.{with_numbers}
use Rattle.evaluation.proofs.GivingLaws.{numbers_none, numbers_more, numbers_few}
use Rattle.evaluation.proofs.handing.push_numbers.Goals as goal

pub loop-number-init : goal.loop-number-init
loop-number-init c = numbers_none (record_of c.args.process.now)

pub push_variable-requires : goal.push_variable-requires
push_variable-requires c =
    subst (λ r. length r.vars < 16) (sym c.loop-number.invariant) (numbers_few (record_of c.args.process.now) c.args.numbers.now c.loop-number.number-index c.loop-number-test.true c.requires)

pub loop-number-preserved : goal.loop-number-preserved
loop-number-preserved c =
    c.push_variable.ensures ∙ (ap (λ r. with_number r (get_or c.args.numbers.now c.loop-number.number-index 0)) c.loop-number.invariant ∙
    numbers_more (record_of c.args.process.now) c.args.numbers.now c.loop-number.number-index c.loop-number-test.true)

pub returns : goal.returns
returns c = c.loop-number.invariant ∙ ap (with_numbers (record_of c.args.process.now)) (take_all c.loop-number.number-index c.args.numbers.now (omega arith))
