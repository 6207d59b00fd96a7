use Rattle.std.proofs.Common.{length-take, arith}
use Rattle.evaluation.proofs.HandingLaws.{going_none, going_more, going_all, sixteen}
use Rattle.evaluation.proofs.handed.numbers_at.Goals as goal

pub loop-value-init : goal.loop-value-init
loop-value-init c = going_none c.args.p.now c.args.vars.now c.args.at c.args.depth c.args.count c.requires

pub loop-value-preserved : goal.loop-value-preserved
loop-value-preserved c =
    going_more c.args.p.now c.args.vars.now c.args.at c.args.depth c.args.count c.loop-value.value-index c.loop-value.next c.loop-value.value-items c.evaluate-valued.result
    (let l = length-take c.args.count sixteen in let t = c.loop-value-test.true in omega arith) c.evaluate-valued.ensures.value c.evaluate-valued.ensures.within c.loop-value.invariant

pub returns-clause-numbers : goal.returns-clause-numbers
returns-clause-numbers c =
    going_all c.args.p.now c.args.vars.now c.args.at c.args.depth c.args.count c.loop-value.value-index c.loop-value.next c.loop-value.value-items
    (let l = length-take c.args.count sixteen in let t = c.loop-value-test.false in let b = c.loop-value.auto.value-index-end in omega arith) c.loop-value.invariant

pub returns-clause-within : goal.returns-clause-within
returns-clause-within c = c.loop-value.invariant.within
