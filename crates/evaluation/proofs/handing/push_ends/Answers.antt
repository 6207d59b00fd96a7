use Rattle.std.proofs.Common.{◌<◌, length, get_or, map, None, ap, ◌∙◌, subst, sym, take_all, arith}
use Rattle.records.specs.Records.{record_of, viewed, with_end}
use Rattle.evaluation.specs.Handing.{with_ends}
use Rattle.evaluation.proofs.GivingLaws.{ends_none, ends_more, ends_few}
use Rattle.evaluation.proofs.handing.push_ends.Goals as goal

pub loop-end-init : goal.loop-end-init
loop-end-init c = ends_none (record_of c.args.process.now)

pub push_end-requires : goal.push_end-requires
push_end-requires c =
    subst (λ r. length r.ends < 16) (sym c.loop-end.invariant) (ends_few (record_of c.args.process.now) c.args.ends.now c.loop-end.end-index c.loop-end-test.true c.requires)

pub loop-end-preserved : goal.loop-end-preserved
loop-end-preserved c =
    c.push_end.ensures ∙ (ap (λ r. with_end r (viewed (get_or c.args.ends.now c.loop-end.end-index None))) c.loop-end.invariant ∙
    ends_more (record_of c.args.process.now) c.args.ends.now c.loop-end.end-index c.loop-end-test.true)

pub returns : goal.returns
returns c = c.loop-end.invariant ∙ ap (λ es. with_ends (record_of c.args.process.now) (map viewed es)) (take_all c.loop-end.end-index c.args.ends.now (omega arith))
