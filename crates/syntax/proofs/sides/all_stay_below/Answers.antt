use Rattle.std.proofs.Common.{sym, ap, ◌∙◌}
use Rattle.std.proofs.lemmas.List.{take_all}
use Rattle.syntax.proofs.Halves.{below_more, below_not}
use Rattle.syntax.proofs.sides.all_stay_below.Goals as goal
use Rattle.syntax.specs.Meaning.{points_of}
use Rattle.syntax.specs.Mirror.{all_below}
use Rattle.syntax.specs.declared.tree.Point.TheVariants.{Over}

pub returns-then-not-stays_below : goal.returns-then-not-stays_below
returns-then-not-stays_below c =
    sym (below_not c.args.all c.args.points.now c.loop-p.p-index Over c.loop-p-test.true (sym c.if-not-stays_below.ensures))

pub loop-p-preserved : goal.loop-p-preserved
loop-p-preserved c =
    below_more c.args.all c.args.points.now c.loop-p.p-index Over c.loop-p-test.true c.loop-p.invariant (sym c.if-not-stays_below.ensures)

pub returns : goal.returns
returns c =
    sym (ap (λ ps. all_below c.args.all (points_of ps)) (sym (take_all c.loop-p.p-index c.args.points.now c.loop-p-test.false)) ∙ c.loop-p.invariant)
