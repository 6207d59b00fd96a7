use Rattle.std.proofs.Common.{length, refl, ◌∙◌, arith, rules, tests}
use Rattle.std.proofs.lemmas.Iterator.{YieldsList-from_range}
use Rattle.std.proofs.lemmas.Iterator.Search.{all_from_yields_List}
use Rattle.judging.specs.Program.{PointFits}
use Rattle.judging.proofs.ProgramTests.{tested}
use Rattle.model.specs.Program.{nth}
use Rattle.model.specs.Keeps.{then, points_fit}
use Rattle.judging.proofs.points.points_keep.Goals as goal

pub returns : goal.returns
returns c g known =
    let n = known.mapped.point_count in let few = known.reads.points in
    all_from_yields_List (λ i. then (nth g.points i) (PointFits g i)) _ _ c.all.result c.all.ensures.ran (YieldsList-from_range 0 c.min.result (length g.points) refl (omega arith)) (λ x b q k. search (rules, tests))
    ∙ tested (PointFits g) (points_fit g) (λ i. refl) (λ i x xs. refl) g.points
