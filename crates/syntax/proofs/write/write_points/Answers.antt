use Rattle.std.proofs.Common.{◌++◌, get_or, vec_items, refl, ap, ◌∙◌}
use Rattle.syntax.proofs.Flat.{flat_all, flat_points, flat_more, point_words}
use Rattle.syntax.specs.declared.tree.Point.TheVariants.{Over}
use Rattle.syntax.proofs.write.write_points.Goals as goal

pub loop-p-preserved : goal.loop-p-preserved
loop-p-preserved c =
    let xs = c.args.points.now in
    flat_more point_words xs c.loop-p.p-index (get_or xs c.loop-p.p-index Over) Over (vec_items c.args.out.now) (vec_items c.loop-p.out) (vec_items c.write_point.new.out) c.loop-p-test.true refl c.loop-p.invariant c.in_ok-write_point.ensures

pub returns : goal.returns
returns c =
    let xs = c.args.points.now in
    let a = vec_items c.args.out.now in
    flat_all point_words xs c.loop-p.p-index a (vec_items c.loop-p.out) c.loop-p-test.false c.loop-p.invariant ∙ ap (λ ws. a ++ ws) (flat_points xs)
