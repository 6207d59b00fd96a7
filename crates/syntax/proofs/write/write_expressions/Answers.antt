use Rattle.std.proofs.Common.{◌++◌, vec_items, ap, ◌∙◌}
use Rattle.syntax.proofs.Flat.{flat_all, flat_expressions, flat_more, expression_words}
use Rattle.syntax.proofs.write.write_expressions.Goals as goal

pub loop-e-preserved : goal.loop-e-preserved
loop-e-preserved c =
    flat_more expression_words c.args.es.now c.loop-e.e-index c.e-item.result c.e-item.result (vec_items c.args.out.now) (vec_items c.loop-e.out) (vec_items c.write_expression.new.out) c.loop-e-test.true c.e-item.is c.loop-e.invariant c.in_ok-write_expression.ensures

pub returns : goal.returns
returns c =
    let xs = c.args.es.now in
    let a = vec_items c.args.out.now in
    flat_all expression_words xs c.loop-e.e-index a (vec_items c.loop-e.out) c.loop-e-test.false c.loop-e.invariant ∙ ap (λ ws. a ++ ws) (flat_expressions xs)
