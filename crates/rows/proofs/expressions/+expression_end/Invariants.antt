use Rattle.rows.proofs.expressions.+expression_end.Given as goal

abbrev pub decreases-expression-end : goal.decreases-expression-end
decreases-expression-end l = l.depth
