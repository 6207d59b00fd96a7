use Rattle.std.proofs.Common.{inl, inr, arith}
use Rattle.rows.proofs.ExpressionLaws.{shallow, no_term, number_at, variable_at, pair_no_first, pair_end}
use Rattle.rows.proofs.expressions.+expression_end.Goals as goal

pub returns-then-depth-eq0 : goal.returns-then-depth-eq0
returns-then-depth-eq0 t c = shallow c.args.p.now c.args.at c.args.depth (omega arith)

pub returns-in_err-term_at : goal.returns-in_err-term_at
returns-in_err-term_at t c = rw c.from_residual.ensures (no_term c.args.p.now c.args.at c.args.depth c.in_err-term_at.ensures.is)

pub returns-in-Number : goal.returns-in-Number
returns-in-Number t c =
    let w = c.in_ok-term_at.ensures.words in
    elim c.in-Number.is [
      | inl (n, is) ↦ number_at c.args.p.now c.args.at c.args.depth n c.in_ok-term_at.field-0 (omega arith) w is
      | inr (n, is) ↦ variable_at c.args.p.now c.args.at c.args.depth n c.in_ok-term_at.field-0 (omega arith) w is
    ]

pub returns-in_err-second-in-Pair : goal.returns-in_err-second-in-Pair
returns-in_err-second-in-Pair t c =
    let k = c.in_ok-term_at.ensures in
    rw c.from_residual-in_err-second-in-Pair.ensures
    (pair_no_first c.args.p.now c.args.at c.args.depth c.in-Pair.first c.in-Pair.operator c.in_ok-term_at.field-0 (omega arith) k.is k.words c.in-Pair.is c.in_err-second-in-Pair.ensures)

pub returns-in_ok-second-in-Pair : goal.returns-in_ok-second-in-Pair
returns-in_ok-second-in-Pair t c =
    let k = c.in_ok-term_at.ensures in
    pair_end c.args.p.now c.args.at c.args.depth c.in-Pair.first c.in-Pair.operator c.in_ok-term_at.field-0 (omega arith) k.is k.words c.in-Pair.is
    c.expression_end-in-Pair.result c.in_ok-second-in-Pair.ensures c.expression_end-in-Pair.ensures
