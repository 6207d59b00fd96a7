use Rattle.std.proofs.Common.{sym, ◌∙◌, arith}
use Rattle.rows.proofs.Talks.{leaf_found}
use Rattle.evaluation.proofs.ValueLaws.{at_or_0_is, nothing_deep, nothing_there, number_value, variable_value, pair_value}
use Rattle.evaluation.proofs.expressions.+evaluate_operate.Goals as goal

pub evaluate-returns-in-Some-Number-clause-value : goal.evaluate-returns-in-Some-Number-clause-value
evaluate-returns-in-Some-Number-clause-value t c =
    number_value c.args.p.now c.args.vars.now c.args.at c.args.depth c.in-Some-Number.n c.in-Some-Number.field-0 (leaf_found c.args.p.now c.args.at c.in-Some-Number.field-0 c.in-Some-Number.ensures.is) c.in-Some-Number.field-0-is

pub evaluate-returns-in-Some-Variable-clause-value : goal.evaluate-returns-in-Some-Variable-clause-value
evaluate-returns-in-Some-Variable-clause-value t c =
    variable_value c.args.p.now c.args.vars.now c.args.at c.args.depth c.in-Some-Variable.x c.word.result c.in-Some-Variable.field-0
    (leaf_found c.args.p.now c.args.at c.in-Some-Variable.field-0 c.in-Some-Variable.ensures.is) c.in-Some-Variable.field-0-is (c.word.ensures ∙ at_or_0_is c.args.vars.now c.in-Some-Variable.x)

pub operate-returns-then-depth-eq0-clause-value : goal.operate-returns-then-depth-eq0-clause-value
operate-returns-then-depth-eq0-clause-value t c = nothing_deep c.args.p.now c.args.vars.now c.args.at c.args.depth (record { value = 0; next = c.args.at }) (omega arith)

pub operate-returns-in-Some-Pair-clause-value : goal.operate-returns-in-Some-Pair-clause-value
operate-returns-in-Some-Pair-clause-value t c =
    pair_value c.args.p.now c.args.vars.now c.args.at c.args.depth c.in-Some-Pair.operator c.in-Some-Pair.first c.in-Some-Pair.field-0
    c.evaluate-a.result c.evaluate-b.result c.apply.result c.in-Some-Pair.ensures.is c.in-Some-Pair.ensures.words c.in-Some-Pair.field-0-is
    c.evaluate-a.ensures.value c.evaluate-b.ensures.value c.apply.ensures

pub operate-returns-in_default-2-clause-value : goal.operate-returns-in_default-2-clause-value
operate-returns-in_default-2-clause-value t c = nothing_there c.args.p.now c.args.vars.now c.args.at c.args.depth (record { value = 0; next = c.args.at }) (sym c.in_default.is ∙ c.term_at.ensures.is)
