use Rattle.std.proofs.Common.{arith}
use Rattle.judging.proofs.VariableLaws.{deep_says, none_says, number_says, variable_says, first_missing, second_says}
use Rattle.judging.proofs.setting.Setting.+variables_there.Goals as goal

pub returns-then-depth-eq0-clause-says : goal.returns-then-depth-eq0-clause-says
returns-then-depth-eq0-clause-says t c = deep_says c.args.self.now.rows.words.now c.args.at c.args.depth c.args.self.now.variables (omega arith)

pub returns-in_err-term_at-clause-says : goal.returns-in_err-term_at-clause-says
returns-in_err-term_at-clause-says t c = rw c.from_residual.ensures (none_says c.args.self.now.rows.words.now c.args.at c.args.depth c.args.self.now.variables c.in_err-term_at.ensures.is)

pub returns-in-Number-clause-says : goal.returns-in-Number-clause-says
returns-in-Number-clause-says t c = number_says c.args.self.now.rows.words.now c.args.at c.args.depth c.args.self.now.variables (rw c.in-Number.is at c.in_ok-term_at.ensures.is)

pub returns-in-Variable-clause-says : goal.returns-in-Variable-clause-says
returns-in-Variable-clause-says t c =
    variable_says c.args.self.now.rows.words.now c.args.at c.args.depth c.args.self.now.variables (rw c.in-Variable.is at c.in_ok-term_at.ensures.is) c.then_some.ensures

pub returns-in_err-second-in-Pair-clause-says : goal.returns-in_err-second-in-Pair-clause-says
returns-in_err-second-in-Pair-clause-says t c =
    rw c.from_residual-in_err-second-in-Pair.ensures
    (first_missing c.args.self.now.rows.words.now c.args.at c.args.depth c.args.self.now.variables (rw c.in-Pair.is at c.in_ok-term_at.ensures.is) (omega arith) c.in_err-second-in-Pair.ensures.says)

pub returns-in_ok-second-in-Pair-clause-says : goal.returns-in_ok-second-in-Pair-clause-says
returns-in_ok-second-in-Pair-clause-says t c =
    second_says c.args.self.now.rows.words.now c.args.at c.args.depth c.args.self.now.variables (rw c.in-Pair.is at c.in_ok-term_at.ensures.is) (omega arith)
    c.in_ok-second-in-Pair.second c.variables_there-in-Pair.result c.in_ok-second-in-Pair.ensures.says c.variables_there-in-Pair.ensures.says
