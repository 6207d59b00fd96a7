use Rattle.judging.proofs.VariableLaws.{Checked}
use Rattle.judging.proofs.setting.Setting.all_variables_there.Given as goal

abbrev pub invariant-loop : goal.invariant-loop
invariant-loop l = Checked l.self.rows.words.now l.at l.depth l.self.variables l.count l.counter l.here
