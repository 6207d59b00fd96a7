use Rattle.std.proofs.Common.{vec_len}
use Rattle.printer.proofs.processes.Processes.close.Given as goal

abbrev pub decreases-loop-open : goal.decreases-loop-open
decreases-loop-open l = vec_len l.self.open
