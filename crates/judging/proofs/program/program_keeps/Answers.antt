use Rattle.std.proofs.Common.{arith}
use Rattle.judging.proofs.program.program_keeps.Goals as goal

pub returns-then-p-gt16384 : goal.returns-then-p-gt16384
returns-then-p-gt16384 c g known = let w = known.reads.words in absurd (omega arith)
