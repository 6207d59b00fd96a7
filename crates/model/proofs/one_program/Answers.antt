-- The contract is the theorem.
use Rattle.model.proofs.Writing.{one_program}
use Rattle.model.proofs.one_program.Goals as goal

pub returns : goal.returns
returns c = one_program
