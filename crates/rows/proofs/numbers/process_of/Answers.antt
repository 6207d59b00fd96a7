use Rattle.rows.proofs.Lookups.{no_process, process_is}
use Rattle.rows.proofs.numbers.process_of.Goals as goal

pub returns-in_err-get-clause-is : goal.returns-in_err-get-clause-is
returns-in_err-get-clause-is c g known = rw c.from_residual.ensures (no_process known c.args.process c.in_err-get.ensures)

pub returns-clause-is : goal.returns-clause-is
returns-clause-is c g known = process_is known c.args.process c.in_ok-get.ensures c.head_at.ensures.is
