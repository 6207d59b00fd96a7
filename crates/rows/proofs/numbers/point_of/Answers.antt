use Rattle.rows.proofs.Lookups.{no_point, point_is}
use Rattle.rows.proofs.numbers.point_of.Goals as goal

pub returns-in_err-get : goal.returns-in_err-get
returns-in_err-get c g known = rw c.from_residual.ensures (no_point known c.args.point c.in_err-get.ensures)

pub returns : goal.returns
returns c g known = point_is known c.args.point c.in_ok-get.ensures c.point_at.ensures.is
