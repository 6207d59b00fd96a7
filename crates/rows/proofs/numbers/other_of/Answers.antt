use Rattle.std.proofs.Common.{arith}
use Rattle.rows.proofs.Lookups.{no_other}
use Rattle.rows.proofs.numbers.other_of.Goals as goal

pub returns-then-i-map : goal.returns-then-i-map
returns-then-i-map c g known = no_other known c.args.point (omega arith)
