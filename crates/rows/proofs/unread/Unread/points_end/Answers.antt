use Rattle.std.proofs.Common.{arith}
use Rattle.rows.proofs.PointLaws.{points_again, points_stuck}
use Rattle.rows.proofs.unread.Unread.points_end.Goals as goal

pub returns-in_err-kind-clause-places : goal.returns-in_err-kind-clause-places
returns-in_err-kind-clause-places c = rw c.from_residual.ensures (points_stuck c.loop.invariant.found c.loop-test.true c.in_err-kind.ensures.is)

pub loop-preserved : goal.loop-preserved
loop-preserved c =
    let add = c.in_ok-add.ensures in
    record { found = points_again c.loop.invariant.found c.in_ok-kind.kind c.in_ok-kind.ensures.words c.point_size-here.ensures c.loop.invariant.counted (omega arith) add.2; counted = omega arith }
