use Rattle.judging.proofs.CallLaws.{points_found}
use Rattle.judging.proofs.beginning.beginning.Goals as goal

pub returns : goal.returns
returns c g known =
    let found = c.in_ok-head.ensures.is g known in
    record { found = found; talks = points_found c.args.rows.now.words.now c.args.rows.now.map.now.second g c.args.process c.in_ok-head.head found }
