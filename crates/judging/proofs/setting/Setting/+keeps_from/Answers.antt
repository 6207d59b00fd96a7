use Rattle.std.proofs.Common.{arith}
use Rattle.judging.proofs.WalkLaws.{walked_careless, walked_kept, walked_on, walked_shallow, walked_first, walked_second}
use Rattle.judging.proofs.setting.Setting.+keeps_from.Goals as goal

pub returns-in_err-end-clause-says : goal.returns-in_err-end-clause-says
returns-in_err-end-clause-says t c = rw c.from_residual.ensures (walked_careless c.loop-end.invariant c.in_err-end.ensures.says)

pub returns-in-Kept-clause-says : goal.returns-in-Kept-clause-says
returns-in-Kept-clause-says t c = walked_kept c.loop-end.invariant c.in-Kept.end (rw c.in-Kept.is at c.in_ok-end.ensures.says)

pub loop-end-preserved-in-On : goal.loop-end-preserved-in-On
loop-end-preserved-in-On t c =
    let behind = rw c.in-On.is at c.in_ok-end.ensures.behind in
    walked_on c.loop-end.invariant (rw c.in-On.is at c.in_ok-end.ensures.says) behind.0

pub returns-in_err-deep-in-Parted-clause-says : goal.returns-in_err-deep-in-Parted-clause-says
returns-in_err-deep-in-Parted-clause-says t c =
    let p = c.in-Parted in
    rw c.from_residual-in_err-deep-in-Parted.ensures (walked_shallow c.loop-end.invariant p.first p.one p.two (rw p.is at c.in_ok-end.ensures.says) c.in_err-deep-in-Parted.ensures)

pub returns-in_err-here-in-Parted-clause-says : goal.returns-in_err-here-in-Parted-clause-says
returns-in_err-here-in-Parted-clause-says t c =
    let p = c.in-Parted in
    rw c.from_residual-in_err-here-in-Parted.ensures
    (walked_first c.loop-end.invariant p.first p.one p.two (rw p.is at c.in_ok-end.ensures.says) c.in_ok-deep-in-Parted.deep c.in_ok-deep-in-Parted.ensures c.in_err-here-in-Parted.ensures.says)

pub loop-end-preserved : goal.loop-end-preserved
loop-end-preserved t c =
    let p = c.in-Parted in
    let behind = rw p.is at c.in_ok-end.ensures.behind in
    let further = c.in_ok-here-in-Parted.ensures.behind in
    walked_second c.loop-end.invariant p.first p.one p.two (rw p.is at c.in_ok-end.ensures.says) c.in_ok-deep-in-Parted.deep c.in_ok-deep-in-Parted.ensures
    c.in_ok-here-in-Parted.here c.in_ok-here-in-Parted.ensures.says (omega arith)
