use Rattle.std.proofs.Common.{◌<◌, ◌≢◌, length, arith, get_or-set_other, get_or-set_same, below_more}
use Rattle.engine.proofs.set_up.clear.Goals as goal

pub loop-line-preserved : goal.loop-line-preserved
loop-line-preserved c =
    below_more _ _
    (λ k h. let ne : k ≢ c.loop-line.line-index = omega arith in rw get_or-set_other (c.loop-line.invariant k h))
    (let lt : c.loop-line.line-index < length c.loop-line.line-items = omega arith in rw get_or-set_same)

pub returns : goal.returns
returns c k h = c.loop-line.invariant k (omega arith)
