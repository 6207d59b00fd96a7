use Rattle.std.proofs.Common.{[], ◌∷◌, ◌++◌, length, get_or, take, sym, ap, ◌∙◌, arith, length-take}
use mathlib.Core.Option.{some}
use Rattle.judging.proofs.ProgramTests.{begins_more, begins_length}
use Rattle.judging.proofs.beginning.begun.Goals as goal

pub returns-in_err-add : goal.returns-in_err-add
returns-in_err-add c =
    let k = c.loop-point.point-index in
    let full = c.in_err-add.ensures.0 in
    let l = ap length c.loop-point.invariant in
    let m = begins_length (take k c.args.points.now) in
    let n = length-take k c.args.points.now in
    rw c.from_residual.ensures (omega arith)

pub loop-point-preserved : goal.loop-point-preserved
loop-point-preserved c =
    let k = c.loop-point.point-index in
    c.in_ok-add.ensures ∙ (ap (λ a. a ++ (some (get_or c.args.points.now k 0) ∷ [])) c.loop-point.invariant ∙ sym (begins_more c.args.points.now k c.loop-point-test.true))
