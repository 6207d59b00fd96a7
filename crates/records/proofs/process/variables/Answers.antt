use Rattle.std.proofs.Common.{◌≡◌, ◌+◌, ◌-◌, take, drop, ap, ◌∙◌, arith}
use Rattle.records.proofs.RecordLaws.{vars_part}
use Rattle.records.proofs.process.variables.Goals as goal

pub returns : goal.returns
returns c =
    let e : 16 + c.variables_count.result - 16 ≡ c.variables_count.result = omega arith in
    ap (λ n. take n (drop 16 c.args.of.now)) e ∙ vars_part c.args.of.now c.variables_count.result c.variables_count.ensures.is (omega arith)
