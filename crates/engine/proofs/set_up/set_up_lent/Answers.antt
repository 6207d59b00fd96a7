use Rattle.std.proofs.Common.{◌∙◌, refl, arith}
use Rattle.engine.proofs.set_up.set_up_lent.Goals as goal

pub invariant_of-result-clause-inside : goal.invariant_of-result-clause-inside
invariant_of-result-clause-inside c = (let some = c.in_ok-set_up.ensures.begins.0 in omega arith)

pub invariant_of-result-2-clause-fits : goal.invariant_of-result-2-clause-fits
invariant_of-result-2-clause-fits c = (let some = c.in_ok-set_up.ensures.begins.0 in omega arith)

pub returns : goal.returns
returns c = (
  c.set_up.auto.processes ∙ c.parted-processes.ensures.processes,
  λ g shown reads mapped. c.in_ok-set_up.ensures.begins.1 g shown _ reads mapped (record { first = refl; sides = refl; ring = refl; head = refl; ready = refl; count = refl; total = refl }),
)
