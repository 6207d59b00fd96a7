use Rattle.rows.specs.Reading.{ExpressionsAt}
use Rattle.rows.proofs.expressions.expressions_end.Given as goal

abbrev pub invariant-loop : goal.invariant-loop
invariant-loop l = ExpressionsAt l.p l.at l.depth l.counter l.here
