use Rattle.std.proofs.Common.{◌+◌, ◌*◌, ◌≤◌, vec_len}
use Rattle.printer.proofs.points.read_points.Given as goal

abbrev pub invariant-loop : goal.invariant-loop
invariant-loop l = (l.at ≤ 3 * l.counter + 1) × (vec_len l.kinds ≤ l.counter)
