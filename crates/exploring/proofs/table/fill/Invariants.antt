use Rattle.std.proofs.Common.{◌≡◌, ◌≤◌, length}
use Rattle.exploring.specs.Table.{OfEach, running_below, Rows}
use Rattle.exploring.proofs.table.fill.Given as goal

-- the rows of those that were looked at are in the table
abbrev pub invariant-loop-i : goal.invariant-loop-i
invariant-loop-i l = (l.n ≤ l.i) × OfEach l.p l.processes l.count (λ ws. (l.n ≡ length (running_below ws l.i)) × Rows l.p ws (running_below ws l.i) l.initial.left l.left)
