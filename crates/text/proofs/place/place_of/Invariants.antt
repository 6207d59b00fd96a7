use Rattle.std.proofs.Common.{◌≡◌, ◌≤◌, take}
use Rattle.text.proofs.place.place_of.Given as goal
use Rattle.text.specs.Reached.{spot, spot_of}

abbrev pub invariant-loop-i : goal.invariant-loop-i
invariant-loop-i l = (spot_of l.place ≡ spot (take l.i l.bytes)) × (l.place.line ≤ l.i) × (l.place.column ≤ l.i)
