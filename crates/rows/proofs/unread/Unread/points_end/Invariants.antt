use Rattle.std.proofs.Common.{◌≡◌}
use Rattle.rows.specs.Sections.{PointsAt}
use Rattle.rows.proofs.unread.Unread.points_end.Given as goal

abbrev pub invariant-loop : goal.invariant-loop
invariant-loop l = record { found : PointsAt l.self.words.now l.places.at l.at l.counter l.here; counted : l.places.count ≡ l.counter }
