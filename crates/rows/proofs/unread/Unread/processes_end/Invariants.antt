use Rattle.std.proofs.Common.{◌-◌, length}
use Rattle.rows.proofs.ProgramLaws.{Processed}
use Rattle.rows.proofs.unread.Unread.processes_end.Given as goal

abbrev pub invariant-loop-here : goal.invariant-loop-here
invariant-loop-here l = Processed l.self.words.now l.places.at l.second l.at l.places.count l.here

abbrev pub decreases-loop-here : goal.decreases-loop-here
decreases-loop-here l = length l.self.words.now - l.here
