use Rattle.std.proofs.Common.{◌-◌, length}
use Rattle.judging.specs.Standing.{stand}
use Rattle.judging.proofs.WalkLaws.{Walked}
use Rattle.judging.proofs.setting.Setting.+keeps_from.Given as goal

abbrev pub decreases-keeps_from : goal.decreases-keeps_from
decreases-keeps_from l = l.depth

abbrev pub invariant-loop-end : goal.invariant-loop-end
invariant-loop-end l = Walked l.self l.at l.depth (stand l.initial.current) l.here l.deep l.current

abbrev pub decreases-loop-end : goal.decreases-loop-end
decreases-loop-end l = length l.self.rows.words.now - l.here
