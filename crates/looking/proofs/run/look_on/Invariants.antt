use Rattle.std.proofs.Common.{◌<◌, ◌≤◌, length}
use Rattle.turns.specs.Holding.{potential}
use Rattle.looking.specs.Looking.{EachRun, Standing}
use Rattle.looking.proofs.run.look_on.Given as goal

-- whatever run has led to where the words stood at first has led, in more steps, to where they stand now
abbrev pub invariant-loop : goal.invariant-loop
invariant-loop l = (0 < l.at.count) × (l.at.count ≤ length l.initial.processes) ×
    EachRun l.rows.words.now l.rows.map.now l.initial.processes l.initial.shown l.initial.at (λ g a old. Standing l.rows.words.now l.rows.map.now.second g (length l.initial.processes) old l.processes l.shown l.at a)

abbrev pub decreases-loop : goal.decreases-loop
decreases-loop l = potential l.rows.words.now l.processes l.at.count
