use Rattle.engine.specs.Running.{InPlace, Each, measure}
use Rattle.engine.specs.Ending.{Reached}
use Rattle.engine.proofs.step.Run.run_on.Given as goal

-- the run is in the same records, lines and slots as at first, and from whatever the words held then, some steps have led to what they hold now
abbrev pub invariant-loop-self : goal.invariant-loop-self
invariant-loop-self l = (same : InPlace l.initial.self l.self) ×
    Each l.rows.words.now l.rows.map.now l.initial.shown l.initial.self (λ g a old. Reached l.rows.words.now l.rows.map.now.second g old l.shown l.self a)

abbrev pub decreases-loop-self : goal.decreases-loop-self
decreases-loop-self l = measure l.rows.words.now l.self
