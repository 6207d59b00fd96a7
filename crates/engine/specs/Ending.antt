-- What a run promises when it ends.
use Rattle.std.specs.Prelude.{◌≡◌, ℕ, ◌<◌, ◌≤◌, List, length, Result, Ok, Err}
use Rattle.model.specs.Program.{Program}
use Rattle.model.specs.Steps.{Configuration, Steps}
use Rattle.model.specs.Rows.{Reads}
use Rattle.model.specs.Theorems.{Still}
use Rattle.rows.specs.declared.map.Map.{Map}
use Rattle.rows.specs.Mapped.{Mapped}
use Rattle.turns.specs.declared.turn.Trouble.{Trouble}
use Rattle.turns.specs.declared.turn.Trouble.TheVariants.{Crowded, Odd}
use Rattle.turns.specs.Holding.{Holding}
use Rattle.turns.specs.Turning.{Oddness}
use Rattle.engine.specs.declared.step.Run.{Run}
use Rattle.engine.specs.Shown.{overlay, counted}
use Rattle.engine.specs.Running.{Running, Each}

-- the words are the writing of some program, and hold some configuration
pub record Held (s : List ℕ) (m : Map) (shown : List ℕ) (r : Run) : Type 0 where
  pub program : Program
  pub configuration : Configuration
  pub old : List ℕ
  pub reads : Reads s program
  pub mapped : Mapped s program m
  pub running : Running s m.second program old shown r configuration

-- some steps have led to a configuration that the words hold
pub record Reached (s second : List ℕ) (g : Program) (old shown : List ℕ) (r : Run) (a : Configuration) : Type 0 where
  pub now : Configuration
  pub steps : Steps g a now
  pub running : Running s second g old shown r now

-- where no step is possible: how many processes there are and what was shown
pub record Finished (s second : List ℕ) (g : Program) (most : ℕ) (old : List ℕ) (procs : List (List ℕ)) (shown : List ℕ) (count total : ℕ) (a : Configuration) : Type 0 where
  pub now : Configuration
  pub steps : Steps g a now
  pub still : Still g now
  pub holding : Holding s second procs count now
  pub few : count ≤ most
  pub written : shown ≡ overlay now.shown old
  pub total_is : total ≡ counted now.shown

-- some steps lead to more processes than so many
pub record TooMany (g : Program) (most : ℕ) (a : Configuration) : Type 0 where
  pub now : Configuration
  pub steps : Steps g a now
  pub many : most < length now.workers

-- some steps lead to what does not happen where a program keeps to its conversations
pub record Strange (g : Program) (a : Configuration) : Type 0 where
  pub now : Configuration
  pub steps : Steps g a now
  pub odd : Oddness g now

abbrev pub Ending : List ℕ → List ℕ → Program → List ℕ → List ℕ → Configuration → Run → Result (Unit {0}) Trouble → Type 0
Ending s second g old shown a r (Ok _) = Finished s second g (length r.processes.now) old r.processes.now shown r.count r.total a
Ending s second g old shown a r (Err Crowded) = TooMany g (length r.processes.now) a
Ending s second g old shown a r (Err Odd) = Strange g a

-- for every program that the words are the writing of, and every configuration that they hold at first
abbrev pub Endings : List ℕ → Map → List ℕ → List ℕ → Run → Run → Result (Unit {0}) Trouble → Type 0
Endings s m shown shown' r r' e = (length r'.processes.now ≡ length r.processes.now) × Each s m shown r (λ g a old. Ending s m.second g old shown' a r' e)

-- before the end: some steps have led to a configuration that the words hold
pub record Midway (s second : List ℕ) (g : Program) (most : ℕ) (old : List ℕ) (procs : List (List ℕ)) (shown : List ℕ) (count total : ℕ) (a : Configuration) : Type 0 where
  pub now : Configuration
  pub steps : Steps g a now
  pub holding : Holding s second procs count now
  pub few : count ≤ most
  pub written : shown ≡ overlay now.shown old
  pub total_is : total ≡ counted now.shown

-- what was shown on the way is laid over what was there before
pub record Written (g : Program) (old shown : List ℕ) (a : Configuration) : Type 0 where
  pub now : Configuration
  pub steps : Steps g a now
  pub written : shown ≡ overlay now.shown old

-- what is told where a run does not come to its end: the numbers shown on the way, and where something is odd, all that the words hold
abbrev pub Telling : List ℕ → List ℕ → Program → List ℕ → List ℕ → Configuration → Run → Result (Unit {0}) Trouble → Type 0
Telling s second g old shown a r (Ok _) = Unit {0}
Telling s second g old shown a r (Err Crowded) = Written g old shown a
Telling s second g old shown a r (Err Odd) = (d : Midway s second g (length r.processes.now) old r.processes.now shown r.count r.total a) × Oddness g d.now

-- the same for every program that the words are the writing of, and every configuration that they hold at first
abbrev pub Tellings : List ℕ → Map → List ℕ → List ℕ → Run → Run → Result (Unit {0}) Trouble → Type 0
Tellings s m shown shown' r r' e = Each s m shown r (λ g a old. Telling s m.second g old shown' a r' e)
