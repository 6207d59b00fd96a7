-- What a whole run promises.
use Rattle.std.specs.Prelude.{◌≡◌, ℕ, ◌≤◌, Bool, true, false, List, length, Result, Ok, Err, ◌≢◌}
use Rattle.std.proofs.Math.Option.{some}
use Rattle.model.specs.Program.{nth, Program}
use Rattle.model.specs.Steps.{State, running, spent, Worker, Configuration, Steps, begin}
use Rattle.model.specs.Rows.{Reads}
use Rattle.model.specs.Theorems.{Still}
use Rattle.rows.specs.declared.map.Map.{Map}
use Rattle.rows.specs.Mapped.{Mapped}
use Rattle.turns.specs.declared.turn.Trouble.{Trouble}
use Rattle.turns.specs.declared.turn.Trouble.TheVariants.{Crowded, Odd}
use Rattle.engine.specs.declared.whole.Rest.{Rest}
use Rattle.engine.specs.Shown.{overlay, counted}
use Rattle.engine.specs.Ending.{TooMany, Strange}

-- the words are the writing of some program, and the map is its map
pub record Readable (s : List ℕ) (m : Map) : Type 0 where
  pub program : Program
  pub reads : Reads s program
  pub mapped : Mapped s program m

-- some process of a configuration stands so
abbrev pub SomeWorker : Configuration → State → Bool → Type 0
SomeWorker a k true = (i : ℕ) × (w : Worker) × (nth a.workers i ≡ some w) × (w.state ≡ k)
SomeWorker a k false = (i : ℕ) (w : Worker) → nth a.workers i ≡ some w → w.state ≢ k

-- A run from the beginning has come to where no step is possible.
pub record AtRest (g : Program) (most turns : ℕ) (old shown : List ℕ) (count total : ℕ) (out waits : Bool) : Type 0 where
  pub now : Configuration
  pub steps : Steps g (begin g turns) now
  pub still : Still g now
  pub many : length now.workers ≡ count
  pub few : count ≤ most
  pub written : shown ≡ overlay now.shown old
  pub total_is : total ≡ counted now.shown
  pub spent_is : SomeWorker now spent out
  pub waiting_is : SomeWorker now running waits

abbrev pub RunsTo : List ℕ → Map → ℕ → ℕ → List ℕ → List ℕ → Result Rest Trouble → Type 0
RunsTo s m most turns old shown (Ok r) = (g : Program) → Reads s g → Mapped s g m → AtRest g most turns old shown r.count r.total r.spent r.waiting
RunsTo s m most turns old shown (Err Crowded) = (g : Program) → Reads s g → Mapped s g m → TooMany g most (begin g turns)
RunsTo s m most turns old shown (Err Odd) = (g : Program) → Reads s g → Mapped s g m → Strange g (begin g turns)
