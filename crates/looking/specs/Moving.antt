-- What is promised where a process, or two, or any at all, are to take one step.
use Rattle.std.specs.Prelude.{◌≡◌, ℕ, suc, ◌<◌, ◌≤◌, cond, List, [], ◌∷◌, ◌++◌, ◌==◌, nat_lt, Option, Some, None, Result, Ok, Err}
use Rattle.std.proofs.Math.Option.{some}
use Rattle.model.specs.Program.{nth, Program}
use Rattle.model.specs.Steps.{running, Worker, Configuration, Alone, Steps}
use Rattle.model.specs.Rows.{Reads}
use Rattle.rows.specs.declared.map.Map.{Map}
use Rattle.rows.specs.Mapped.{Mapped}
use Rattle.records.specs.Records.{record_at}
use Rattle.turns.specs.declared.turn.Turn.{Turn}
use Rattle.turns.specs.declared.turn.Turn.TheVariants.{On as TurnOn, Shown as TurnShown, Both, Started as TurnStarted, Off}
use Rattle.turns.specs.declared.turn.Trouble.{Trouble}
use Rattle.turns.specs.declared.turn.Trouble.TheVariants.{Crowded, Odd}
use Rattle.turns.specs.Holding.{Holds, Holding, potential}
use Rattle.turns.specs.Turning.{Crammed, OneMore}
use Rattle.looking.specs.declared.advance.Progress.{Progress}
use Rattle.looking.specs.declared.advance.Progress.TheVariants.{On, Shown, Started}

-- Some steps lead to a configuration that the words hold then, the numbers ns were shown, and the potential fell.
pub record Moved (s second : List ℕ) (g : Program) (procs procs' : List (List ℕ)) (count count' : ℕ) (a : Configuration) (ns : List ℕ) : Type 0 where
  pub now : Configuration
  pub steps : Steps g a now
  pub holding : Holding s second procs' count' now
  pub shown : now.shown ≡ a.shown ++ ns
  pub falls : potential s procs' count' < potential s procs count

-- A worker that is running would have, or would make one that has, more than sixteen conversations or variables.
pub record TooWide (g : Program) (a : Configuration) : Type 0 where
  pub process : ℕ
  pub worker : Worker
  pub there : nth a.workers process ≡ some worker
  pub runs : worker.state ≡ running
  pub crammed : Crammed g worker

-- what is said of every program that the words are the writing of, and every configuration that they hold
abbrev pub Each : List ℕ → Map → List (List ℕ) → ℕ → (Program → Configuration → Type 0) → Type 0
Each s m procs count P = (g : Program) (a : Configuration) → Reads s g → Mapped s g m → Holding s m.second procs count a → P g a

-- process i takes no step by itself
abbrev pub NotAlone : List ℕ → Map → List (List ℕ) → ℕ → Type 0
NotAlone s m procs i = (g : Program) (w : Worker) → Reads s g → Mapped s g m → Holds s m.second (record_at procs i) w →
    (line : ℕ) (w' : Worker) (ws : List Worker) (ns : List ℕ) → Alone g line w w' ws ns → ⊥

-- what a turn of process i comes to
abbrev pub told : ℕ → ℕ → ℕ → Turn → Result (Option Progress) Trouble
told i most count TurnOn = Ok (Some On)
told i most count (TurnShown v) = Ok (Some (cond (i == 0) (Shown v) On))
told i most count (Both j) = Ok (Some On)
told i most count TurnStarted = cond (nat_lt count most) (Ok (Some Started)) (Err Crowded)
told i most count Off = Ok None

-- what is said of an error: there would be more processes than so many, or somebody would have too much
abbrev pub Fails : List ℕ → Map → List (List ℕ) → ℕ → ℕ → Trouble → Type 0
Fails s m procs most count Crowded = Each s m procs count (λ g a. OneMore g a count × (most ≤ count))
Fails s m procs most count Odd = Each s m procs count (λ g a. TooWide g a)

-- The answer is right; where no step was taken, the words are as they were, and K holds.
abbrev pub Advanced : List ℕ → Map → List (List ℕ) → List (List ℕ) → ℕ → ℕ → Type 0 → Result (Option Progress) Trouble → Type 0
Advanced s m procs procs' most count K (Ok (Some On)) = Each s m procs count (λ g a. Moved s m.second g procs procs' count count a [])
Advanced s m procs procs' most count K (Ok (Some (Shown v))) = Each s m procs count (λ g a. Moved s m.second g procs procs' count count a (v ∷ []))
Advanced s m procs procs' most count K (Ok (Some Started)) = (count < most) × Each s m procs count (λ g a. Moved s m.second g procs procs' count (suc count) a [])
Advanced s m procs procs' most count K (Ok None) = (procs' ≡ procs) × K
Advanced s m procs procs' most count K (Err e) = Fails s m procs most count e
