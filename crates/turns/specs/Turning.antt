-- What a turn of a process promises.
use Rattle.std.specs.Prelude.{◌≡◌, ℕ, suc, ◌+◌, ◌<◌, ◌≤◌, Bool, true, false, ◌⊎◌, List, [], ◌∷◌, ◌++◌, length, Result, Ok, Err, ◌≢◌}
use Rattle.std.proofs.Math.Option.{some, none}
use Rattle.model.specs.Program.{nth, Expression, Action, start, become, Process, Program}
use Rattle.model.specs.Steps.{Endpoint, running, Worker, Configuration, Step, Steps, only_first}
use Rattle.model.specs.Rows.{Reads}
use Rattle.rows.specs.declared.map.Map.{Map}
use Rattle.rows.specs.Mapped.{Mapped}
use Rattle.queues.specs.Lines.{waiter_at, Noted}
use Rattle.turns.specs.declared.turn.Turn.{Turn}
use Rattle.turns.specs.declared.turn.Turn.TheVariants.{On, Shown, Both, Started, Off}
use Rattle.turns.specs.declared.turn.Trouble.{Trouble}
use Rattle.turns.specs.declared.turn.Trouble.TheVariants.{Crowded, Odd}
use Rattle.turns.specs.Holding.{Holding, potential}
use Rattle.turns.specs.Scheduling.{wish, waiting, In, Scheduled}

-- A worker that would have, or would make one that has, more than sixteen conversations or variables.
pub data Crammed (g : Program) (w : Worker) : Type 0 where
  starting : (f : ℕ) (cs : List ℕ) (es : List Expression) (s : Action) (p : Process) → w.todo ≡ start f cs es s → nth g.procs f ≡ some p →
      (15 < length cs) ⊎ ((16 < length es) ⊎ (15 < length w.ends)) → Crammed g w
  becoming : (f : ℕ) (cs : List ℕ) (es : List Expression) (p : Process) → w.todo ≡ become f cs es → nth g.procs f ≡ some p →
      (16 < length cs) ⊎ (16 < length es) → Crammed g w

-- What does not happen where the program keeps to its conversations: two processes that wait at one end of a line,
-- or a worker with more conversations or variables than there is room for.
pub data Oddness (g : Program) (a : Configuration) : Type 0 where
  shared : (i j : ℕ) (w v : Worker) (e : Endpoint) → (i ≢ j) → nth a.workers i ≡ some w → nth a.workers j ≡ some v → w.state ≡ running → v.state ≡ running →
      waiting w ≡ some e → waiting v ≡ some e → Oddness g a
  crammed : (i : ℕ) (w : Worker) → nth a.workers i ≡ some w → w.state ≡ running → Crammed g w → Oddness g a

-- Before a turn of process i, with q the rest of the queue.
pub record Before (s second : List ℕ) (g : Program) (procs lines : List (List ℕ)) (count i : ℕ) (a : Configuration) (q : List ℕ) : Type 0 where
  pub holding : Holding s second procs count a
  pub scheduled : Scheduled g a.workers (waiter_at lines) (In (i ∷ q))
  pub once : In q i → ⊥

-- After it: some steps lead to a configuration that the words hold then, the queue is q, the numbers ns were shown,
-- and the potential fell by d at least.
pub record After (s second : List ℕ) (g : Program) (procs procs' lines' : List (List ℕ)) (count count' : ℕ) (a : Configuration) (q ns : List ℕ) (d : ℕ) : Type 0 where
  pub now : Configuration
  pub steps : Steps g a now
  pub holding : Holding s second procs' count' now
  pub scheduled : Scheduled g now.workers (waiter_at lines') (In q)
  pub shown : now.shown ≡ a.shown ++ ns
  pub falls : potential s procs' count' + d ≤ potential s procs count

-- One more process than so many can be had.
pub record OneMore (g : Program) (a : Configuration) (count : ℕ) : Type 0 where
  pub now : Configuration
  pub step : Step g a now
  pub many : length now.workers ≡ suc count

-- what a turn answers is right
abbrev pub Turned : List ℕ → List ℕ → Program → List (List ℕ) → List (List ℕ) → List (List ℕ) → ℕ → ℕ → ℕ → Configuration → List ℕ → Result Turn Trouble → Type 0
Turned s second g procs procs' lines' most count i a q (Ok On) = After s second g procs procs' lines' count count a (i ∷ q) [] 1
Turned s second g procs procs' lines' most count i a q (Ok (Shown v)) = After s second g procs procs' lines' count count a (i ∷ q) (only_first i (v ∷ [])) 1
Turned s second g procs procs' lines' most count i a q (Ok (Both j)) = After s second g procs procs' lines' count count a (j ∷ i ∷ q) [] 1 × (In (i ∷ q) j → ⊥)
Turned s second g procs procs' lines' most count i a q (Ok Started) = After s second g procs procs' lines' count (suc count) a (count ∷ i ∷ q) [] 1 × (count < most)
Turned s second g procs procs' lines' most count i a q (Ok Off) = After s second g procs procs' lines' count count a q [] 0
Turned s second g procs procs' lines' most count i a q (Err Crowded) = OneMore g a count × (most ≤ count)
Turned s second g procs procs' lines' most count i a q (Err Odd) = Oddness g a

-- for every program that the words are the writing of, every configuration that they hold, and every queue
abbrev pub Turns : List ℕ → Map → List (List ℕ) → List (List ℕ) → List (List ℕ) → List (List ℕ) → ℕ → ℕ → ℕ → Result Turn Trouble → Type 0
Turns s m procs lines procs' lines' most count i t =
    (g : Program) (a : Configuration) (q : List ℕ) → Reads s g → Mapped s g m → Before s m.second g procs lines count i a q → Turned s m.second g procs procs' lines' most count i a q t

-- the same for a process that is known to wait in a conversation
abbrev pub Communicates : List ℕ → Map → List (List ℕ) → List (List ℕ) → List (List ℕ) → List (List ℕ) → ℕ → ℕ → ℕ → Result Turn Trouble → Type 0
Communicates s m procs lines procs' lines' count i c t =
    (most : ℕ) (g : Program) (a : Configuration) (q : List ℕ) → Before s m.second g procs lines count i a q → ((w : Worker) → nth a.workers i ≡ some w → wish w.todo ≡ some c) →
    Turned s m.second g procs procs' lines' most count i a q t

-- process i is noted at an end where nobody was; or somebody is
abbrev pub Parked : List (List ℕ) → List (List ℕ) → Endpoint → ℕ → Bool → Type 0
Parked lines lines' e i true = (waiter_at lines e ≡ none) × Noted lines lines' e (some i)
Parked lines lines' e i false = (k : ℕ) × (waiter_at lines e ≡ some k)

-- the same for what a process does without regard to lines
abbrev pub Acts : List ℕ → Map → List (List ℕ) → List (List ℕ) → ℕ → ℕ → Turn → Type 0
Acts s m procs procs' count i t =
    (most : ℕ) (lines : List (List ℕ)) (g : Program) (a : Configuration) (q : List ℕ) → Before s m.second g procs lines count i a q → Turned s m.second g procs procs' lines most count i a q (Ok t)

-- what is odd is found before anything is written
abbrev pub Unwritten : List (List ℕ) → List (List ℕ) → Result Turn Trouble → Type 0
Unwritten procs procs' (Ok t) = Unit {0}
Unwritten procs procs' (Err Crowded) = Unit {0}
Unwritten procs procs' (Err Odd) = procs' ≡ procs

-- the process goes on
abbrev pub Goes : Turn → Type 0
Goes On = Unit {0}
Goes (Shown v) = Unit {0}
Goes (Both j) = ⊥
Goes Started = ⊥
Goes Off = ⊥
