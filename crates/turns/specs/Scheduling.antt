-- Who can go on and who waits where.
--
-- Some processes are ready. Of all others that are running, none can take a step by itself, and no two can take one
-- together; each that waits at an end is noted there, and whoever is noted at an end waits there. So where nobody is
-- ready, no step is possible.
use Rattle.std.specs.Prelude.{◌≡◌, ℕ, ◌<◌, List, ◌≢◌}
use Rattle.std.proofs.Math.Option.{Option, some, none}
use Rattle.model.specs.Program.{nth, Action, stop, give, take, choose, offer, set, if, show, start, become, Program}
use Rattle.model.specs.Steps.{Endpoint, running, Worker, end, Alone, Together}

-- the conversation in which an action waits for the other side
abbrev pub wish : Action → Option ℕ
wish stop = none
wish (give c e s) = some c
wish (take c x s) = some c
wish (choose c k s) = some c
wish (offer c s t) = some c
wish (set x e s) = none
wish (if e s t) = none
wish (show e s) = none
wish (start f cs es s) = none
wish (become f cs es) = none

-- the end at which a worker waits for the other side
abbrev pub end_of : List (Option Endpoint) → Option ℕ → Option Endpoint
end_of es none = none
end_of es (some c) = end es c

abbrev pub waiting : Worker → Option Endpoint
waiting w = end_of w.ends (wish w.todo)

-- a number is in a list
abbrev pub In : List ℕ → ℕ → Type 0
In q i = (n : ℕ) × (nth q n ≡ some i)

-- process i is running, not ready, and waits at an end
pub record Waits (works : List Worker) (Ready : ℕ → Type 0) (e : Endpoint) (i : ℕ) : Type 0 where
  pub worker : Worker
  pub there : nth works i ≡ some worker
  pub runs : worker.state ≡ running
  pub idle : Ready i → ⊥
  pub at : waiting worker ≡ some e

-- process i is running
pub record Runs (works : List Worker) (i : ℕ) : Type 0 where
  pub worker : Worker
  pub there : nth works i ≡ some worker
  pub runs : worker.state ≡ running

pub record Scheduled (g : Program) (works : List Worker) (waiter : Endpoint → Option ℕ) (Ready : ℕ → Type 0) : Type 0 where
  pub ready : (i : ℕ) → Ready i → Runs works i
  pub noted : (i : ℕ) (w : Worker) (e : Endpoint) → nth works i ≡ some w → w.state ≡ running → (Ready i → ⊥) → e.side < 2 → waiting w ≡ some e → waiter e ≡ some i
  pub waits : (e : Endpoint) (i : ℕ) → e.side < 2 → waiter e ≡ some i → Waits works Ready e i
  pub lone : (i line : ℕ) (w w' : Worker) (ws : List Worker) (ns : List ℕ) → nth works i ≡ some w → w.state ≡ running → (Ready i → ⊥) → Alone g line w w' ws ns → ⊥
  pub pair : (i j : ℕ) (w v w' v' : Worker) → (i ≢ j) → nth works i ≡ some w → nth works j ≡ some v → w.state ≡ running → v.state ≡ running →
      (Ready i → ⊥) → (Ready j → ⊥) → Together w v w' v' → ⊥
