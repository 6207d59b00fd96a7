-- Who waits for whom.
use Rattle.std.specs.Prelude.{◌≡◌, ◌⊎◌, List, ℕ, zero, suc}
use Rattle.std.proofs.Math.Option.{Option, some, none}
use Rattle.model.specs.Program.{nth, Action, stop, give, take, choose, offer, set, if, show, start, become}
use Rattle.model.specs.Steps.{Endpoint, running, spent, Worker, Together}
use Rattle.model.specs.Picture.{Holds}

-- the conversation in which an action waits for another process; none where it needs no other
abbrev pub awaits : Action → Option ℕ
awaits stop = none
awaits (give c e s) = some c
awaits (take c x s) = some c
awaits (choose c k s) = some c
awaits (offer c s t) = some c
awaits (set x e s) = none
awaits (if e s t) = none
awaits (show e s) = none
awaits (start f cs es s) = none
awaits (become f cs es) = none

-- process i waits at an end
abbrev pub WaitsAt : List Worker → ℕ → Endpoint → Type 0
WaitsAt ws i e = (w : Worker) × (c : ℕ) × (nth ws i ≡ some w) × (w.state ≡ running) × (awaits w.todo ≡ some c) × (nth w.ends c ≡ some (some e))

-- process i does not wait: it is out of turns, or at an action that needs no other
abbrev pub NotWaiting : List Worker → ℕ → Type 0
NotWaiting ws i = (w : Worker) × (nth ws i ≡ some w) × ((w.state ≡ spent) ⊎ ((w.state ≡ running) × (awaits w.todo ≡ none)))

-- process i waits for process j, which holds the other end of the line at whose end i waits
pub record WaitsFor (ws : List Worker) (i j : ℕ) : Type 0 where
  pub near : Endpoint
  pub far : Endpoint
  pub line : near.line ≡ far.line
  pub sides : near.side ≡ far.side → ⊥
  pub waits : WaitsAt ws i near
  pub holds : Holds ws j far

-- from process i to process k in so many hops, each from one that waits to one that it waits for
abbrev pub Hops : List Worker → ℕ → ℕ → ℕ → Type 0
Hops ws zero i k = i ≡ k
Hops ws (suc n) i k = (j : ℕ) × WaitsFor ws i j × Hops ws n j k

-- what processes i and j want is one step of both
abbrev pub FitsWith : List Worker → ℕ → ℕ → Type 0
FitsWith ws i j = (w : Worker) × (v : Worker) × (w' : Worker) × (v' : Worker) × (nth ws i ≡ some w) × (nth ws j ≡ some v) × (w.state ≡ running) × (v.state ≡ running) × Together w v w' v'

-- processes i and j wait at the two ends of one line, and so for each other, and what they want fits
pub record Meeting (ws : List Worker) (i j : ℕ) : Type 0 where
  pub near : Endpoint
  pub far : Endpoint
  pub line : near.line ≡ far.line
  pub sides : near.side ≡ far.side → ⊥
  pub this : WaitsAt ws i near
  pub that : WaitsAt ws j far
  pub fits : FitsWith ws i j ⊎ FitsWith ws j i
