-- What the words of a run hold, between one turn and the next.
use Rattle.std.specs.Prelude.{◌≡◌, ℕ, ◌+◌, ◌*◌, ◌<◌, ◌≤◌, List, length, Result, Ok, Err}
use Rattle.std.proofs.Math.Option.{some}
use Rattle.model.specs.Program.{nth, Program}
use Rattle.model.specs.Steps.{Configuration, Steps}
use Rattle.model.specs.Rows.{Reads}
use Rattle.rows.specs.declared.map.Map.{Map}
use Rattle.rows.specs.Mapped.{Mapped}
use Rattle.queues.specs.Lines.{waiter_at}
use Rattle.queues.specs.Rings.{items}
use Rattle.turns.specs.declared.turn.Trouble.{Trouble}
use Rattle.turns.specs.declared.turn.Trouble.TheVariants.{Crowded, Odd}
use Rattle.turns.specs.Holding.{Holding, potential}
use Rattle.turns.specs.Scheduling.{In, Scheduled}
use Rattle.turns.specs.Turning.{Oddness, OneMore}
use Rattle.engine.specs.declared.step.Run.{Run}
use Rattle.engine.specs.Shown.{overlay, counted}

-- nobody stands twice in a queue
abbrev pub Once : List ℕ → Type 0
Once q = (k l i : ℕ) → nth q k ≡ some i → nth q l ≡ some i → k ≡ l

-- the words hold a configuration, and all who can go on are in the queue
pub record Running (s second : List ℕ) (g : Program) (old shown : List ℕ) (r : Run) (a : Configuration) : Type 0 where
  pub holding : Holding s second r.processes.now r.count a
  pub scheduled : Scheduled g a.workers (waiter_at r.lines.now) (In (items r.ready))
  pub once : Once (items r.ready)
  pub written : shown ≡ overlay a.shown old
  pub total : r.total ≡ counted a.shown

-- a number that each turn lowers
abbrev pub measure : List ℕ → Run → ℕ
measure s r = 2 * potential s r.processes.now r.count + r.ready.count

-- some steps have led to a configuration that the words hold now
pub record Went (s second : List ℕ) (g : Program) (old shown' : List ℕ) (r r' : Run) (a : Configuration) : Type 0 where
  pub now : Configuration
  pub steps : Steps g a now
  pub running : Running s second g old shown' r' now
  pub falls : measure s r' < measure s r

-- what is said for every program that the words are the writing of and every configuration that they hold
abbrev pub Each : List ℕ → Map → List ℕ → Run → (Program → Configuration → List ℕ → Type 0) → Type 0
Each s m shown r P = (g : Program) (a : Configuration) (old : List ℕ) → Reads s g → Mapped s g m → Running s m.second g old shown r a → P g a old

-- what is said where a turn cannot be taken
abbrev pub Breaks : List ℕ → Map → List ℕ → Run → Trouble → Type 0
Breaks s m shown r Crowded = Each s m shown r (λ g a old. OneMore g a r.count × (length r.processes.now ≤ r.count))
Breaks s m shown r Odd = Each s m shown r (λ g a old. Oddness g a)

-- what a turn answers is right
abbrev pub Right : List ℕ → Map → List ℕ → List ℕ → Run → Run → Result (Unit {0}) Trouble → Type 0
Right s m shown shown' r r' (Ok _) = Each s m shown r (λ g a old. Went s m.second g old shown' r r' a)
Right s m shown shown' r r' (Err e) = Breaks s m shown r e

-- the records, how many processes there are, and how many numbers were shown, are as they were
pub record Alike (r r' : Run) : Type 0 where
  pub processes : r'.processes.now ≡ r.processes.now
  pub count : r'.count ≡ r.count
  pub total : r'.total ≡ r.total

-- where the run does not go on, the numbers shown are as they were, and what is odd is found before anything is written
abbrev pub Leaves : List ℕ → Map → List ℕ → List ℕ → Run → Run → Result (Unit {0}) Trouble → Type 0
Leaves s m shown shown' r r' (Ok _) = Unit {0}
Leaves s m shown shown' r r' (Err Crowded) = Each s m shown r (λ g a old. shown' ≡ shown)
Leaves s m shown shown' r r' (Err Odd) = Each s m shown r (λ g a old. Alike r r' × (shown' ≡ shown))

-- a run is in the same records, lines and slots as before, and there are as many of each
pub record InPlace (r r' : Run) : Type 0 where
  pub processes : r'.processes.ghost_name ≡ r.processes.ghost_name
  pub lines : r'.lines.ghost_name ≡ r.lines.ghost_name
  pub slots : r'.ready.slots.ghost_name ≡ r.ready.slots.ghost_name
  pub records : length r'.processes.now ≡ length r.processes.now
  pub sides : length r'.lines.now ≡ length r.lines.now
  pub places : length r'.ready.slots.now ≡ length r.ready.slots.now

-- how many processes there are, how many numbers were shown, the order, and the queue are as they were
pub record Unmoved (r r' : Run) : Type 0 where
  pub count : r'.count ≡ r.count
  pub total : r'.total ≡ r.total
  pub order : r'.order ≡ r.order
  pub head : r'.ready.head ≡ r.ready.head
  pub ready : r'.ready.count ≡ r.ready.count
  pub slots : r'.ready.slots.now ≡ r.ready.slots.now

-- where a turn cannot be taken, for whatever reason, nothing of it is counted or drawn
abbrev pub Stays : Run → Run → Result (Unit {0}) Trouble → Type 0
Stays r r' (Ok _) = Unit {0}
Stays r r' (Err _) = Unmoved r r'
