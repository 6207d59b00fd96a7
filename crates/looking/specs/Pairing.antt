-- What is promised where two processes are to take a step together.
use Rattle.std.specs.Prelude.{◌≡◌, ℕ, ◌<◌, Bool, true, false, List, [], ◌≢◌}
use Rattle.model.specs.Steps.{Endpoint, running, Worker, Facing, Together}
use Rattle.rows.specs.declared.map.Map.{Map}
use Rattle.records.specs.Records.{record_at}
use Rattle.turns.specs.Holding.{Holds}
use Rattle.turns.specs.Scheduling.{waiting}
use Rattle.turns.specs.Meeting.{Exchanged}
use Rattle.looking.specs.Moving.{Moved, Each}

-- two ends are of one line, and of different sides
abbrev pub Faces : Endpoint → Endpoint → Bool → Type 0
Faces e d true = (e.line ≡ d.line) × (e.side ≢ d.side)
Faces e d false = e.line ≡ d.line → (e.side ≢ d.side) → ⊥

-- processes i and j take no step together
abbrev pub NoMeeting : List ℕ → List ℕ → List (List ℕ) → ℕ → ℕ → Type 0
NoMeeting s second procs i j = (w v w' v' : Worker) → Holds s second (record_at procs i) w → Holds s second (record_at procs j) v → (Together w v w' v' → ⊥) × (Together v w v' w' → ⊥)

-- they have taken one; or they take none, and the words are as they were
abbrev pub Paired : List ℕ → List ℕ → List (List ℕ) → List (List ℕ) → ℕ → ℕ → Bool → Type 0
Paired s second procs procs' i j true = Exchanged s second procs procs' i j true ×
    ((w v : Worker) → Holds s second (record_at procs i) w → Holds s second (record_at procs j) v → Facing (waiting w) (waiting v))
Paired s second procs procs' i j false = (procs' ≡ procs) × NoMeeting s second procs i j

-- process j, if it is another that is running, takes no step together with process i
abbrev pub Unmet : List ℕ → List ℕ → List (List ℕ) → ℕ → ℕ → Type 0
Unmet s second procs i j = (j ≢ i) → (record_at procs j).state ≡ running → NoMeeting s second procs i j

abbrev pub MetOne : List ℕ → List ℕ → List (List ℕ) → List (List ℕ) → ℕ → ℕ → Bool → Type 0
MetOne s second procs procs' i j true = (j ≢ i) × ((record_at procs j).state ≡ running) × Paired s second procs procs' i j true
MetOne s second procs procs' i j false = (procs' ≡ procs) × Unmet s second procs i j

-- process i has taken a step together with some other; or it takes none with any
abbrev pub MetAny : List ℕ → Map → List (List ℕ) → List (List ℕ) → ℕ → ℕ → Bool → Type 0
MetAny s m procs procs' count i true = Each s m procs count (λ g a. Moved s m.second g procs procs' count count a [])
MetAny s m procs procs' count i false = (procs' ≡ procs) × ((j : ℕ) → j < count → Unmet s m.second procs i j)
