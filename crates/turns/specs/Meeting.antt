-- What is promised where two processes that wait at facing ends are tried as giver and taker, or chooser and offerer.
use Rattle.std.specs.Prelude.{◌≡◌, ℕ, ◌+◌, ◌<◌, ◌≤◌, Bool, true, false, ◌⊎◌, List, length, Some, ◌≢◌}
use Rattle.rows.specs.declared.decode.Instruction.{Instruction}
use Rattle.rows.specs.declared.decode.Instruction.TheVariants.{Give, Choose}
use Rattle.rows.specs.Decode.{instruction_at, Words}
use Rattle.model.specs.Steps.{running, Worker, Facing, Together}
use Rattle.records.specs.Records.{record_at}
use Rattle.turns.specs.Holding.{Holds, weight}
use Rattle.turns.specs.Scheduling.{waiting}

-- process i is at an instruction
pub record Doing (s : List ℕ) (procs : List (List ℕ)) (i : ℕ) (k : Instruction) : Type 0 where
  pub is : Some k ≡ instruction_at s (record_at procs i).place
  pub words : Words s (record_at procs i).place k

-- a give of the value at a place, or a choice, stands here
pub record Giving (s : List ℕ) (at value : ℕ) : Type 0 where
  pub conversation : ℕ
  pub is : Some (Give conversation value) ≡ instruction_at s at
  pub starts : value ≡ at + 2
  pub within : value ≤ length s

pub record Choosing (s : List ℕ) (at way next : ℕ) : Type 0 where
  pub conversation : ℕ
  pub is : Some (Choose conversation way next) ≡ instruction_at s at
  pub starts : next ≡ at + 3
  pub within : next ≤ length s

-- all records but i and j are as they were
pub record Apart (procs procs' : List (List ℕ)) (i j : ℕ) : Type 0 where
  pub long : length procs' ≡ length procs
  pub others : (k : ℕ) → (k ≢ i) → (k ≢ j) → record_at procs' k ≡ record_at procs k

-- the step that processes i and j have taken together
pub record Meets (s second : List ℕ) (procs procs' : List (List ℕ)) (i j : ℕ) (w v : Worker) : Type 0 where
  pub first : Worker
  pub second' : Worker
  pub together : Facing (waiting w) (waiting v) → Together w v first second'
  pub first_runs : first.state ≡ running
  pub second_runs : second'.state ≡ running
  pub first_ends : first.ends ≡ w.ends
  pub second_ends : second'.ends ≡ v.ends
  pub first_holds : Holds s second (record_at procs' i) first
  pub second_holds : Holds s second (record_at procs' j) second'
  pub first_less : weight (length s) (record_at procs' i) < weight (length s) (record_at procs i)
  pub second_less : weight (length s) (record_at procs' j) < weight (length s) (record_at procs j)

abbrev pub Met : List ℕ → List ℕ → List (List ℕ) → List (List ℕ) → ℕ → ℕ → Bool → Type 0
Met s second procs procs' i j true = (i ≢ j) → Apart procs procs' i j ×
    ((w v : Worker) → Holds s second (record_at procs i) w → Holds s second (record_at procs j) v → w.state ≡ running → v.state ≡ running → Meets s second procs procs' i j w v)
Met s second procs procs' i j false = (procs' ≡ procs) ×
    ((w v w' v' : Worker) → Holds s second (record_at procs i) w → Holds s second (record_at procs j) v → Together w v w' v' → ⊥)

-- two processes have taken a step together, in one order or the other; or they cannot
abbrev pub Exchanged : List ℕ → List ℕ → List (List ℕ) → List (List ℕ) → ℕ → ℕ → Bool → Type 0
Exchanged s second procs procs' i j true = Met s second procs procs' i j true ⊎ Met s second procs procs' j i true
Exchanged s second procs procs' i j false = Met s second procs procs' i j false × Met s second procs procs' j i false
