-- The words of a run hold a configuration: each record is a worker, whose action stands at the record's place.
use Rattle.std.specs.Prelude.{◌≡◌, ℕ, zero, suc, ◌+◌, ◌-◌, ◌<◌, ◌≤◌, List, [], ◌∷◌, ◌++◌, length, drop}
use Rattle.std.proofs.Math.Option.{Option, some}
use Rattle.model.specs.Program.{nth}
use Rattle.model.specs.Steps.{Endpoint, State, running, stopped, spent, Worker, Configuration, end}
use Rattle.model.specs.Rows.{row_a, deep}
use Rattle.rows.specs.Reading.{Seconds}
use Rattle.records.specs.Tables.{table}
use Rattle.records.specs.Records.{Record, record_at}

-- a record is a worker
pub record Holds (s second : List ℕ) (r : Record) (w : Worker) : Type 0 where
  pub behind : List ℕ
  pub rows : drop r.place s ≡ row_a w.todo ++ behind
  pub seconds : Seconds second r.place w.todo
  pub nested : deep w.todo ≤ 256
  pub vars : r.vars ≡ w.vars
  pub ends : r.ends ≡ w.ends
  pub left : r.left ≡ w.left
  pub state : r.state ≡ w.state

-- ends of lines below n, with side 0 or 1
abbrev pub Below : ℕ → List (Option Endpoint) → Type 0
Below n es = (c : ℕ) (e : Endpoint) → end es c ≡ some e → (e.line < n) × (e.side < 2)

-- The first so many records are the workers of a configuration. Each process but the first came with a line.
pub record Holding (s second : List ℕ) (procs : List (List ℕ)) (count : ℕ) (a : Configuration) : Type 0 where
  pub many : length a.workers ≡ count
  pub lines : a.next ≡ count - 1
  pub each : (i : ℕ) (w : Worker) → nth a.workers i ≡ some w → Holds s second (record_at procs i) w
  pub ends : (i : ℕ) (w : Worker) → nth a.workers i ≡ some w → Below a.next w.ends

-- A number that each step lowers: what is left of the rows behind the place, and a bank that pays for the turns.
abbrev pub bank : ℕ → ℕ → ℕ
bank n zero = 0
bank n (suc l) = n + (bank n l + bank n l)

abbrev pub weight_in : State → ℕ → ℕ
weight_in running n = n
weight_in stopped n = 0
weight_in spent n = 0

abbrev pub weight : ℕ → Record → ℕ
weight n r = weight_in r.state ((n - r.place) + bank n r.left)

abbrev pub sum : List ℕ → ℕ
sum [] = 0
sum (n ∷ ns) = n + sum ns

abbrev pub potential : List ℕ → List (List ℕ) → ℕ → ℕ
potential s procs count = sum (table (λ k. weight (length s) (record_at procs k)) 0 count)
