-- The table of a run that has jammed.
use Rattle.std.specs.Prelude.{◌≡◌, ℕ, zero, suc, ◌<◌, ◌≤◌, List, [], ◌∷◌, ◌++◌, length, take, drop, Some, None, Option as Maybe, MatchOption}
use Rattle.std.proofs.Math.Option.{Option, some, none}
use Rattle.model.specs.Program.{nth}
use Rattle.model.specs.Steps.{Endpoint, State, running, stopped, spent, Worker, Configuration}
use Rattle.model.specs.Rows.{row_a}
use Rattle.model.specs.Picture.{Holds}
use Rattle.model.specs.Waiting.{WaitsFor, Hops}
use Rattle.records.specs.declared.process.End.{End}
use Rattle.records.specs.Records.{endpoint, viewed}
use Rattle.queues.specs.Lines.{facing}
use Rattle.turns.specs.Holding.{Holding}
use Rattle.turns.specs.Scheduling.{waiting}
use Rattle.exploring.specs.declared.answers.Left.{Left}
use Rattle.exploring.specs.Circles.{hops}

-- the numbers of the workers below n that are running, in rising order
abbrev pub if_running : ℕ → State → List ℕ
if_running i running = i ∷ []
if_running i stopped = []
if_running i spent = []

abbrev pub running_at : ℕ → Option Worker → List ℕ
running_at i none = []
running_at i (some w) = if_running i w.state

abbrev pub running_below : List Worker → ℕ → List ℕ
running_below ws zero = []
running_below ws (suc n) = running_below ws n ++ running_at n (nth ws n)

abbrev pub all_running : List Worker → List ℕ
all_running ws = running_below ws (length ws)

-- the first process that holds an end, if one does
abbrev pub FirstHolder : List Worker → Endpoint → Maybe ℕ → Type 0
FirstHolder ws e r = MatchOption r ((j : ℕ) → Holds ws j e → ⊥) (λ j. Holds ws j e × ((k : ℕ) → k < j → Holds ws k e → ⊥))

-- the first process that holds the end facing the one at which a process waits; none where it waits at none
abbrev pub HeldBy : List Worker → Maybe End → Maybe ℕ → Type 0
HeldBy ws None r = r ≡ None
HeldBy ws (Some e) r = FirstHolder ws (facing (endpoint e)) r

-- a row says of process i, which is running, what is so: what it has to do stands at the place, it waits at the end, and
-- who holds the facing end; and so whom it waits for
pub record Row_is (s : List ℕ) (ws : List Worker) (i : ℕ) (row : Left) : Type 0 where
  pub worker : Worker
  pub there : nth ws i ≡ some worker
  pub runs : worker.state ≡ running
  pub process : row.process ≡ i
  pub behind : List ℕ
  pub rows : drop row.place s ≡ row_a worker.todo ++ behind
  pub waits : viewed row.end ≡ waiting worker
  pub held : HeldBy ws row.end row.holder
  pub follows : (j : ℕ) → row.holder ≡ Some j → WaitsFor ws i j

-- The first rows are those of the processes is, in order, as far as there is room; the rest is as it was.
pub record Rows (s : List ℕ) (ws : List Worker) (is : List ℕ) (old left : List Left) : Type 0 where
  pub long : length left ≡ length old
  pub rows : (k i : ℕ) → nth is k ≡ some i → k < length old → (row : Left) × (nth left k ≡ some row) × Row_is s ws i row
  pub rest : (k : ℕ) → length is ≤ k → nth left k ≡ nth old k

-- n processes are left, and the table has their rows; going from row to row by the holders is going to whom one waits for
pub record Told (s : List ℕ) (ws : List Worker) (old left : List Left) (n : ℕ) : Type 0 where
  pub count : n ≡ length (all_running ws)
  pub rows : Rows s ws (all_running ws) old left
  pub walks : (m i k : ℕ) → hops (take n left) m i ≡ some k → Hops ws m i k

-- what is said of every configuration that the words hold
abbrev pub OfEach : List ℕ → List (List ℕ) → ℕ → (List Worker → Type 0) → Type 0
OfEach s procs count P = (second : List ℕ) (a : Configuration) → Holding s second procs count a → P a.workers

abbrev pub RowOf : List ℕ → List (List ℕ) → ℕ → ℕ → Left → Type 0
RowOf s procs count i row = OfEach s procs count (λ ws. Row_is s ws i row)

abbrev pub Filled : List ℕ → List (List ℕ) → ℕ → List Left → List Left → ℕ → Type 0
Filled s procs count left left' n = OfEach s procs count (λ ws. Told s ws left left' n)
