-- What is true of every program, and of every run of a program that keeps to its conversations.
use Rattle.std.specs.Prelude.{◌≡◌, ◌⊎◌, ◌↔◌, true, List, [], ◌∷◌, ℕ, zero, suc, ◌≤◌, length}
use Rattle.std.proofs.Math.Option.{some}
use Rattle.model.specs.Program.{nth, Program}
use Rattle.model.specs.Steps.{Endpoint, Worker, stopped, spent, Configuration, Step, Steps, begin}
use Rattle.model.specs.Keeps.{kept}
use Rattle.model.specs.Picture.{Picture}
use Rattle.model.specs.Waiting.{WaitsAt, NotWaiting, Hops, Meeting}
use Rattle.model.specs.Same.{Same}
use Rattle.model.specs.Rows.{row_g, Reads}
use Rattle.model.specs.Examples.{shop}

-- Words are the writing of at most one program.
abbrev pub OneProgram : Type 0
OneProgram = (s : List ℕ) (g h : Program) → Reads s g → Reads s h → g ≡ h

-- A normal form: no further step is possible.
abbrev pub Still : Program → Configuration → Type 0
Still g a = (b : Configuration) → Step g a b → ⊥

-- Every process has stopped.
abbrev pub AllStopped : Configuration → Type 0
AllStopped a = (i : ℕ) (w : Worker) → nth a.workers i ≡ some w → w.state ≡ stopped

-- Some process is out of turns.
abbrev pub Out : Configuration → Type 0
Out a = (i : ℕ) × (w : Worker) × (nth a.workers i ≡ some w) × (w.state ≡ spent)

-- a run of so many steps from the beginning
abbrev pub Counted : Program → ℕ → ℕ → Configuration → Type 0
Counted g turns zero a = a ≡ begin g turns
Counted g turns (suc c) a = (b : Configuration) × Counted g turns c b × Step g b a

-- Every order comes to an end, after a bounded number of steps.
abbrev pub Ends : Type 0
Ends = (s : List ℕ) (g : Program) (turns : ℕ) → Reads s g → (most : ℕ) × ((a : Configuration) (c : ℕ) → Counted g turns c a → c ≤ most)

-- At every moment of every order, each line has its two ends with two different processes, at points that are each
-- other's other side, and processes with lines between them form no circle.
abbrev pub Pictured : Type 0
Pictured = (s : List ℕ) (g : Program) (turns : ℕ) (a : Configuration) → Reads s g → kept g ≡ true → Steps g (begin g turns) a → Picture g a

-- Following what a process waits for comes, in finitely many hops, to one that does not wait, or to two that wait for
-- each other and want what fits.
abbrev pub WaitingEnds : Type 0
WaitingEnds = (s : List ℕ) (g : Program) (turns : ℕ) (a : Configuration) → Reads s g → kept g ≡ true → Steps g (begin g turns) a → (i : ℕ) (e : Endpoint) → WaitsAt a.workers i e →
    (n : ℕ) × (k : ℕ) × Hops a.workers n i k × (NotWaiting a.workers k ⊎ ((j : ℕ) × Meeting a.workers k j))

-- Where one process waits, and all that have not stopped do, some two wait for each other and want what fits.
abbrev pub TwoThatWait : Type 0
TwoThatWait = (s : List ℕ) (g : Program) (turns : ℕ) (a : Configuration) → Reads s g → kept g ≡ true → Steps g (begin g turns) a → (i : ℕ) (e : Endpoint) → WaitsAt a.workers i e →
    ((j : ℕ) (w : Worker) → nth a.workers j ≡ some w → (w.state ≡ stopped) ⊎ ((d : Endpoint) × WaitsAt a.workers j d)) → (j : ℕ) × (k : ℕ) × Meeting a.workers j k

-- In a program that keeps to its conversations, whatever the order of steps, there is always a next step, until
-- all have stopped, or some process is out of turns.
abbrev pub NeverJams : Type 0
NeverJams = (s : List ℕ) (g : Program) (turns : ℕ) (a : Configuration) → Reads s g → kept g ≡ true → Steps g (begin g turns) a → Still g a → AllStopped a ⊎ Out a

-- Two steps that can both be taken come to the same, or can be taken in either order, with the same after both but for
-- the numbers of processes and lines.
abbrev pub EitherOrder : Type 0
EitherOrder = (s : List ℕ) (g : Program) (turns : ℕ) (a b c : Configuration) → Reads s g → kept g ≡ true → Steps g (begin g turns) a → Step g a b → Step g a c →
    (b ≡ c) ⊎ ((d : Configuration) × (e : Configuration) × Step g b d × Step g c e × Same d e)

-- All orders come to the same end but for numbers: each process of one has one in the other, with the same to do, the
-- same variables and turns, and in the same state.
abbrev pub SameEnd : Type 0
SameEnd = (s : List ℕ) (g : Program) (turns : ℕ) (a b : Configuration) → Reads s g → kept g ≡ true → Steps g (begin g turns) a → Steps g (begin g turns) b → Still g a → Still g b → Same a b

-- All orders take as many steps.
abbrev pub SameSteps : Type 0
SameSteps = (s : List ℕ) (g : Program) (turns m n : ℕ) (a b : Configuration) → Reads s g → kept g ≡ true → Counted g turns m a → Counted g turns n b → Still g a → Still g b → m ≡ n

-- All orders come to the same: the same numbers shown, as many processes, and out of turns in all orders or in none.
abbrev pub AnyOrder : Type 0
AnyOrder = (s : List ℕ) (g : Program) (turns : ℕ) (a b : Configuration) → Reads s g → kept g ≡ true → Steps g (begin g turns) a → Steps g (begin g turns) b → Still g a → Still g b →
    (a.shown ≡ b.shown) × (length a.workers ≡ length b.workers) × (Out a ↔ Out b)

-- From every configuration on the way an end can be reached.
abbrev pub HasEnd : Type 0
HasEnd = (s : List ℕ) (g : Program) (turns : ℕ) (a : Configuration) → Reads s g → kept g ≡ true → Steps g (begin g turns) a → (b : Configuration) × Steps g a b × Still g b

-- It can be the end that another order came to, but for numbers.
abbrev pub SameEndAhead : Type 0
SameEndAhead = (s : List ℕ) (g : Program) (turns : ℕ) (a b : Configuration) → Reads s g → kept g ≡ true → Steps g (begin g turns) a → Steps g (begin g turns) b → Still g b →
    (c : Configuration) × Steps g a c × Still g c × Same b c

-- Any two configurations on the way can come to the same, but for numbers.
abbrev pub Confluent : Type 0
Confluent = (s : List ℕ) (g : Program) (turns : ℕ) (a b : Configuration) → Reads s g → kept g ≡ true → Steps g (begin g turns) a → Steps g (begin g turns) b →
    (c : Configuration) × (d : Configuration) × Steps g a c × Steps g b d × Same c d

-- There are never more processes on the way of one order than at the end of another.
abbrev pub CrowdedAlike : Type 0
CrowdedAlike = (s : List ℕ) (g : Program) (turns : ℕ) (a b : Configuration) → Reads s g → kept g ≡ true → Steps g (begin g turns) a → Steps g (begin g turns) b → Still g b → length a.workers ≤ length b.workers

-- That all this can be met: the clerk and the till are a program that keeps; with one turn there is an order in which all
-- stop, and in all orders the same number is shown.
pub record ShopShows (n : ℕ) : Type 0 where
  pub reads : Reads (row_g shop) shop
  pub keeps : kept shop ≡ true
  pub end : Configuration
  pub run : Steps shop (begin shop 1) end
  pub still : Still shop end
  pub stops : AllStopped end
  pub shows : end.shown ≡ n ∷ []
  pub always : (a : Configuration) → Steps shop (begin shop 1) a → Still shop a → a.shown ≡ n ∷ []
