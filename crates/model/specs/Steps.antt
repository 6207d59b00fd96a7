-- What processes do together, a step at a time, in any order.
--
-- A line is made by starting a process and has two ends, of side 0 (the starter's) and side 1 (the started one's).
-- Communication is synchronous: a give and a take, or a choice and an offer, at the two ends of one line, is one
-- step of both. Everything else is a step of one process alone.
use Rattle.std.specs.Prelude.{◌≡◌, cond, List, [], ◌∷◌, ◌++◌, ℕ, zero, suc, ◌+◌, length, eqb}
use Rattle.std.proofs.Math.Option.{Option, some, none}
use Rattle.model.specs.Program.{nth, or, put, Expression, Action, stop, give, take, choose, offer, set, if, show, start, become, Process, Program, value, values}

-- an end of a line: the line's number and the side
pub record Endpoint : Type 0 where
  pub line : ℕ
  pub side : ℕ

-- how a process stands: it goes on (or waits), it has stopped, or it is out of turns
pub data State : Type 0 where
  running : State
  stopped : State
  spent : State

-- a process at work: what it has to do, its variables, its conversations as ends of lines (none where it was
-- handed on), the turns that it has left, and how it stands
pub record Worker : Type 0 where
  pub todo : Action
  pub vars : List ℕ
  pub ends : List (Option Endpoint)
  pub left : ℕ
  pub state : State

-- all processes, the number of the next line, and what process 0 has shown
pub record Configuration : Type 0 where
  pub workers : List Worker
  pub next : ℕ
  pub shown : List ℕ

-- a process that goes on with s
abbrev pub on : Worker → Action → Worker
on w s = record { todo = s; vars = w.vars; ends = w.ends; left = w.left; state = running }

-- a process that has put n into variable x and goes on with s
abbrev pub with_var : Worker → ℕ → ℕ → Action → Worker
with_var w x n s = record { todo = s; vars = put w.vars x n; ends = w.ends; left = w.left; state = running }

-- a process that takes no further step
abbrev pub halted : Worker → State → Worker
halted w k = record { todo = w.todo; vars = w.vars; ends = w.ends; left = w.left; state = k }

-- the end that conversation c is
abbrev pub end : List (Option Endpoint) → ℕ → Option Endpoint
end es c = or none (nth es c)

-- the ends handed on, and what is left without them
abbrev pub ends_of : List (Option Endpoint) → List ℕ → List (Option Endpoint)
ends_of es [] = []
ends_of es (c ∷ cs) = end es c ∷ ends_of es cs

abbrev pub without : List (Option Endpoint) → List ℕ → List (Option Endpoint)
without es [] = es
without es (c ∷ cs) = without (put es c none) cs

-- numbers handed in, followed by 0 up to as many as there are variables
abbrev pub pad : ℕ → List ℕ → List ℕ
pad zero ns = ns
pad (suc k) [] = 0 ∷ pad k []
pad (suc k) (n ∷ ns) = n ∷ pad k ns

-- a process that begins, with ends and numbers handed in and so many turns
abbrev pub begun : Process → List (Option Endpoint) → List ℕ → ℕ → Worker
begun p es ns l = record { todo = p.body; vars = pad p.vars ns; ends = es; left = l; state = running }

-- The starter's end and the started one's end of a new line.
abbrev pub own_end : ℕ → Endpoint
own_end l = record { line = l; side = 0 }

abbrev pub far_end : ℕ → Endpoint
far_end l = record { line = l; side = 1 }

-- What one process does by itself: it becomes another worker, perhaps starts a worker, on the line of the given
-- number, and perhaps shows a number. Starting and becoming take a turn; who has none left is out of turns.
pub data Alone (g : Program) (line : ℕ) (w : Worker) : Worker → List Worker → List ℕ → Type 0 where
  stops : w.todo ≡ stop → Alone g line w (halted w stopped) [] []
  sets : (x : ℕ) (e : Expression) (s : Action) → w.todo ≡ set x e s → Alone g line w (with_var w x (value w.vars e) s) [] []
  ifs : (e : Expression) (s t : Action) → w.todo ≡ if e s t → Alone g line w (on w (cond (eqb (value w.vars e) 0) t s)) [] []
  shows : (e : Expression) (s : Action) → w.todo ≡ show e s → Alone g line w (on w s) [] (value w.vars e ∷ [])
  starts : (f : ℕ) (cs : List ℕ) (es : List Expression) (s : Action) (p : Process) (l : ℕ) → w.todo ≡ start f cs es s → nth g.procs f ≡ some p → w.left ≡ suc l →
      Alone g line w
      (record { todo = s; vars = w.vars; ends = without w.ends cs ++ (some (own_end line) ∷ []); left = l; state = running })
      (begun p (some (far_end line) ∷ ends_of w.ends cs) (values w.vars es) l ∷ []) []
  becomes : (f : ℕ) (cs : List ℕ) (es : List Expression) (p : Process) (l : ℕ) → w.todo ≡ become f cs es → nth g.procs f ≡ some p → w.left ≡ suc l →
      Alone g line w (begun p (ends_of w.ends cs) (values w.vars es) l) [] []
  starts_spent : (f : ℕ) (cs : List ℕ) (es : List Expression) (s : Action) → w.todo ≡ start f cs es s → w.left ≡ 0 → Alone g line w (halted w spent) [] []
  becomes_spent : (f : ℕ) (cs : List ℕ) (es : List Expression) → w.todo ≡ become f cs es → w.left ≡ 0 → Alone g line w (halted w spent) [] []

-- two ends of one line
pub record Facing (e d : Option Endpoint) : Type 0 where
  pub a : Endpoint
  pub b : Endpoint
  pub is_a : e ≡ some a
  pub is_b : d ≡ some b
  pub line : a.line ≡ b.line
  pub sides : a.side ≡ b.side → ⊥

-- What two processes do at the two ends of a line: one gives and the other takes, or one chooses and the other offers.
pub data Together (w v : Worker) : Worker → Worker → Type 0 where
  passes : (c d x : ℕ) (e : Expression) (s t : Action) → w.todo ≡ give c e s → v.todo ≡ take d x t → Facing (end w.ends c) (end v.ends d) →
      Together w v (on w s) (with_var v x (value w.vars e) t)
  agrees : (c d k : ℕ) (s t u : Action) → w.todo ≡ choose c k s → v.todo ≡ offer d t u → Facing (end w.ends c) (end v.ends d) →
      Together w v (on w s) (on v (cond (eqb k 0) t u))

-- numbers are shown by process 0 only
abbrev pub only_first : ℕ → List ℕ → List ℕ
only_first zero ns = ns
only_first (suc i) ns = []

-- the configuration after process i became w, started ws and showed ns; each started process comes with a line
abbrev pub after_alone : Configuration → ℕ → Worker → List Worker → List ℕ → Configuration
after_alone a i w ws ns = record { workers = put a.workers i w ++ ws; next = a.next + length ws; shown = a.shown ++ only_first i ns }

-- the configuration after processes i and j became w and v
abbrev pub after_together : Configuration → ℕ → ℕ → Worker → Worker → Configuration
after_together a i j w v = record { workers = put (put a.workers i w) j v; next = a.next; shown = a.shown }

-- One step: of a process that is running, or of two such.
pub data Step (g : Program) (a : Configuration) : Configuration → Type 0 where
  alone : (i : ℕ) (w w' : Worker) (ws : List Worker) (ns : List ℕ) → nth a.workers i ≡ some w → w.state ≡ running →
      Alone g a.next w w' ws ns → Step g a (after_alone a i w' ws ns)
  together : (i j : ℕ) (w v w' v' : Worker) → (i ≡ j → ⊥) → nth a.workers i ≡ some w → nth a.workers j ≡ some v → w.state ≡ running → v.state ≡ running →
      Together w v w' v' → Step g a (after_together a i j w' v')

-- Any number of steps, in any order.
pub data Steps (g : Program) (a : Configuration) : Configuration → Type 0 where
  here : Steps g a a
  more : {b c : Configuration} → Steps g a b → Step g b c → Steps g a c

-- the first process, without conversations and numbers
abbrev pub first_worker : Option Process → ℕ → List Worker
first_worker none turns = []
first_worker (some p) turns = begun p [] [] turns ∷ []

abbrev pub begin : Program → ℕ → Configuration
begin g turns = record { workers = first_worker (nth g.procs 0) turns; next = 0; shown = [] }
