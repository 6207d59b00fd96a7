-- Lines and who holds their ends: the words in which it is said what is true of them at every moment.
use Rattle.std.specs.Prelude.{◌≡◌, ◌⊎◌, Bool, true, List, [], ◌∷◌, map, ℕ, ◌<◌}
use Rattle.std.proofs.Math.Option.{Option, some, none}
use Rattle.model.specs.Program.{nth, over, Action, Program}
use Rattle.model.specs.Steps.{Endpoint, Worker, Configuration, own_end, far_end}
use Rattle.model.specs.Keeps.{At, keeps}

-- an end is among these conversations
abbrev pub Has : List (Option Endpoint) → Endpoint → Type 0
Has es e = (c : ℕ) × (nth es c ≡ some (some e))

-- process i holds an end
abbrev pub Holds : List Worker → ℕ → Endpoint → Type 0
Holds ws i e = (w : Worker) × (nth ws i ≡ some w) × Has w.ends e

-- the points of a process's conversations, if each end is at the point given
abbrev pub place : (Endpoint → ℕ) → Option Endpoint → Option ℕ
place point none = none
place point (some e) = some (point e)

abbrev pub places : (Endpoint → ℕ) → List (Option Endpoint) → At
places point es = map (place point) es

-- a process that has this to do, with its conversations at these points, keeps to them (whichever its variables, and
-- whether or not it is process 0)
abbrev pub KeepsOn : Program → Action → At → Type 0
KeepsOn g s a = (n : ℕ) × (r : Bool) × (keeps g n r s a ≡ true)

-- two points are each other's other side
abbrev pub Mutual : Program → ℕ → ℕ → Type 0
Mutual g x y = (nth g.other x ≡ some y) × (nth g.other y ≡ some x)

-- the conversation at an end is not over
abbrev pub Live : Program → (Endpoint → ℕ) → Endpoint → Type 0
Live g point e = nth g.points (point e) ≡ some over → ⊥

-- processes i and j hold the two ends of a line
pub record Joined (ws : List Worker) (line i j : ℕ) : Type 0 where
  pub near : Endpoint
  pub far : Endpoint
  pub near_line : near.line ≡ line
  pub far_line : far.line ≡ line
  pub sides : near.side ≡ far.side → ⊥
  pub holds_near : Holds ws i near
  pub holds_far : Holds ws j far

-- a walk from process i to process k along lines
abbrev pub Walk : List Worker → ℕ → List ℕ → ℕ → Type 0
Walk ws i [] k = i ≡ k
Walk ws i (l ∷ ls) k = (j : ℕ) × Joined ws l i j × Walk ws j ls k

-- no element stands at two places
abbrev pub Different : List ℕ → Type 0
Different ls = (m n l : ℕ) → nth ls m ≡ some l → nth ls n ≡ some l → m ≡ n

-- a circle: a walk along different lines, one at least, that comes back to where it began
abbrev pub Circle : List Worker → Type 0
Circle ws = (i : ℕ) × (l : ℕ) × (ls : List ℕ) × Walk ws i (l ∷ ls) i × Different (l ∷ ls)

-- The picture: each end of a line has a point, such that
pub record Picture (g : Program) (a : Configuration) : Type 0 where
  pub point : Endpoint → ℕ
  -- every process keeps to its conversations from these points on;
  pub kept : (i : ℕ) (w : Worker) → nth a.workers i ≡ some w → KeepsOn g w.todo (places point w.ends)
  -- no end is held twice, by two processes or as two conversations of one;
  pub once : (i j c d : ℕ) (w v : Worker) (e : Endpoint) → nth a.workers i ≡ some w → nth a.workers j ≡ some v →
      nth w.ends c ≡ some (some e) → nth v.ends d ≡ some (some e) → (i ≡ j) × (c ≡ d)
  -- what is held is an end of a line that was made;
  pub made : (i : ℕ) (e : Endpoint) → Holds a.workers i e → (e.line < a.next) × ((e.side ≡ 0) ⊎ (e.side ≡ 1))
  -- the two ends of a line are at points that are each other's other side;
  pub fit : (l : ℕ) → l < a.next → Mutual g (point (own_end l)) (point (far_end l))
  -- a line whose conversation is not over has its two ends with two different processes;
  pub two_ends : (l : ℕ) → l < a.next → Live g point (own_end l) ⊎ Live g point (far_end l) →
      (i : ℕ) × (j : ℕ) × Holds a.workers i (own_end l) × Holds a.workers j (far_end l) × (i ≡ j → ⊥)
  -- and processes with lines between them form no circle.
  pub no_circle : Circle a.workers → ⊥
