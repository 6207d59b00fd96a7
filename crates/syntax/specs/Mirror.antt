-- The other side of protocols that are written from one side.
use Rattle.std.specs.Prelude.{◌≡◌, ℕ, zero, suc, ◌+◌, ◌-◌, Bool, true, false, cond, ◌&&◌, List, [], ◌∷◌, ◌++◌, map, length, Some, None, vec_items, Option, nat_lt}
use Rattle.model.specs.Keeps.{points_fit}
use Rattle.syntax.specs.Meaning.{points_of}
use Rattle.syntax.specs.declared.sides.Sides.{Sides}
use Rattle.model.specs.Program.{Point, over, gives, takes, chooses, offers, Process}

-- where each side has h points, those of the other side come h further on, and theirs h further back
abbrev pub across : ℕ → ℕ → ℕ
across h n = cond (nat_lt n h) (n + h) (n - h)

-- what the other side of a point says
abbrev pub mirror : ℕ → Point → Point
mirror h over = over
mirror h (gives n) = takes (across h n)
mirror h (takes n) = gives (across h n)
mirror h (chooses n m) = offers (across h n) (across h m)
mirror h (offers n m) = chooses (across h n) (across h m)

-- a point goes on only at points below n
abbrev pub below : ℕ → Point → Bool
below n over = true
below n (gives m) = nat_lt m n
below n (takes m) = nat_lt m n
below n (chooses m o) = nat_lt m n && nat_lt o n
below n (offers m o) = nat_lt m n && nat_lt o n

-- and so do all
abbrev pub all_below : ℕ → List Point → Bool
all_below n [] = true
all_below n (p ∷ ps) = below n p && all_below n ps

-- the numbers b, b + 1, and so on, n of them
abbrev pub from : ℕ → ℕ → List ℕ
from b zero = []
from b (suc n) = b ∷ from (suc b) n

-- These points and these other sides are those of protocols of which one side has the points `near`: the other
-- side's points come after them, each is a mirror, and all fit, whichever processes there are.
pub record BothSides (near points : List Point) (other : List ℕ) : Type 0 where
  pub sides : points ≡ near ++ map (mirror (length near)) near
  pub others : other ≡ from (length near) (length near) ++ from 0 (length near)
  pub fit : (procs : List Process) → points_fit (record { points = points; other = other; procs = procs }) 0 points ≡ true

-- points that fit, whichever processes there are
abbrev pub Fitting : Sides → Type 0
Fitting s = (procs : List Process) → points_fit (record { points = points_of (vec_items s.points); other = vec_items s.other; procs = procs }) 0 (points_of (vec_items s.points)) ≡ true

-- both sides, or that there are more than 128 points or one goes on where there is none
abbrev pub SidesSay : List Point → Option Sides → Type 0
SidesSay near None = (nat_lt (length near) 129 && all_below (length near + length near) near) ≡ false
SidesSay near (Some s) = BothSides near (points_of (vec_items s.points)) (vec_items s.other)
