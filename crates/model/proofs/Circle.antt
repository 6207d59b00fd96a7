-- Where ends are held as a forest there is no circle: a walk along different lines that has once gone down goes down
-- for good, and so one that comes back would have to arrive by the line that it left by.
use mathlib.Core.Path.{◌≡◌, refl, sym, ap, ◌∙◌}
use mathlib.Core.List.{List, [], ◌∷◌}
use mathlib.Core.Option.{some}
use Prim.Native.Nat.{ℕ, zero, suc, ◌≤◌, ◌<◌}
use native.Mathlib.Omega.{arith}
use Rattle.model.specs.Program.{nth}
use Rattle.model.specs.Steps.{Endpoint, Worker}
use Rattle.model.specs.Picture.{Holds, Joined, Walk, Different, Circle}
use Rattle.model.proofs.Forest.{Forest, Hangs, below, above}

-- a line is not among these
abbrev Missing : ℕ → List ℕ → Type 0
Missing l ls = (n : ℕ) → nth ls n ≡ some l → ⊥

different_first : (l : ℕ) (ls : List ℕ) → Different (l ∷ ls) → Missing l ls
different_first l ls d n h = let z = d 0 (suc n) l refl h in omega arith

different_rest : (l : ℕ) (ls : List ℕ) → Different (l ∷ ls) → Different ls
different_rest l ls d m n x h k = let z = d (suc m) (suc n) x h k in omega arith

missing_rest : (l x : ℕ) (ls : List ℕ) → Missing l (x ∷ ls) → Missing l ls
missing_rest l x ls m n h = m (suc n) h

missing_first : (l x : ℕ) (ls : List ℕ) → Missing l (x ∷ ls) → x ≡ l → ⊥
missing_first l x ls m e = m 0 (ap some e)

-- the last line of a walk
abbrev last : ℕ → List ℕ → ℕ
last l [] = l
last l (x ∷ ls) = last x ls

last_missing : (l x : ℕ) (ls : List ℕ) → (x ≡ l → ⊥) → Missing l ls → last x ls ≡ l → ⊥
last_missing l x [] n m e = n e
last_missing l x (y ∷ ls) n m e = last_missing l y ls (missing_first l y ls m) (missing_rest l y ls m) e

module _ (ws : List Worker) (f : Forest (Holds ws)) where
  -- how a line that two processes hold lies between them: down from i to j, up from i to j, or above both
  data Lies (l i j : ℕ) : Type 0 where
    down : f.rank i < f.rank j → (f.up j).line ≡ l → Lies l i j
    rise : f.rank j < f.rank i → (f.up i).line ≡ l → Lies l i j
    peak : (f.up i).line ≡ l → (f.up j).line ≡ l → (f.up i ≡ f.up j → ⊥) → Lies l i j

  lies : (l i j : ℕ) → Joined ws l i j → Lies l i j
  lies l i j joined = go (f.hangs i joined.near joined.holds_near) (f.hangs j joined.far joined.holds_far)
    where
      levels : f.level joined.near.line ≡ f.level joined.far.line
      levels = ap f.level (joined.near_line ∙ sym joined.far_line)

      line_of : (x e : Endpoint) → x ≡ e → e.line ≡ l → x.line ≡ l
      line_of x e p q = ap (λ (y : Endpoint). y.line) p ∙ q

      go : Hangs f.rank f.level f.up f.top i joined.near → Hangs f.rank f.level f.up f.top j joined.far → Lies l i j
      go (below z u) (below z' u') = peak (line_of _ _ u joined.near_line) (line_of _ _ u' joined.far_line) (λ e. joined.sides (ap (λ (y : Endpoint). y.side) (sym u ∙ e ∙ u')))
      go (below z u) (above z' t) = rise (omega (arith, levels)) (line_of _ _ u joined.near_line)
      go (above z t) (below z' u) = down (omega (arith, levels)) (line_of _ _ u joined.far_line)
      go (above z t) (above z' t') = absurd (joined.sides (sym t ∙ ap f.top (joined.near_line ∙ sym joined.far_line) ∙ t'))

  -- who has come down by a line and does not take it again goes down
  descends : (ls : List ℕ) (l i k : ℕ) → (f.up i).line ≡ l → Missing l ls → Different ls → Walk ws i ls k → (f.rank i ≤ f.rank k) × ((f.up k).line ≡ last l ls)
  descends [] l i k u m d w = (let e = ap f.rank w in omega arith, rw (← w) u)
  descends (x ∷ ls) l i k u m d (w) = go (lies x i w.0 w.1) (λ v. descends ls x w.0 k v (different_first x ls d) (different_rest x ls d) w.2)
    where
      go : Lies x i w.0 → ((f.up w.0).line ≡ x → (f.rank w.0 ≤ f.rank k) × ((f.up k).line ≡ last x ls)) → (f.rank i ≤ f.rank k) × ((f.up k).line ≡ last x ls)
      go (down z v) ih = let r = ih v in let b = r.0 in (omega arith, r.1)
      go (rise z v) ih = absurd (missing_first l x ls m (sym v ∙ u))
      go (peak v v' n) ih = absurd (missing_first l x ls m (sym v ∙ u))

  -- who arrives without taking the line up from there has only gone up
  ascends : (ls : List ℕ) (i k : ℕ) → Missing (f.up k).line ls → Different ls → Walk ws i ls k → f.rank k ≤ f.rank i
  ascends [] i k m d w = let e = ap f.rank w in omega arith
  ascends (x ∷ ls) i k m d w = go (lies x i w.0 w.1) (ascends ls w.0 k (missing_rest (f.up k).line x ls m) (different_rest x ls d) w.2)
    where
      came_down : (f.up w.0).line ≡ x → ⊥
      came_down v =
          let r = descends ls x w.0 k v (different_first x ls d) (different_rest x ls d) w.2 in
          last_missing (f.up k).line x ls (missing_first (f.up k).line x ls m) (missing_rest (f.up k).line x ls m) (sym r.1)

      go : Lies x i w.0 → f.rank k ≤ f.rank w.0 → f.rank k ≤ f.rank i
      go (down z v) ih = absurd (came_down v)
      go (rise z v) ih = omega arith
      go (peak v v' n) ih = absurd (came_down v')

  pub no_circle : Circle ws → ⊥
  no_circle c = go c.0 c.1 c.2 c.3 c.4
    where
      go : (i l : ℕ) (ls : List ℕ) → Walk ws i (l ∷ ls) i → Different (l ∷ ls) → ⊥
      go i l ls w d = two (lies l i w.0 w.1) ls (different_first l ls d) (different_rest l ls d) w.2
        where
          two : Lies l i w.0 → (ls : List ℕ) → Missing l ls → Different ls → Walk ws w.0 ls i → ⊥
          two (down z v) ls m dd k = let r = (descends ls l w.0 i v m dd k).0 in omega arith
          two (rise z v) ls m dd k = let r = ascends ls w.0 i (rw v m) dd k in omega arith
          two (peak v v' n) [] m dd k = n (ap f.up (sym k))
          two (peak v v' n) (x ∷ ls) m dd k = last_missing l x ls (missing_first l x ls m) (missing_rest l x ls m) (sym (descends (x ∷ ls) l w.0 i v' m dd k).1 ∙ v)

  -- nobody holds both ends of a line
  pub two_holders : (l i j : ℕ) → Joined ws l i j → i ≡ j → ⊥
  two_holders l i j joined e = no_circle (i, l, [], (j, joined, sym e), λ m n x h k. one m n h k)
    where
      one : {x : ℕ} (m n : ℕ) → nth (l ∷ []) m ≡ some x → nth (l ∷ []) n ≡ some x → m ≡ n
      one zero zero h k = refl
      one zero (suc n) h k = grind arith
      one (suc m) zero h k = grind arith
      one (suc m) (suc n) h k = grind arith
