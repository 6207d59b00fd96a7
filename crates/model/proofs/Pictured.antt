-- The picture of the lines, from the invariant.
use mathlib.Core.Path.{◌≡◌, refl, sym, ap}
use mathlib.Core.Logic.{◌⊎◌, inl, inr}
use mathlib.Core.Option.{some}
use Prim.Native.Nat.{ℕ, ◌<◌}
use native.Mathlib.Omega.{arith}
use Rattle.model.specs.Program.{nth, Program}
use Rattle.model.specs.Steps.{Endpoint, own_end, far_end, Worker, Configuration}
use Rattle.model.specs.Picture.{Holds, Live, Picture}
use Rattle.model.specs.Theorems.{Pictured}
use Rattle.model.proofs.Keeping.{Good, good, mutual_turn, not_over_turn}
use Rattle.model.proofs.Sound.{Sound, reached_sound}
use Rattle.model.proofs.Circle.{no_circle, two_holders}

pub sound_picture : (g : Program) → Good g → (a : Configuration) → Sound g a.workers a.next → Picture g a
sound_picture g gd a s = record {
  point = s.point;
  kept = s.inv.kept;
  once = λ i j c d w v e h k x y. one i j c d w v e h k x y (s.inv.holder i j e (w, h, (c, x)) (v, k, (d, y)));
  made = s.inv.made;
  fit = s.fit;
  two_ends = λ l b live. ends l b live;
  no_circle = no_circle a.workers s.inv.forest;
}
  where
    one : (i j c d : ℕ) (w v : Worker) (e : Endpoint) → nth a.workers i ≡ some w → nth a.workers j ≡ some v → nth w.ends c ≡ some (some e) → nth v.ends d ≡ some (some e) → i ≡ j → (i ≡ j) × (c ≡ d)
    one i j c d w v e h k x y q = let wv : v ≡ w = same in (q, s.inv.once i w h c d e x (rw wv at y))
      where
        same : v ≡ w
        same = let z : nth a.workers j ≡ nth a.workers i = ap (nth a.workers) (sym q) in cc

    both : (l : ℕ) → l < a.next → Live g s.point (own_end l) → Live g s.point (far_end l) →
        (i : ℕ) × (j : ℕ) × Holds a.workers i (own_end l) × Holds a.workers j (far_end l) × (i ≡ j → ⊥)
    both l b m n =
        let i = s.inv.held (own_end l) m b (inl refl) in
        let j = s.inv.held (far_end l) n b (inr refl) in (
          i.0,
          j.0,
          i.1,
          j.1,
          two_holders a.workers s.inv.forest l i.0 j.0
              (record { near = own_end l; far = far_end l; near_line = refl; far_line = refl; sides = λ z. omega arith; holds_near = i.1; holds_far = j.1 }),
        )

    ends : (l : ℕ) → l < a.next → Live g s.point (own_end l) ⊎ Live g s.point (far_end l) →
        (i : ℕ) × (j : ℕ) × Holds a.workers i (own_end l) × Holds a.workers j (far_end l) × (i ≡ j → ⊥)
    ends l b (inl m) = both l b m (not_over_turn g gd (s.point (own_end l)) (s.point (far_end l)) (s.fit l b) m)
    ends l b (inr n) = both l b (not_over_turn g gd (s.point (far_end l)) (s.point (own_end l)) (mutual_turn g _ _ (s.fit l b)) n) n

pub pictured : Pictured
pictured s g turns a reads keeps st = let gd = good g reads.sides keeps in sound_picture g gd a (reached_sound g gd turns a st)
