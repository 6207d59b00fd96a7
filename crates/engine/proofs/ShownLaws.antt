-- One more number laid over what was there before, and counted.
use Rattle.std.proofs.Common.{◌≡◌, ℕ, suc, ◌+◌, ◌-◌, ◌^◌, ◌<◌, ◌≤◌, min, List, [], ◌∷◌, ◌++◌, length, set, refl, ap, ◌∙◌, arith, length-append}
use Rattle.engine.specs.Shown.{overlay, counted}

pub length_overlay : (ns old : List ℕ) → length (overlay ns old) ≡ length old
length_overlay [] old = refl
length_overlay (n ∷ ns) [] = refl
length_overlay (n ∷ ns) (o ∷ os) = ap suc (length_overlay ns os)

overlay_snoc : (ns old : List ℕ) (v : ℕ) → length ns < length old → set (overlay ns old) (length ns) v ≡ overlay (ns ++ (v ∷ [])) old
overlay_snoc [] [] v h = absurd (omega arith)
overlay_snoc [] (o ∷ os) v h = refl
overlay_snoc (n ∷ ns) [] v h = absurd (omega arith)
overlay_snoc (n ∷ ns) (o ∷ os) v h = ap (λ l. n ∷ l) (overlay_snoc ns os v (omega arith))

overlay_full : (ns old : List ℕ) (v : ℕ) → length old ≤ length ns → overlay ns old ≡ overlay (ns ++ (v ∷ [])) old
overlay_full [] [] v h = refl
overlay_full [] (o ∷ os) v h = absurd (omega arith)
overlay_full (n ∷ ns) [] v h = refl
overlay_full (n ∷ ns) (o ∷ os) v h = ap (λ l. n ∷ l) (overlay_full ns os v (omega arith))

module _ (shown : List ℕ) (total v : ℕ) (ns old : List ℕ) (is : shown ≡ overlay ns old) (count : total ≡ counted ns) where
  pub written_room : total < length shown → length shown < 2 ^ 64 → (set shown total v ≡ overlay (ns ++ (v ∷ [])) old) × (min (total + 1) (2 ^ 64 - 1) ≡ counted (ns ++ (v ∷ [])))
  written_room h k =
      let l = length_overlay ns old in
      let l2 = ap length is in
      let l3 = length-append ns (v ∷ []) in
      let e : total ≡ length ns = omega arith in
      (ap (λ (x : List ℕ). set x total v) is ∙ (ap (λ n. set (overlay ns old) n v) e ∙ overlay_snoc ns old v (omega arith)), omega arith)

  pub written_full : length shown ≤ total → (shown ≡ overlay (ns ++ (v ∷ [])) old) × (min (total + 1) (2 ^ 64 - 1) ≡ counted (ns ++ (v ∷ [])))
  written_full h =
      let l = length_overlay ns old in
      let l2 = ap length is in
      let l3 = length-append ns (v ∷ []) in
      (is ∙ overlay_full ns old v (omega arith), omega arith)
