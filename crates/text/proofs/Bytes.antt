-- A spot of a text, one byte further on.
use Rattle.std.proofs.Common.{◌≡◌, ℕ, ◌+◌, ◌<◌, ◌≤◌, min, List, [], ◌∷◌, ◌++◌, length, get_or, take, sym, refl, ap, ◌∙◌, ⊎_elim, arith}
use native.Mathlib.Nat.{min-eq_left, min-eq_right}
use Rattle.std.proofs.lemmas.List.{take_more, take_all}
use Rattle.std.proofs.lemmas.Bool.{cases_lt}
use Rattle.text.specs.Reached.{Spot, after, spot, spot_from}

spot_snoc : (s : Spot) (bs : List ℕ) (b : ℕ) → spot_from s (bs ++ (b ∷ [])) ≡ after b (spot_from s bs)
spot_snoc s [] b = refl
spot_snoc s (c ∷ bs) b = spot_snoc (after c s) bs b

pub spot_more : (bs : List ℕ) (i : ℕ) (s t : Spot) → i < length bs → s ≡ spot (take i bs) → t ≡ after (get_or bs i 0) s → t ≡ spot (take (i + 1) bs)
spot_more bs i s t l inv step =
    step ∙ (ap (after (get_or bs i 0)) inv ∙ sym (ap spot (take_more bs i 0 l) ∙ spot_snoc (record { line = 0; column = 0 }) (take i bs) (get_or bs i 0)))

pub take_min : (bs : List ℕ) (n : ℕ) → take (min n (length bs)) bs ≡ take n bs
take_min bs n =
    ⊎_elim (λ l. let k : n ≤ length bs = omega arith in ap (λ m. take m bs) (min-eq_left k)) (λ l. ap (λ m. take m bs) (min-eq_right l) ∙ (take_all (length bs) bs (omega arith) ∙ sym (take_all n bs l))) (cases_lt n (length bs))

pub spot_end : (bs text : List ℕ) (i end at : ℕ) (s : Spot) → bs ≡ text → end ≡ min at (length bs) → i ≤ end → end ≤ i → s ≡ spot (take i bs) → s ≡ spot (take at text)
spot_end bs text i end at s same is below reached inv =
    let e : i ≡ min at (length bs) = omega arith in
    inv ∙ (ap (λ k. spot (take k bs)) e ∙ (ap spot (take_min bs at) ∙ ap (λ b. spot (take at b)) same))
