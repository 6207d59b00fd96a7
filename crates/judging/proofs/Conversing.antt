-- The array of conversations and the model's list of them.
use Rattle.std.proofs.Common.{◌≡◌, ℕ, zero, suc, ◌<◌, ◌≤◌, List, [], ◌∷◌, map, length, get_or, take, set, Option, refl, ap, arith}
use mathlib.Core.Option.{none}
use Rattle.judging.specs.Standing.{held}
use Rattle.model.specs.Program.{nth, or, put}

module _ {A : Type 0} where
  -- the point of conversation c
  pub held_nth : (xs : List (Option A)) (c : ℕ) (d : Option A) → c < length xs → or none (nth (map held xs) c) ≡ held (get_or xs c d)
  held_nth [] c d h = absurd (omega arith)
  held_nth (x ∷ xs) zero d h = refl
  held_nth (x ∷ xs) (suc c) d h = held_nth xs c d (omega arith)

  pub held_past : (xs : List (Option A)) (c : ℕ) → length xs ≤ c → or none (nth (map held xs) c) ≡ none
  held_past [] c h = refl
  held_past (x ∷ xs) zero h = absurd (omega arith)
  held_past (x ∷ xs) (suc c) h = held_past xs c (omega arith)

  pub stand_put : (n : ℕ) (xs : List (Option A)) (c : ℕ) (v : Option A) → map held (take n (set xs c v)) ≡ put (map held (take n xs)) c (held v)
  stand_put zero xs c v = refl
  stand_put (suc n) [] c v = refl
  stand_put (suc n) (x ∷ xs) zero v = refl
  stand_put (suc n) (x ∷ xs) (suc c) v = ap (λ l. held x ∷ l) (stand_put n xs c v)
