-- Who is in a queue.
use Rattle.std.proofs.Common.{◌≡◌, ℕ, zero, suc, ◌⊎◌, List, [], ◌∷◌, refl, inl, inr, arith}
use Rattle.turns.specs.Scheduling.{In}

pub in_here : (i : ℕ) (q : List ℕ) → In (i ∷ q) i
in_here i q = (0, refl)

pub in_there : (i : ℕ) (q : List ℕ) (k : ℕ) → In q k → In (i ∷ q) k
in_there i q k (n, e) = (suc n, e)

pub in_split : (i : ℕ) (q : List ℕ) (k : ℕ) → In (i ∷ q) k → (k ≡ i) ⊎ In q k
in_split i q k (zero, e) = inl (cc)
in_split i q k (suc n, e) = inr (n, e)

pub in_none : (k : ℕ) → In [] k → ⊥
in_none k (n, e) = let z : ◌≡◌ {A = ℕ} 0 1 = cc in omega arith
