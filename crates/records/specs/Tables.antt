-- Lists made from a function of places.
use Rattle.std.specs.Prelude.{ℕ, zero, suc, List, [], ◌∷◌}

-- f at place b and the n − 1 places after it
abbrev pub table : {A : Type 0} → (ℕ → A) → ℕ → ℕ → List A
table f b zero = []
table f b (suc n) = f b ∷ table f (suc b) n
