-- The numbers that are shown, as far as there is room.
use Rattle.std.specs.Prelude.{ℕ, ◌-◌, ◌^◌, min, List, [], ◌∷◌, length}

-- numbers laid over what was there before, as far as there is room
abbrev pub overlay : List ℕ → List ℕ → List ℕ
overlay [] old = old
overlay (n ∷ ns) [] = []
overlay (n ∷ ns) (o ∷ os) = n ∷ overlay ns os

-- how many numbers were shown, as far as one can count
abbrev pub counted : List ℕ → ℕ
counted ns = min (length ns) (2 ^ 64 - 1)
