-- Circles in a table: from a process one comes to the holder in its row, and so on.
use Rattle.std.specs.Prelude.{◌≡◌, ℕ, zero, suc, ◌<◌, Bool, true, false, cond, List, [], ◌∷◌, length, Option as Maybe, MatchOption, ◌==◌}
use Rattle.std.proofs.Math.Option.{Option, some, none}
use Rattle.queues.specs.Lines.{option}
use Rattle.exploring.specs.declared.answers.Left.{Left}

-- the holder in the first row of a process
abbrev pub hop : List Left → ℕ → Option ℕ
hop [] i = none
hop (row ∷ rows) i = cond (row.process == i) (option row.holder) (hop rows i)

-- where one comes from a process in so many hops
abbrev pub onward : List Left → Option ℕ → Option ℕ
onward rows none = none
onward rows (some j) = hop rows j

abbrev pub hops : List Left → ℕ → ℕ → Option ℕ
hops rows zero i = some i
hops rows (suc n) i = onward rows (hops rows n i)

-- One comes back to a process in some hops, one at least; and in as many hops as there are rows, or fewer.
abbrev pub ComesBack : List Left → ℕ → Type 0
ComesBack rows i = (n : ℕ) × (hops rows (suc n) i ≡ some i)

abbrev pub ComesBackSoon : List Left → ℕ → Type 0
ComesBackSoon rows i = (n : ℕ) × (n < length rows) × (hops rows (suc n) i ≡ some i)

abbrev pub BackIs : List Left → ℕ → Bool → Type 0
BackIs rows i true = ComesBackSoon rows i
BackIs rows i false = ComesBackSoon rows i → ⊥

-- a process to which one comes back soon; or one comes back to none, in however many hops
abbrev pub CircleIs : List Left → Maybe ℕ → Type 0
CircleIs rows r = MatchOption r ((i : ℕ) → ComesBack rows i → ⊥) (ComesBackSoon rows)
