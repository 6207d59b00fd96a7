-- Whether some process stands so.
use Rattle.std.specs.Prelude.{◌≡◌, ℕ, ◌<◌, Bool, true, false, List, ◌≢◌}
use Rattle.model.specs.Steps.{State}
use Rattle.records.specs.Records.{record_at}

-- two states are the same
abbrev pub Same : State → State → Bool → Type 0
Same x y true = x ≡ y
Same x y false = x ≡ y → ⊥

-- one of the first n processes stands so
abbrev pub SomeAt : List (List ℕ) → ℕ → State → Bool → Type 0
SomeAt procs n k true = (i : ℕ) × (i < n) × ((record_at procs i).state ≡ k)
SomeAt procs n k false = (i : ℕ) → i < n → (record_at procs i).state ≢ k
