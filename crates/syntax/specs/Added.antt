-- What a function that appends to a list has done.
use Rattle.std.specs.Prelude.{◌≡◌, ℕ, List, ◌++◌, Result, OnOk}

-- where the call succeeded, the list is the one before with these items after it
abbrev pub Grown : {X T E : Type 0} → Result T E → List X → List X → List X → Type 0
Grown r before after items = OnOk r (after ≡ before ++ items)

-- where the call succeeded, the list is the one before with these words after it
abbrev pub Added : {T E : Type 0} → Result T E → List ℕ → List ℕ → List ℕ → Type 0
Added r before after words = OnOk r (after ≡ before ++ words)
