-- What is known where no step was found.
use Rattle.std.specs.Prelude.{◌≡◌, ℕ, ◌<◌, List}
use Rattle.model.specs.Steps.{running}
use Rattle.model.specs.Theorems.{Still}
use Rattle.rows.specs.declared.map.Map.{Map}
use Rattle.records.specs.Records.{record_at}
use Rattle.looking.specs.Moving.{Each, NotAlone}
use Rattle.looking.specs.Pairing.{Unmet}

-- process i, if it is running, takes no step by itself and none together with another
abbrev pub NoStep : List ℕ → Map → List (List ℕ) → ℕ → ℕ → Type 0
NoStep s m procs count i = (record_at procs i).state ≡ running → NotAlone s m procs i × ((j : ℕ) → j < count → Unmet s m.second procs i j)

-- no step is possible
abbrev pub AtEnd : List ℕ → Map → List (List ℕ) → ℕ → Type 0
AtEnd s m procs count = Each s m procs count Still
