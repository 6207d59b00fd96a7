-- The records of a process that begins, and of one that has started another.
use Rattle.std.specs.Prelude.{ℕ, List, [], ◌∷◌, ◌++◌}
use Rattle.std.proofs.Math.Option.{Option, some}
use Rattle.model.specs.Steps.{Endpoint, running, own_end, without}
use Rattle.records.specs.Records.{Record}

abbrev pub begun_with : ℕ → ℕ → List (Option Endpoint) → List ℕ → Record
begun_with p l es ns = record { place = p; left = l; state = running; vars = ns; ends = es }

abbrev pub released : Record → List ℕ → ℕ → ℕ → ℕ → Record
released r cs line l p = record { place = p; left = l; state = r.state; vars = r.vars; ends = without r.ends cs ++ (some (own_end line) ∷ []) }
