-- Who waits where, and who holds an end.
use Rattle.std.specs.Prelude.{◌≡◌, ℕ, ◌<◌, Bool, true, false, List, Option as Maybe, MatchOption, IfSome, ◌≢◌}
use Rattle.std.proofs.Math.Option.{some}
use Rattle.model.specs.Steps.{Endpoint, Worker, end}
use Rattle.records.specs.declared.process.End.{End}
use Rattle.records.specs.Records.{Record, record_at, viewed}
use Rattle.turns.specs.Holding.{Holds}
use Rattle.turns.specs.Scheduling.{waiting}

-- the end at which the worker waits that a record is
abbrev pub WaitsAt : List ℕ → Record → Maybe End → Type 0
WaitsAt s q r = (m : List ℕ) (w : Worker) → Holds s m q w → viewed r ≡ waiting w

-- a conversation of a process is this end
abbrev pub HoldsEnd : Record → Endpoint → Bool → Type 0
HoldsEnd q e true = (c : ℕ) × (end q.ends c ≡ some e)
HoldsEnd q e false = (c : ℕ) → end q.ends c ≢ some e

-- the first process that holds this end, if one does
abbrev pub HolderIs : List (List ℕ) → ℕ → Endpoint → Maybe ℕ → Type 0
HolderIs procs n e r = MatchOption r ((j : ℕ) → j < n → HoldsEnd (record_at procs j) e false) (λ j. (j < n) × HoldsEnd (record_at procs j) e true)

-- none before that process holds it
abbrev pub NoneBefore : List (List ℕ) → Endpoint → Maybe ℕ → Type 0
NoneBefore procs e r = IfSome r (λ j. (k : ℕ) → k < j → HoldsEnd (record_at procs k) e false)
