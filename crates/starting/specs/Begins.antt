-- What a turn promises in which a process starts another or becomes another.
use Rattle.std.specs.Prelude.{◌≡◌, ℕ, ◌⊎◌, List, Result, Ok, Err}
use Rattle.std.proofs.Math.Option.{none}
use Rattle.model.specs.Program.{nth, Program}
use Rattle.model.specs.Steps.{Worker, Configuration}
use Rattle.model.specs.Rows.{Reads}
use Rattle.rows.specs.declared.decode.Call.{Call}
use Rattle.rows.specs.declared.map.Map.{Map}
use Rattle.rows.specs.Mapped.{Mapped}
use Rattle.records.specs.Records.{record_at}
use Rattle.turns.specs.declared.turn.Turn.{Turn}
use Rattle.turns.specs.declared.turn.Turn.TheVariants.{On, Shown, Both, Started, Off}
use Rattle.turns.specs.declared.turn.Trouble.{Trouble}
use Rattle.turns.specs.declared.turn.Trouble.TheVariants.{Crowded, Odd}
use Rattle.turns.specs.Holding.{Holds}
use Rattle.turns.specs.Turning.{Crammed, Before, Turned}

abbrev pub Begins : List ℕ → Map → List (List ℕ) → List (List ℕ) → ℕ → ℕ → ℕ → Result Turn Trouble → Type 0
Begins s m procs procs' most count i t =
    (lines : List (List ℕ)) (g : Program) (a : Configuration) (q : List ℕ) → Reads s g → Mapped s g m → Before s m.second g procs lines count i a q → Turned s m.second g procs procs' lines most count i a q t

-- It does not go on only if it has no turn left or there is no such process, and is odd only if somebody would have too much.
abbrev pub Settles : List ℕ → Map → List (List ℕ) → ℕ → Call → Result Turn Trouble → Type 0
Settles s m procs i call (Ok On) = Unit {0}
Settles s m procs i call (Ok (Shown v)) = Unit {0}
Settles s m procs i call (Ok (Both j)) = Unit {0}
Settles s m procs i call (Ok Started) = Unit {0}
Settles s m procs i call (Ok Off) = ((record_at procs i).left ≡ 0) ⊎ ((g : Program) → Reads s g → Mapped s g m → nth g.procs call.process ≡ none)
Settles s m procs i call (Err Crowded) = Unit {0}
Settles s m procs i call (Err Odd) = (g : Program) (w : Worker) → Reads s g → Mapped s g m → Holds s m.second (record_at procs i) w → Crammed g w
