use Rattle.std.proofs.Common.{arith}
use Rattle.records.specs.Records.{record_at, ended}
use Rattle.records.proofs.RecordLaws.{kept_set}
use Rattle.model.specs.Steps.{stopped}
use Rattle.turns.proofs.AloneTurns.{turn_stop}
use Rattle.turns.proofs.alone.stop.Goals as goal

pub returns : goal.returns
returns c most lines g a q b =
    turn_stop c.args.rows.now.words.now c.args.rows.now.map.now.second c.args.processes.now lines c.args.count c.args.i g a q b _ c.requires.doing
    (kept_set c.args.processes.now c.args.i c.halt.new.process (ended (record_at c.args.processes.now c.args.i) stopped) (omega arith) c.halt.ensures)
