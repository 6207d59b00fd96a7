use Rattle.std.proofs.Common.{length, refl, arith}
use Rattle.model.specs.Steps.{stopped}
use Rattle.rows.specs.declared.decode.Instruction.TheVariants.{Stop}
use Rattle.records.specs.Records.{record_at, ended}
use Rattle.records.proofs.RecordLaws.{kept_set}
use Rattle.looking.specs.Moving.{NotAlone}
use Rattle.looking.proofs.MovingLaws.{goes_told}
use Rattle.looking.proofs.AdvanceLaws.{doing_at, stop_moves, nothing_stuck, waits_stuck}
use Rattle.looking.proofs.advance.advance.Goals as goal

pub returns-in_default : goal.returns-in_default
returns-in_default c = (refl, nothing_stuck c.args.rows.now.words.now c.args.rows.now.map.now c.args.processes.now c.args.i c.place.result c.place.ensures.place c.in_default.ensures.is)

pub returns-in-Stop : goal.returns-in-Stop
returns-in-Stop c =
    stop_moves c.args.rows.now.words.now c.args.rows.now.map.now c.args.processes.now c.args.i _ c.args.count c.requires.there c.requires.runs
    (doing_at c.args.rows.now.words.now c.args.processes.now c.args.i c.place.result c.in-Some.what Stop c.place.ensures.place c.in-Some.ensures.is c.in-Stop.is c.in-Some.ensures.words)
    (kept_set c.args.processes.now c.args.i c.halt.new.process (ended (record_at c.args.processes.now c.args.i) stopped) (omega arith) c.halt.ensures)

pub returns-in-Set : goal.returns-in-Set
returns-in-Set c =
    goes_told c.args.rows.now.words.now c.args.rows.now.map.now c.args.processes.now c.assign-turn.new.processes (length c.args.processes.now) c.args.count c.args.i (NotAlone c.args.rows.now.words.now c.args.rows.now.map.now c.args.processes.now c.args.i) c.requires.there c.requires.runs
    c.assign-turn.result c.as_told.result c.as_told.ensures c.assign-turn.ensures.acts c.assign-turn.ensures.goes

pub returns-in-If : goal.returns-in-If
returns-in-If c =
    goes_told c.args.rows.now.words.now c.args.rows.now.map.now c.args.processes.now c.fork-turn.new.processes (length c.args.processes.now) c.args.count c.args.i (NotAlone c.args.rows.now.words.now c.args.rows.now.map.now c.args.processes.now c.args.i) c.requires.there c.requires.runs
    c.fork-turn.result c.as_told-in-If.result c.as_told-in-If.ensures c.fork-turn.ensures.acts c.fork-turn.ensures.goes

pub returns-in-Show : goal.returns-in-Show
returns-in-Show c =
    goes_told c.args.rows.now.words.now c.args.rows.now.map.now c.args.processes.now c.show-turn.new.processes (length c.args.processes.now) c.args.count c.args.i (NotAlone c.args.rows.now.words.now c.args.rows.now.map.now c.args.processes.now c.args.i) c.requires.there c.requires.runs
    c.show-turn.result c.as_told-in-Show.result c.as_told-in-Show.ensures c.show-turn.ensures.acts c.show-turn.ensures.goes

pub returns-in_default-what : goal.returns-in_default-what
returns-in_default-what c = (
  refl,
  waits_stuck c.args.rows.now.words.now c.args.rows.now.map.now c.args.processes.now c.args.i c.place.result c.place.ensures.place c.in-Some.what c.in-Some.ensures.is
      c.in_default-what.not-Stop c.in_default-what.not-Set c.in_default-what.not-If c.in_default-what.not-Show c.in_default-what.not-Start c.in_default-what.not-Become,
)
