use Rattle.std.proofs.Common.{ap, ◌∙◌, arith}
use Rattle.records.specs.Records.{record_at, moved, assigned}
use Rattle.records.proofs.RecordLaws.{kept_set}
use Rattle.turns.proofs.AloneTurns.{turn_set}
use Rattle.turns.proofs.alone.assign.Goals as goal

pub returns-clause-acts : goal.returns-clause-acts
returns-clause-acts c most lines g a q b =
    turn_set c.args.rows.now.words.now c.args.rows.now.map.now.second c.args.processes.now lines c.args.count c.args.i g a q b
    c.args.value c.variables.result.now c.evaluate-given.result c.variables.ensures c.evaluate-given.ensures.value _ c.args.variable c.requires.doing
    (kept_set c.args.processes.now c.args.i c.set_place.new.process (moved (assigned (record_at c.args.processes.now c.args.i) c.args.variable c.evaluate-given.result.value) c.evaluate-given.result.next) (omega arith)
    (c.set_place.ensures ∙ ap (λ r. moved r c.evaluate-given.result.next) c.set_variable.ensures))
