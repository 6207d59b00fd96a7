use Rattle.std.proofs.Common.{get_or, ap, ◌∙◌, arith}
use Rattle.records.specs.Records.{record_at, moved}
use Rattle.records.proofs.RecordLaws.{kept_set}
use Rattle.turns.proofs.AloneTurns.{turn_else, turn_then}
use Rattle.turns.proofs.alone.fork.Goals.{then-given-eq0, else-given-eq0}
use Rattle.turns.proofs.alone.fork.Goals as goal

pub returns-clause-acts : goal.returns-clause-acts
returns-clause-acts c most lines g a q b = elim c.if-given-eq0.branch [
  | then-given-eq0 w ↦ turn_else c.args.rows.now.words.now c.args.rows.now.map.now.second c.args.processes.now lines c.args.count c.args.i g a q b
      c.args.condition c.variables.result.now c.evaluate-given.result c.variables.ensures c.evaluate-given.ensures.value
      _ w.place.result c.requires.doing w.place.ensures.place w.if-given-eq0.true
      (kept_set c.args.processes.now c.args.i c.set_place.new.process (moved (record_at c.args.processes.now c.args.i) (get_or c.args.rows.now.map.now.second w.place.result 0)) (omega arith)
      (c.set_place.ensures ∙ ap (moved (record_at c.args.processes.now c.args.i)) w.next-is))
  | else-given-eq0 w ↦ turn_then c.args.rows.now.words.now c.args.rows.now.map.now.second c.args.processes.now lines c.args.count c.args.i g a q b
      c.args.condition c.variables.result.now c.evaluate-given.result c.variables.ensures c.evaluate-given.ensures.value
      _ c.requires.doing w.if-given-eq0.false
      (kept_set c.args.processes.now c.args.i c.set_place.new.process (moved (record_at c.args.processes.now c.args.i) c.evaluate-given.result.next) (omega arith)
      (c.set_place.ensures ∙ ap (moved (record_at c.args.processes.now c.args.i)) w.next-is))
]
