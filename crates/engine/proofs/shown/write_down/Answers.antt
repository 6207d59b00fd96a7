use Rattle.std.proofs.Common.{◌∙◌, arith}
use Rattle.engine.proofs.ShownLaws.{written_room, written_full}
use Rattle.engine.proofs.shown.write_down.Goals.{then-total-shown, else-total-shown}
use Rattle.engine.proofs.shown.write_down.Goals as goal

pub returns : goal.returns
returns c ns old is count = elim c.if-total-shown.branch [
  | then-total-shown w ↦ (let p = written_room c.args.shown.now c.args.total c.args.value ns old is count w.if-total-shown.true (omega arith) in (w.shown-is ∙ p.0, c.saturating_add.ensures ∙ p.1))
  | else-total-shown w ↦ (let p = written_full c.args.shown.now c.args.total c.args.value ns old is count w.if-total-shown.false in (w.shown-is ∙ p.0, c.saturating_add.ensures ∙ p.1))
]
