use Rattle.std.proofs.Common.{length, sym, refl, ◌∙◌, arith}
use Rattle.std.proofs.lemmas.Result.{err_from_is_err_and}
use Rattle.model.specs.Steps.{spent}
use Rattle.records.specs.Records.{record_at, ended}
use Rattle.records.proofs.RecordLaws.{kept_set}
use Rattle.looking.specs.Moving.{NotAlone}
use Rattle.looking.proofs.MovingLaws.{begins_told, begins_fails}
use Rattle.looking.proofs.AdvanceLaws.{become_spends, become_stuck, head_there}
use Rattle.looking.proofs.advance.advance_become.Goals as goal

pub returns-then-turns-eq0 : goal.returns-then-turns-eq0
returns-then-turns-eq0 c =
    become_spends c.args.rows.now.words.now c.args.rows.now.map.now c.args.processes.now c.args.i _ c.args.count c.requires.there c.requires.runs c.args.call c.requires.doing (sym c.turns.ensures ∙ c.if-turns-eq0.true)
    (kept_set c.args.processes.now c.args.i c.halt.new.process (ended (record_at c.args.processes.now c.args.i) spent) (omega arith) c.halt.ensures)

pub returns-in_default : goal.returns-in_default
returns-in_default c =
    (refl, become_stuck c.args.rows.now.words.now c.args.rows.now.map.now c.args.processes.now c.args.i c.args.call c.requires.doing (λ z. c.if-turns-eq0.false (c.turns.ensures ∙ z)) c.in_default.ensures.is)

pub returns-in_err-turn : goal.returns-in_err-turn
returns-in_err-turn c =
    let p = err_from_is_err_and c.from_residual.result c.from_residual.ensures.1 in
    rw (p.1, p.2) (begins_fails c.args.rows.now.words.now c.args.rows.now.map.now c.args.processes.now c.turn_into.new.processes (length c.args.processes.now) c.args.count c.args.i
    (NotAlone c.args.rows.now.words.now c.args.rows.now.map.now c.args.processes.now c.args.i) c.requires.there c.requires.runs c.in_err-turn.field-0.0 c.args.call c.in_err-turn.ensures.begins c.in_err-turn.ensures.settles)

pub returns : goal.returns
returns c =
    begins_told c.args.rows.now.words.now c.args.rows.now.map.now c.args.processes.now c.turn_into.new.processes (length c.args.processes.now) c.args.count c.args.i
    (NotAlone c.args.rows.now.words.now c.args.rows.now.map.now c.args.processes.now c.args.i) c.requires.there c.requires.runs c.in_ok-turn.turn c.as_told.result c.args.call c.as_told.ensures c.in_ok-turn.ensures.begins c.in_ok-turn.ensures.settles
    (λ z. c.if-turns-eq0.false (c.turns.ensures ∙ z)) (head_there c.args.rows.now.words.now c.args.rows.now.map.now c.args.call.process c.in-Some.field-0 c.requires.readable c.in-Some.ensures.is)
