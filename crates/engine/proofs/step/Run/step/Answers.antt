use Rattle.std.proofs.Common.{suc, refl, arith}
use Rattle.std.proofs.lemmas.Result.{err_from_is_err_and}
use Rattle.queues.specs.Rings.{items, taken}
use Rattle.engine.proofs.RunLaws.{before, who_below, went_off, went_on_none, went_shown, went_hidden, room_for, went_both, new_not, one_more, breaks, turn_is}
use Rattle.engine.proofs.step.Run.step.Goals.{then-self-2-via-then-self-2, then-self-2-via-else-self-2+then-self-3, in-On, in-Shown+then-i-eq0, in-Shown+else-i-eq0, in-Both+else-self, in-Started+else-self-2+else-self-3, in-Off}
use Rattle.engine.proofs.step.Run.step.Goals as goal

pub returns-then-i-self-clause-right : goal.returns-then-i-self-clause-right
returns-then-i-self-clause-right c g a old reads mapped run = let l = who_below c.args.rows.now.words.now c.args.rows.now.map.now.second c.args.shown.now c.args.self.now g a old run c.draw_place-place.result c.look-i.result c.look-i.ensures in absurd (omega arith)

pub returns-in_err-act-clause-right : goal.returns-in_err-act-clause-right
returns-in_err-act-clause-right c =
    let p = err_from_is_err_and c.from_residual.result c.from_residual.ensures.1 in
    rw (p.1, p.2) (breaks c.args.rows.now.words.now c.args.rows.now.map.now c.args.shown.now c.args.self.now c.draw_place-place.result c.look-i.result c.look-i.ensures c.act.new.processes c.act.new.lines c.in_err-act.field-0.0 c.in_err-act.ensures.turns)

-- there is always room for the other, and for a new process
pub returns-then-self-clause-right : goal.returns-then-self-clause-right
returns-then-self-clause-right c g a old reads mapped run =
    let t = turn_is c.args.rows.now.words.now c.args.rows.now.map.now.second c.args.shown.now c.args.self.now g a old run c.draw_place-place.result c.look-i.result c.look-i.ensures c.act.new.processes c.act.new.lines c.in_ok-act.field-0 _ c.in-Both.is (c.in_ok-act.ensures.turns g a (taken (items c.args.self.now.ready) c.draw_place-place.result) reads mapped (before c.args.rows.now.words.now c.args.rows.now.map.now.second c.args.shown.now c.args.self.now g a old run c.draw_place-place.result c.look-i.result c.look-i.ensures)) in
    let l = room_for c.args.rows.now.words.now c.args.rows.now.map.now.second c.args.shown.now c.args.self.now g a old run c.draw_place-place.result c.look-i.result c.look-i.ensures c.args.self.now.count c.in-Both.j t.0.now t.1 t.0.holding.many t.0.scheduled.ready in
    let f = c.args.self.now.fits in
    let n = c.args.self.now.slots in
    absurd (omega arith)

pub returns-then-self-clause-leaves : goal.returns-then-self-clause-leaves
returns-then-self-clause-leaves c g a old reads mapped run =
    let t = turn_is c.args.rows.now.words.now c.args.rows.now.map.now.second c.args.shown.now c.args.self.now g a old run c.draw_place-place.result c.look-i.result c.look-i.ensures c.act.new.processes c.act.new.lines c.in_ok-act.field-0 _ c.in-Both.is (c.in_ok-act.ensures.turns g a (taken (items c.args.self.now.ready) c.draw_place-place.result) reads mapped (before c.args.rows.now.words.now c.args.rows.now.map.now.second c.args.shown.now c.args.self.now g a old run c.draw_place-place.result c.look-i.result c.look-i.ensures)) in
    let l = room_for c.args.rows.now.words.now c.args.rows.now.map.now.second c.args.shown.now c.args.self.now g a old run c.draw_place-place.result c.look-i.result c.look-i.ensures c.args.self.now.count c.in-Both.j t.0.now t.1 t.0.holding.many t.0.scheduled.ready in
    let f = c.args.self.now.fits in
    let n = c.args.self.now.slots in
    absurd (omega arith)

pub returns-then-self-2-clause-right : goal.returns-then-self-2-clause-right
returns-then-self-2-clause-right c g a old reads mapped run =
    let t = turn_is c.args.rows.now.words.now c.args.rows.now.map.now.second c.args.shown.now c.args.self.now g a old run c.draw_place-place.result c.look-i.result c.look-i.ensures c.act.new.processes c.act.new.lines c.in_ok-act.field-0 _ c.in-Started.is (c.in_ok-act.ensures.turns g a (taken (items c.args.self.now.ready) c.draw_place-place.result) reads mapped (before c.args.rows.now.words.now c.args.rows.now.map.now.second c.args.shown.now c.args.self.now g a old run c.draw_place-place.result c.look-i.result c.look-i.ensures)) in
    let l = room_for c.args.rows.now.words.now c.args.rows.now.map.now.second c.args.shown.now c.args.self.now g a old run c.draw_place-place.result c.look-i.result c.look-i.ensures (suc c.args.self.now.count) c.args.self.now.count t.0.now (new_not c.args.rows.now.words.now c.args.rows.now.map.now.second c.args.shown.now c.args.self.now g a old run c.draw_place-place.result c.look-i.result c.look-i.ensures) t.0.holding.many t.0.scheduled.ready in
    let n = c.args.self.now.slots in
    elim c.then-self-2.branch [ then-self-2-via-then-self-2 w ↦ (let z = w.if-self-2.true in let r = t.1 in absurd (omega arith)) | then-self-2-via-else-self-2+then-self-3 w ↦ (let z = w.if-self-3.true in let r = t.1 in absurd (omega arith)) ]

pub returns-then-self-2-clause-leaves : goal.returns-then-self-2-clause-leaves
returns-then-self-2-clause-leaves c g a old reads mapped run =
    let t = turn_is c.args.rows.now.words.now c.args.rows.now.map.now.second c.args.shown.now c.args.self.now g a old run c.draw_place-place.result c.look-i.result c.look-i.ensures c.act.new.processes c.act.new.lines c.in_ok-act.field-0 _ c.in-Started.is (c.in_ok-act.ensures.turns g a (taken (items c.args.self.now.ready) c.draw_place-place.result) reads mapped (before c.args.rows.now.words.now c.args.rows.now.map.now.second c.args.shown.now c.args.self.now g a old run c.draw_place-place.result c.look-i.result c.look-i.ensures)) in
    let l = room_for c.args.rows.now.words.now c.args.rows.now.map.now.second c.args.shown.now c.args.self.now g a old run c.draw_place-place.result c.look-i.result c.look-i.ensures (suc c.args.self.now.count) c.args.self.now.count t.0.now (new_not c.args.rows.now.words.now c.args.rows.now.map.now.second c.args.shown.now c.args.self.now g a old run c.draw_place-place.result c.look-i.result c.look-i.ensures) t.0.holding.many t.0.scheduled.ready in
    let n = c.args.self.now.slots in
    elim c.then-self-2.branch [ then-self-2-via-then-self-2 w ↦ (let z = w.if-self-2.true in let r = t.1 in absurd (omega arith)) | then-self-2-via-else-self-2+then-self-3 w ↦ (let z = w.if-self-3.true in let r = t.1 in absurd (omega arith)) ]

pub returns-clause-right : goal.returns-clause-right
returns-clause-right c g a old reads mapped run = elim c.match-branch-2.branch [
  | in-On w ↦ rw w.shown-is (went_on_none c.args.rows.now.words.now c.args.rows.now.map.now.second c.args.shown.now c.args.self.now g a old run c.draw_place-place.result c.look-i.result c.look-i.ensures _ (rw w.self-is refl) (rw w.self-is refl) (rw w.self-is refl) (rw w.self-is (turn_is c.args.rows.now.words.now c.args.rows.now.map.now.second c.args.shown.now c.args.self.now g a old run c.draw_place-place.result c.look-i.result c.look-i.ensures c.act.new.processes c.act.new.lines c.in_ok-act.field-0 _ w.in-On.is (c.in_ok-act.ensures.turns g a (taken (items c.args.self.now.ready) c.draw_place-place.result) reads mapped (before c.args.rows.now.words.now c.args.rows.now.map.now.second c.args.shown.now c.args.self.now g a old run c.draw_place-place.result c.look-i.result c.look-i.ensures)))))
  | in-Shown+then-i-eq0 w ↦ went_shown c.args.rows.now.words.now c.args.rows.now.map.now.second c.args.shown.now c.args.self.now g a old run c.draw_place-place.result c.look-i.result c.look-i.ensures _ (rw w.self-is refl) (rw w.self-is refl) _ w.in-Shown.value w.if-i-eq0.true (rw w.self-is (turn_is c.args.rows.now.words.now c.args.rows.now.map.now.second c.args.shown.now c.args.self.now g a old run c.draw_place-place.result c.look-i.result c.look-i.ensures c.act.new.processes c.act.new.lines c.in_ok-act.field-0 _ w.in-Shown.is (c.in_ok-act.ensures.turns g a (taken (items c.args.self.now.ready) c.draw_place-place.result) reads mapped (before c.args.rows.now.words.now c.args.rows.now.map.now.second c.args.shown.now c.args.self.now g a old run c.draw_place-place.result c.look-i.result c.look-i.ensures)))) (rw (w.self-is, w.shown-is) w.write_down-self.ensures)
  | in-Shown+else-i-eq0 w ↦ rw w.shown-is (went_hidden c.args.rows.now.words.now c.args.rows.now.map.now.second c.args.shown.now c.args.self.now g a old run c.draw_place-place.result c.look-i.result c.look-i.ensures _ (rw w.self-is refl) (rw w.self-is refl) w.in-Shown.value w.if-i-eq0.false (rw w.self-is refl) (rw w.self-is (turn_is c.args.rows.now.words.now c.args.rows.now.map.now.second c.args.shown.now c.args.self.now g a old run c.draw_place-place.result c.look-i.result c.look-i.ensures c.act.new.processes c.act.new.lines c.in_ok-act.field-0 _ w.in-Shown.is (c.in_ok-act.ensures.turns g a (taken (items c.args.self.now.ready) c.draw_place-place.result) reads mapped (before c.args.rows.now.words.now c.args.rows.now.map.now.second c.args.shown.now c.args.self.now g a old run c.draw_place-place.result c.look-i.result c.look-i.ensures)))))
  | in-Both+else-self w ↦ (
      let t = turn_is c.args.rows.now.words.now c.args.rows.now.map.now.second c.args.shown.now c.args.self.now g a old run c.draw_place-place.result c.look-i.result c.look-i.ensures c.act.new.processes c.act.new.lines c.in_ok-act.field-0 _ w.in-Both.is (c.in_ok-act.ensures.turns g a (taken (items c.args.self.now.ready) c.draw_place-place.result) reads mapped (before c.args.rows.now.words.now c.args.rows.now.map.now.second c.args.shown.now c.args.self.now g a old run c.draw_place-place.result c.look-i.result c.look-i.ensures)) in
      rw w.shown-is (went_both c.args.rows.now.words.now c.args.rows.now.map.now.second c.args.shown.now c.args.self.now g a old run c.draw_place-place.result c.look-i.result c.look-i.ensures w.in-Both.j _ (rw w.self-is (record { long = w.push.ensures.pushed.long; items = w.push.ensures.pushed.items; count = w.push.ensures.pushed.count })) t.1 (rw w.self-is refl) (rw w.self-is t.0))
      )
  | in-Started+else-self-2+else-self-3 w ↦ (
      let t = turn_is c.args.rows.now.words.now c.args.rows.now.map.now.second c.args.shown.now c.args.self.now g a old run c.draw_place-place.result c.look-i.result c.look-i.ensures c.act.new.processes c.act.new.lines c.in_ok-act.field-0 _ w.in-Started.is (c.in_ok-act.ensures.turns g a (taken (items c.args.self.now.ready) c.draw_place-place.result) reads mapped (before c.args.rows.now.words.now c.args.rows.now.map.now.second c.args.shown.now c.args.self.now g a old run c.draw_place-place.result c.look-i.result c.look-i.ensures)) in
      rw w.shown-is (went_both c.args.rows.now.words.now c.args.rows.now.map.now.second c.args.shown.now c.args.self.now g a old run c.draw_place-place.result c.look-i.result c.look-i.ensures c.args.self.now.count _ (rw w.self-is w.push-in-Started.ensures.pushed) (new_not c.args.rows.now.words.now c.args.rows.now.map.now.second c.args.shown.now c.args.self.now g a old run c.draw_place-place.result c.look-i.result c.look-i.ensures) (rw w.self-is refl) (rw w.self-is (one_more c.args.rows.now.words.now c.args.rows.now.map.now.second c.args.shown.now c.args.self.now g a old run c.draw_place-place.result c.look-i.result c.look-i.ensures c.act.new.processes c.act.new.lines t.0)))
      )
  | in-Off w ↦ rw w.shown-is (went_off c.args.rows.now.words.now c.args.rows.now.map.now.second c.args.shown.now c.args.self.now g a old run c.draw_place-place.result c.look-i.result c.look-i.ensures _ (rw w.self-is (record { long = w.leave.ensures.gone.long; rest = w.leave.ensures.gone.rest; count = w.leave.ensures.gone.count })) (rw w.self-is refl) (rw w.self-is (turn_is c.args.rows.now.words.now c.args.rows.now.map.now.second c.args.shown.now c.args.self.now g a old run c.draw_place-place.result c.look-i.result c.look-i.ensures c.act.new.processes c.act.new.lines c.in_ok-act.field-0 _ w.in-Off.is (c.in_ok-act.ensures.turns g a (taken (items c.args.self.now.ready) c.draw_place-place.result) reads mapped (before c.args.rows.now.words.now c.args.rows.now.map.now.second c.args.shown.now c.args.self.now g a old run c.draw_place-place.result c.look-i.result c.look-i.ensures)))))
]
