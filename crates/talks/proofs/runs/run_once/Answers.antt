use Rattle.std.proofs.Common.{Err, subst, arith}
use Rattle.turns.specs.declared.turn.Trouble.{Trouble}
use Rattle.engine.specs.Whole.{RunsTo}
use Rattle.talks.proofs.RunLaws.{nothing_odd, finished}
use Rattle.talks.proofs.runs.run_once.Goals as goal

pub run_whole-requires : goal.run_whole-requires
run_whole-requires c =
    let k = c.requires.kept in
    let r = c.requires.room in
    record { lent = omega arith; readable = record { program = k.program; reads = k.known.reads; mapped = k.known.mapped } }

pub unreachable-requires : goal.unreachable-requires
unreachable-requires c =
    let k = c.requires.kept in
    let o = (subst (λ (e : Trouble). RunsTo c.args.rows.now.words.now c.args.rows.now.map.now c.args.most c.args.turns c.args.shown.now c.run_whole.new.shown (Err e)) c.in-Err-Odd.field-0-is c.in-Err-Odd.ensures) k.program k.known.reads k.known.mapped in
    nothing_odd c.args.rows.now.words.now k.program k.known.reads k.keeps c.args.turns o.now o.steps o.odd

pub returns-in-Err-Crowded : goal.returns-in-Err-Crowded
returns-in-Err-Crowded c g known keeps =
    let o = (subst (λ (e : Trouble). RunsTo c.args.rows.now.words.now c.args.rows.now.map.now c.args.most c.args.turns c.args.shown.now c.run_whole.new.shown (Err e)) c.in-Err-Crowded.field-0-is c.in-Err-Crowded.ensures) g known.reads known.mapped in
    record { now = o.now; steps = o.steps; many = o.many }

pub returns-in-Ok : goal.returns-in-Ok
returns-in-Ok c g known keeps =
    let r = c.in-Ok.rest in
    finished g c.args.most c.args.turns r.count r.total c.args.shown.now c.run_whole.new.shown r.spent r.waiting (c.in-Ok.ensures g known.reads known.mapped)
