use Rattle.std.proofs.Common.{length, refl, subst, arith}
use Rattle.turns.specs.declared.turn.Trouble.{Trouble}
use Rattle.looking.specs.Looking.{Breaks}
use Rattle.exploring.proofs.ExploreLaws.{told_end}
use Rattle.exploring.proofs.runs.look_to_end.Goals as goal

pub tell-requires : goal.tell-requires
tell-requires c =
    let h = c.requires.going in
    let few = (c.in-Ok.ensures h.program h.configuration h.old h.reads h.mapped h.standing).few in
    record { code = omega arith; records = omega arith }

pub returns-in-Err-Crowded : goal.returns-in-Err-Crowded
returns-in-Err-Crowded c g a old reads mapped d =
    let t = subst (λ (e : Trouble). Breaks g (length c.args.processes.now) old c.look_on.new.shown a e) c.in-Err-Crowded.field-0-is (c.in-Err-Crowded.ensures g a old reads mapped d) in
    (t.0, t.1, refl)

pub returns-in-Err-Odd : goal.returns-in-Err-Odd
returns-in-Err-Odd c g a old reads mapped d =
    let t = subst (λ (e : Trouble). Breaks g (length c.args.processes.now) old c.look_on.new.shown a e) c.in-Err-Odd.field-0-is (c.in-Err-Odd.ensures g a old reads mapped d) in
    (t.0, t.1, refl)

pub returns-in-Ok : goal.returns-in-Ok
returns-in-Ok c g a old reads mapped d =
    told_end c.args.rows.now.words.now c.args.rows.now.map.now.second g (length c.args.processes.now) old c.look_on.new.processes c.look_on.new.shown c.in-Ok.end.count c.in-Ok.end.total a c.args.left.now c.tell.new.left c.tell.result
    (c.in-Ok.ensures g a old reads mapped d) c.tell.ensures
