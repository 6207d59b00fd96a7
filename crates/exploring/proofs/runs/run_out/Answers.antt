use Rattle.std.proofs.Common.{ℕ, Result, Err, length, refl, ap, ◌∙◌, subst}
use Rattle.model.specs.Steps.{begin}
use Rattle.turns.specs.declared.turn.Trouble.{Trouble}
use Rattle.engine.specs.declared.set_up.Unready.{Unready}
use Rattle.engine.specs.Setting.{SetUp}
use Rattle.engine.specs.Ending.{Finished, Ending, Telling, TooMany}
use Rattle.exploring.specs.Exploring.{RunSays}
use Rattle.exploring.proofs.ExploreLaws.{told_end, some_there, at_begin, no_process}
use Rattle.exploring.proofs.runs.run_out.Goals as goal

pub returns-in-Err-Crowded : goal.returns-in-Err-Crowded
returns-in-Err-Crowded c g reads mapped =
    at_begin c.args.rows.now.words.now g c.args.most c.args.turns c.args.shown.now c.args.left.now
    (subst (λ (e : Unready). SetUp c.args.rows.now.words.now c.args.rows.now.map.now c.args.most c.args.turns (Err e)) c.in-Err-Crowded.field-0-is c.in-Err-Crowded.ensures g reads mapped)

pub returns-in-Err-Empty : goal.returns-in-Err-Empty
returns-in-Err-Empty c g reads mapped =
    no_process c.args.rows.now.words.now g c.args.most c.args.turns c.args.shown.now c.args.left.now
    (subst (λ (e : Unready). SetUp c.args.rows.now.words.now c.args.rows.now.map.now c.args.most c.args.turns (Err e)) c.in-Err-Empty.field-0-is c.in-Err-Empty.ensures g reads mapped)

pub run_on-ended-requires : goal.run_on-ended-requires
run_on-ended-requires c =
    let r = c.requires.readable in
    record {
      program = r.program;
      configuration = begin r.program c.args.turns;
      old = c.args.shown.now;
      reads = r.reads;
      mapped = r.mapped;
      running = c.in-Ok.ensures.1 r.program c.args.shown.now r.reads r.mapped;
    }

pub returns-in-Err-Crowded-ended : goal.returns-in-Err-Crowded-ended
returns-in-Err-Crowded-ended c g reads mapped =
    let s = c.args.rows.now.words.now in
    let m = c.args.rows.now.map.now.second in
    let a = begin g c.args.turns in
    let old = c.args.shown.now in
    let run = c.in-Ok.ensures.1 g old reads mapped in
    let e = c.run_on-ended.ensures in
    let is = c.in-Err-Crowded-ended.is ∙ ap Err (simp c.in-Err-Crowded-ended.is at c.in-Err-Crowded-ended.field-0-is) in
    let many = subst (λ (r : Result (Unit {0}) Trouble). Ending s m g old c.run_on-ended.new.shown a c.run_on-ended.new.self r) is (e.ends.1 g a old reads mapped run) in
    let told = subst (λ (r : Result (Unit {0}) Trouble). Telling s m g old c.run_on-ended.new.shown a c.run_on-ended.new.self r) is (e.tells g a old reads mapped run) in
    (subst (λ (n : ℕ). TooMany g n a) (e.ends.0 ∙ c.in-Ok.ensures.0) many, told, refl)

pub returns-in-Ok-ended : goal.returns-in-Ok-ended
returns-in-Ok-ended c g reads mapped =
    let k = c.run_on-ended.new.self in
    let a = begin g c.args.turns in
    let e = c.in-Ok-ended.ensures.ends in
    let end = subst (λ (n : ℕ). Finished c.args.rows.now.words.now c.args.rows.now.map.now.second g n c.args.shown.now k.processes.now c.run_on-ended.new.shown k.count k.total a) (e.0 ∙ c.in-Ok.ensures.0)
    (e.1 g a c.args.shown.now reads mapped (c.in-Ok.ensures.1 g c.args.shown.now reads mapped)) in
    told_end c.args.rows.now.words.now c.args.rows.now.map.now.second g c.args.most c.args.shown.now k.processes.now c.run_on-ended.new.shown k.count k.total a c.args.left.now c.tell.new.left c.tell.result end c.tell.ensures

pub look_to_end-requires : goal.look_to_end-requires
look_to_end-requires c =
    let r = c.requires.readable in
    let a = begin r.program c.args.turns in
    let k = c.run_on-ended.new.self in
    let t = subst (λ (r' : Result (Unit {0}) Trouble). Telling c.args.rows.now.words.now c.args.rows.now.map.now.second r.program c.args.shown.now c.run_on-ended.new.shown a k r') (c.in-Err-Odd.is ∙ ap Err (simp c.in-Err-Odd.is at c.in-Err-Odd.field-0-is))
    (c.run_on-ended.ensures.tells r.program a c.args.shown.now r.reads r.mapped (c.in-Ok.ensures.1 r.program c.args.shown.now r.reads r.mapped)) in
    record {
      some = some_there c.args.rows.now.words.now c.args.rows.now.map.now.second r.program (length k.processes.now) c.args.shown.now k.processes.now c.run_on-ended.new.shown k.count k.total a t.0 t.1;
      fits = k.fits;
      code = k.code;
      going = record {
        program = r.program;
        configuration = a;
        old = c.args.shown.now;
        reads = r.reads;
        mapped = r.mapped;
        standing = t.0;
      };
    }

pub returns-in-Err-Odd : goal.returns-in-Err-Odd
returns-in-Err-Odd c g reads mapped =
    let a = begin g c.args.turns in
    let e = c.run_on-ended.ensures in
    let t = subst (λ (r : Result (Unit {0}) Trouble). Telling c.args.rows.now.words.now c.args.rows.now.map.now.second g c.args.shown.now c.run_on-ended.new.shown a c.run_on-ended.new.self r) (c.in-Err-Odd.is ∙ ap Err (simp c.in-Err-Odd.is at c.in-Err-Odd.field-0-is))
    (e.tells g a c.args.shown.now reads mapped (c.in-Ok.ensures.1 g c.args.shown.now reads mapped)) in
    subst (λ (n : ℕ). RunSays c.args.rows.now.words.now g n c.args.shown.now c.look_to_end.new.shown c.args.left.now c.look_to_end.new.left (begin g c.args.turns) c.look_to_end.result)
    (e.ends.0 ∙ c.in-Ok.ensures.0) (c.look_to_end.ensures g (begin g c.args.turns) c.args.shown.now reads mapped t.0)
