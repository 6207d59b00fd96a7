use Rattle.std.proofs.Common.{length, ◌∙◌, arith}
use Rattle.talks.proofs.LentLaws.{answer_crowded, answer_full, never_crowded, written_first, written_rest, long_enough, answer_ended}
use Rattle.talks.proofs.runs.run_lent.Goals as goal

pub returns-in_default : goal.returns-in_default
returns-in_default c =
    let k = c.requires.kept in
    let a = answer_crowded c.args.rows.now.words.now c.args.rows.now.map.now k c.args.most c.args.turns (length c.args.work.now) c.args.shown.now c.requires.room (c.in_default.ensures k.program k.known k.keeps) in
    record { says = a.says; comes = a.comes }

pub returns-then-rest-shown : goal.returns-then-rest-shown
returns-then-rest-shown c =
    let k = c.requires.kept in
    let r = c.in-Some.rest in
    let a = answer_full c.args.rows.now.words.now c.args.rows.now.map.now k c.args.most c.args.turns (length c.args.work.now) c.args.shown.now c.requires.room _ _ r.total r.spent (c.in-Some.ensures k.program k.known k.keeps) c.if-rest-shown.true in
    record { says = a.says; comes = a.comes }

pub returns-then-rest-spare : goal.returns-then-rest-spare
returns-then-rest-spare c =
    let k = c.requires.kept in
    let r = c.in-Some.rest in
    let f = c.in-Some.ensures k.program k.known k.keeps in
    let first = written_first c.args.rows.now.words.now c.args.rows.now.map.now k c.args.most c.args.turns (length c.args.work.now) c.args.shown.now c.requires.room _ _ r.total r.spent f c.if-rest-spare.true (omega arith) in
    let a = answer_ended c.args.rows.now.words.now c.args.rows.now.map.now k c.args.most c.args.turns (length c.args.work.now) c.args.shown.now c.requires.room _ _ c.copy_first.new.shown r.total r.spent f (omega arith) (omega arith) (c.copy_first.ensures.first ∙ first) c.copy_first.ensures.rest c.ended.result c.ended.ensures in
    record { says = a.says; comes = a.comes }

pub unreachable-requires : goal.unreachable-requires
unreachable-requires c =
    let k = c.requires.kept in
    let r = c.in-Some.rest in
    never_crowded c.args.rows.now.words.now c.args.rows.now.map.now k c.args.most c.args.turns (length c.args.work.now) c.args.shown.now c.requires.room _ _ r.total r.spent (c.in-Some.ensures k.program k.known k.keeps) (c.in-None.ensures k.program k.known k.keeps)

pub returns : goal.returns
returns c =
    let k = c.requires.kept in
    let r₁ = c.in-Some.rest in
    let r = c.in-Some-run_once.again in
    let f₁ = c.in-Some.ensures k.program k.known k.keeps in
    let f = c.in-Some-run_once.ensures k.program k.known k.keeps in
    let long = long_enough c.args.rows.now.words.now c.args.rows.now.map.now k c.args.most c.args.turns (length c.args.work.now) c.args.shown.now c.requires.room _ _ c.run_once-2.new.shown r₁.total r.total r₁.spent r.spent f₁ f (omega arith) in
    let enough = long.0 in
    let as_long = long.1 in
    let first = written_first c.args.rows.now.words.now c.args.rows.now.map.now k c.args.most c.args.turns (length c.args.work.now) c.args.shown.now c.requires.room c.args.shown.now c.run_once-2.new.shown r.total r.spent f (omega arith) (omega arith) in
    let rest = written_rest c.args.rows.now.words.now c.args.rows.now.map.now k c.args.most c.args.turns (length c.args.work.now) c.args.shown.now c.requires.room c.args.shown.now c.run_once-2.new.shown r.total r.spent f (omega arith) (omega arith) in
    let a = answer_ended c.args.rows.now.words.now c.args.rows.now.map.now k c.args.most c.args.turns (length c.args.work.now) c.args.shown.now c.requires.room c.args.shown.now c.run_once-2.new.shown c.run_once-2.new.shown r.total r.spent f enough (omega arith) first rest c.ended-in-Some-run_once.result c.ended-in-Some-run_once.ensures in
    record { says = a.says; comes = a.comes }
