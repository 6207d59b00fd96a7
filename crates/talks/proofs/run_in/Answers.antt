use Rattle.std.proofs.Common.{List, ℕ, length, false, subst, arith}
use Rattle.talks.specs.Runs.{GoPost}
use Rattle.talks.proofs.Judges.{judged, kept_known}
use Rattle.talks.proofs.LentLaws.{answer_few, answer_unread, answer_unkept, post}
use Rattle.talks.proofs.run_in.Goals as goal

pub returns-then-work-most : goal.returns-then-work-most
returns-then-work-most c = answer_few c.args.program.now c.args.most c.args.turns (length c.args.work.now) c.args.shown.now (omega arith)

pub returns-in_default : goal.returns-in_default
returns-in_default c = answer_unread c.args.program.now c.args.most c.args.turns (length c.args.work.now) c.args.shown.now (omega arith) c.in_default.ensures.says

pub returns-then-not-program_keeps : goal.returns-then-not-program_keeps
returns-then-not-program_keeps c = answer_unkept c.args.program.now c.args.most c.args.turns (length c.args.work.now) c.args.shown.now (omega arith) (judged c.args.program.now c.in-Some.rows c.in-Some.ensures.says false c.if-not-program_keeps.ensures)

pub run_lent-requires-clause-kept : goal.run_lent-requires-clause-kept
run_lent-requires-clause-kept c = kept_known c.args.program.now c.in-Some.rows c.in-Some.ensures.says c.if-not-program_keeps.ensures

pub returns : goal.returns
returns c =
    subst (λ (x : List ℕ). GoPost x c.args.most c.args.turns c.args.shown.now c.run_lent.new.shown (length c.args.work.now) c.run_lent.result) c.in-Some.ensures.says.words
    (post c.in-Some.rows.words.now c.args.most c.args.turns c.args.shown.now c.run_lent.new.shown (length c.args.work.now) c.run_lent.result c.run_lent.ensures.says c.run_lent.ensures.comes)
