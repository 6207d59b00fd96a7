use Rattle.std.proofs.Common.{true, false}
use Rattle.model.proofs.Writing.{one_program}
use Rattle.talks.specs.declared.answers.Judged.TheVariants.{Keeps, Careless, NoProgram}
use Rattle.talks.specs.Says.{JudgedSays}
use Rattle.talks.proofs.Judges.{judged, judged_only}
use Rattle.talks.proofs.judge.Goals as goal

pub returns-in-None : goal.returns-in-None
returns-in-None c =
    let says : JudgedSays c.args.program.now NoProgram = c.in-None.ensures.says in
    record { says = says; one = one_program; only = λ q a. judged_only c.args.program.now NoProgram q says a }

pub returns-then-program_keeps : goal.returns-then-program_keeps
returns-then-program_keeps c =
    let says : JudgedSays c.args.program.now Keeps = judged c.args.program.now c.in-Some.rows c.in-Some.ensures.says true c.if-program_keeps.ensures in
    record { says = says; one = one_program; only = λ q a. judged_only c.args.program.now Keeps q says a }

pub returns-else-program_keeps : goal.returns-else-program_keeps
returns-else-program_keeps c =
    let says : JudgedSays c.args.program.now Careless = judged c.args.program.now c.in-Some.rows c.in-Some.ensures.says false c.if-program_keeps.ensures in
    record { says = says; one = one_program; only = λ q a. judged_only c.args.program.now Careless q says a }
