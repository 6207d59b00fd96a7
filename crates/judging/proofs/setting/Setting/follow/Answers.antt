use Rattle.std.proofs.Common.{◌≡◌, Option, subst}
use Rattle.rows.specs.declared.decode.Instruction.{Instruction}
use Rattle.judging.specs.declared.course.Course.{Course}
use Rattle.judging.specs.Following.{FollowSays, StartLooks, BecomeLooks}
use Rattle.judging.specs.Standing.{stand}
use Rattle.judging.proofs.WalkLaws.{Says, follow_none, follow}
use Rattle.judging.proofs.setting.Setting.follow.Goals as goal
use Rattle.judging.proofs.setting.Setting.follow.Goals.{In_ok-instruction_at}

-- by the instruction that was found, as its arm has it
by : (c : In_ok-instruction_at) {k : Instruction} → c.in_ok-instruction_at.field-0 ≡ k → (o : Option Course) → Says c.args.self.now c.args.at c.args.depth (stand c.args.conversations.now) o k →
    FollowSays c.args.self.now c.args.at c.args.depth (stand c.args.conversations.now) o
by c is o says = follow c.args.self.now c.args.at c.args.depth (stand c.args.conversations.now) c.in_ok-instruction_at.ensures.is is o says

pub returns-in_err-instruction_at-clause-says : goal.returns-in_err-instruction_at-clause-says
returns-in_err-instruction_at-clause-says c =
    rw c.from_residual.ensures (follow_none c.args.self.now c.args.at c.args.depth (stand c.args.conversations.now) c.in_err-instruction_at.ensures.is)

pub returns-in-Stop-clause-says : goal.returns-in-Stop-clause-says
returns-in-Stop-clause-says c = by (goal.at.returns-in-Stop-clause-says c).In_ok-instruction_at c.in-Stop.is c.stop.result c.stop.ensures.says

pub returns-in-Give-clause-says : goal.returns-in-Give-clause-says
returns-in-Give-clause-says c = by (goal.at.returns-in-Give-clause-says c).In_ok-instruction_at c.in-Give.is c.give.result c.give.ensures.says

pub returns-in-Take-clause-says : goal.returns-in-Take-clause-says
returns-in-Take-clause-says c = by (goal.at.returns-in-Take-clause-says c).In_ok-instruction_at c.in-Take.is c.take.result c.take.ensures.says

pub returns-in-Choose-clause-says : goal.returns-in-Choose-clause-says
returns-in-Choose-clause-says c = by (goal.at.returns-in-Choose-clause-says c).In_ok-instruction_at c.in-Choose.is c.choose.result c.choose.ensures.says

pub returns-in-Offer-clause-says : goal.returns-in-Offer-clause-says
returns-in-Offer-clause-says c = by (goal.at.returns-in-Offer-clause-says c).In_ok-instruction_at c.in-Offer.is c.offer.result c.offer.ensures.says

pub returns-in-Set-clause-says : goal.returns-in-Set-clause-says
returns-in-Set-clause-says c = by (goal.at.returns-in-Set-clause-says c).In_ok-instruction_at c.in-Set.is c.set.result c.set.ensures.says

pub returns-in-If-clause-says : goal.returns-in-If-clause-says
returns-in-If-clause-says c = by (goal.at.returns-in-If-clause-says c).In_ok-instruction_at c.in-If.is c.part.result c.part.ensures.says

pub returns-in-Show-clause-says : goal.returns-in-Show-clause-says
returns-in-Show-clause-says c = by (goal.at.returns-in-Show-clause-says c).In_ok-instruction_at c.in-Show.is c.show.result c.show.ensures.says

pub returns-in-Start-clause-says : goal.returns-in-Start-clause-says
returns-in-Start-clause-says c =
    by (goal.at.returns-in-Start-clause-says c).In_ok-instruction_at c.in-Start.is c.start.result
    (subst (λ cs. StartLooks c.args.self.now c.in-Start.call cs c.args.depth (stand c.args.conversations.now) c.start.result) c.listed.ensures c.start.ensures.says)

pub returns-in-Become-clause-says : goal.returns-in-Become-clause-says
returns-in-Become-clause-says c =
    by (goal.at.returns-in-Become-clause-says c).In_ok-instruction_at c.in-Become.is c.become_another.result
    (subst (λ cs. BecomeLooks c.args.self.now c.in-Become.call cs c.args.depth (stand c.args.conversations.now) c.become_another.result) c.listed-in-Become.ensures c.become_another.ensures.says)
