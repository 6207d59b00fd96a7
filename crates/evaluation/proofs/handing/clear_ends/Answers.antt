use Rattle.std.proofs.Common.{get_or, refl, ap, ◌∙◌, take_all, arith}
use Rattle.records.specs.Records.{record_of, cleared}
use Rattle.evaluation.specs.Handing.{taken_from}
use Rattle.evaluation.proofs.GivingLaws.{clears_more}
use Rattle.evaluation.proofs.handing.clear_ends.Goals as goal

pub loop-conversation-init : goal.loop-conversation-init
loop-conversation-init c = refl

pub loop-conversation-preserved : goal.loop-conversation-preserved
loop-conversation-preserved c =
    c.clear_end.ensures ∙ (ap (λ r. cleared r (get_or c.args.listed.now c.loop-conversation.conversation-index 0)) c.loop-conversation.invariant ∙
    clears_more (record_of c.args.process.now) c.args.listed.now c.loop-conversation.conversation-index c.loop-conversation-test.true)

pub returns : goal.returns
returns c = c.loop-conversation.invariant ∙ ap (taken_from (record_of c.args.process.now)) (take_all c.loop-conversation.conversation-index c.args.listed.now (omega arith))
