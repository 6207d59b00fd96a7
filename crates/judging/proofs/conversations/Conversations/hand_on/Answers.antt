use Rattle.judging.specs.Standing.{stand}
use Rattle.judging.proofs.HandingLaws.{hands_uneven}
use Rattle.judging.proofs.conversations.Conversations.hand_on.Goals as goal

pub returns-then-listed-wanted : goal.returns-then-listed-wanted
returns-then-listed-wanted c = hands_uneven (stand c.args.self.now) c.args.listed.now c.args.wanted.now c.if-listed-wanted.true
