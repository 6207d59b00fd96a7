use Rattle.judging.proofs.Conversing.{stand_put}
use Rattle.judging.proofs.conversations.Conversations.move_to.Goals as goal

pub returns-then-c-self : goal.returns-then-c-self
returns-then-c-self c = stand_put c.args.self.now.count c.args.self.now.points c.args.conversation c.args.point
