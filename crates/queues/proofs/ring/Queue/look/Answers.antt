use Rattle.queues.proofs.RingLaws.{looked}
use Rattle.queues.proofs.ring.Queue.look.Goals as goal

pub returns : goal.returns
returns c = looked c.args.self.now.slots.now c.args.self.now.head c.args.self.now.count c.args.place c.slot_after-at.result c.requires c.slot_after-at.ensures
