use Rattle.std.proofs.Common.{refl, length-set}
use Rattle.queues.proofs.RingLaws.{pushed}
use Rattle.queues.proofs.ring.Queue.push.Goals as goal

pub returns-clause-pushed : goal.returns-clause-pushed
returns-clause-pushed c = record {
  long = length-set c.args.self.now.slots.now c.slot_after-at.result c.args.who;
  items = pushed c.args.self.now.slots.now c.args.self.now.head c.args.self.now.count c.slot_after-at.result c.args.who c.args.self.now.inside c.requires c.slot_after-at.ensures;
  count = refl;
}
