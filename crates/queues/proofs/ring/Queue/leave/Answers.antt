use Rattle.std.proofs.Common.{get_or, length-set, arith}
use Rattle.queues.proofs.RingLaws.{gone}
use Rattle.queues.proofs.ring.Queue.leave.Goals as goal

pub returns-clause-gone : goal.returns-clause-gone
returns-clause-gone c = record {
  long = length-set c.args.self.now.slots.now c.slot_after-gap.result (get_or c.args.self.now.slots.now c.args.self.now.head 0);
  rest = gone c.args.self.now.slots.now c.args.self.now.head c.args.self.now.count c.args.place c.slot_after-gap.result c.slot_after-next.result
      c.args.self.now.inside c.args.self.now.few c.requires c.slot_after-gap.ensures c.slot_after-next.ensures;
  count = omega arith;
}
