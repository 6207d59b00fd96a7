use Rattle.std.proofs.Common.{◌≡◌, length, drop}
use Rattle.model.specs.Keeps.{hands}
use Rattle.judging.specs.Standing.{stand}
use Rattle.judging.proofs.conversations.Conversations.hand_on.Given as goal

abbrev pub invariant-loop-conversation : goal.invariant-loop-conversation
invariant-loop-conversation l = hands (stand l.initial.left) l.listed l.wanted ≡ hands (stand l.left) (drop (length l.yielded) l.listed) (drop (length l.yielded) l.wanted)
