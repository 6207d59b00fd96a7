use Rattle.std.proofs.Common.{take, sym, ap, ◌∙◌}
use Rattle.judging.specs.Standing.{held}
use Rattle.judging.proofs.Conversing.{held_nth, held_past}
use Rattle.judging.proofs.conversations.Conversations.point.Goals as goal

pub returns-in_err-get : goal.returns-in_err-get
returns-in_err-get c = rw c.from_residual.ensures (sym (held_past (take c.args.self.now.count c.args.self.now.points) c.args.conversation c.in_err-get.ensures.lookup.3))

pub returns : goal.returns
returns c =
    let at = c.in_ok-get.ensures.lookup in
    ap held at.1 ∙ sym (held_nth (take c.args.self.now.count c.args.self.now.points) c.args.conversation c.in_ok-get.field-0.now at.3.0)
