use Rattle.syntax.proofs.Sizes.{actions}
use Rattle.syntax.proofs.write.+write_action.Given as goal

abbrev pub decreases-write_action : goal.decreases-write_action
decreases-write_action l = actions l.a.now
