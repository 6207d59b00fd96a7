use Rattle.model.proofs.Ends.{ends}
use Rattle.model.proofs.every_order_ends.Goals as goal

pub returns : goal.returns
returns c = ends
