use Rattle.model.proofs.NeverJams.{never_jams, waiting_ends, two_that_wait}
use Rattle.model.proofs.Pictured.{pictured}
use Rattle.model.proofs.no_order_jams.Goals as goal

pub returns : goal.returns
returns c = record { pictured = pictured; follows = waiting_ends; two = two_that_wait; progress = never_jams }
