use Rattle.model.proofs.Decided.{has_end, confluent}
use Rattle.model.proofs.Orders.{either_order, same_end_ahead, same_end, same_steps, any_order, crowded_alike}
use Rattle.model.proofs.all_orders_agree.Goals as goal

pub returns : goal.returns
returns c = record {
  diamond = either_order;
  ahead = has_end;
  one = same_end_ahead;
  confluent = confluent;
  end = same_end;
  steps = same_steps;
  results = any_order;
  crowded = crowded_alike;
}
