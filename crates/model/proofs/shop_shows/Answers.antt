use Rattle.model.proofs.Shop.{shop_shows}
use Rattle.model.proofs.shop_shows.Goals as goal

pub returns : goal.returns
returns c = shop_shows
