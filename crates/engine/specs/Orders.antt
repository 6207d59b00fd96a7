-- Orders that are drawn.
use Rattle.std.specs.Prelude.{◌<◌}
use Rattle.engine.specs.declared.order.Order.{Order}
use Rattle.engine.specs.declared.order.Order.TheVariants.{Fixed, Drawn}

-- the order is drawn, and its generator does not stand still
abbrev pub Varied : Order → Type 0
Varied Fixed = ⊥
Varied (Drawn state) = 0 < state
