use Rattle.std.proofs.Common.{◌≡◌, ℕ, suc, ◌<◌}
use mathlib.Core.Option.{some}
use Rattle.exploring.specs.Circles.{hops}
use Rattle.exploring.proofs.circles.comes_back.Given as goal

-- so many hops lead here, and none of them came back
abbrev pub invariant-loop : goal.invariant-loop
invariant-loop l = (hops l.left l.index l.i ≡ some l.at) × ((m : ℕ) → m < l.index → hops l.left (suc m) l.i ≡ some l.i → ⊥)
