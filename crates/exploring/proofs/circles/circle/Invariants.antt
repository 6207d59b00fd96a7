use Rattle.std.proofs.Common.{◌≡◌, ℕ, ◌<◌}
use mathlib.Core.Option.{some}
use Rattle.model.specs.Program.{nth}
use Rattle.exploring.specs.declared.answers.Left.{Left}
use Rattle.exploring.specs.Circles.{ComesBackSoon}
use Rattle.exploring.proofs.circles.circle.Given as goal

-- one comes back to none of the processes that were looked at
abbrev pub invariant-loop-row : goal.invariant-loop-row
invariant-loop-row l = (j : ℕ) → j < l.row-index → (row : Left) → nth l.left j ≡ some row → ComesBackSoon l.left row.process → ⊥
