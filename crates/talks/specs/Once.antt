-- What one run in lent words comes to.
use Rattle.std.specs.Prelude.{◌≡◌, ℕ, ◌<◌, ◌≤◌, Bool, true, false, List, length, Option, MatchOption}
use Rattle.rows.specs.declared.map.Map.{Map}
use Rattle.rows.specs.Mapped.{Known}
use Rattle.engine.specs.declared.whole.Rest.{Rest}
use Rattle.engine.specs.Shown.{overlay, counted}
use Rattle.model.specs.Program.{Program}
use Rattle.model.specs.Steps.{Configuration, Steps, begin}
use Rattle.model.specs.Keeps.{kept}
use Rattle.model.specs.Theorems.{Still, Out}

-- the words are a program that keeps, and this is its map
pub record Kept (s : List ℕ) (m : Map) : Type 0 where
  pub program : Program
  pub known : Known s m program
  pub keeps : kept program ≡ true

-- a run that came to its end: what was shown is laid over what was there before, as far as there is room
pub record Finished (g : Program) (most turns : ℕ) (old shown : List ℕ) (total : ℕ) (out : Bool) : Type 0 where
  pub end : Configuration
  pub steps : Steps g (begin g turns) end
  pub still : Still g end
  pub few : length end.workers ≤ most
  pub written : shown ≡ overlay end.shown old
  pub total_is : total ≡ counted end.shown
  pub spent_is : out ≡ true → Out end
  pub not_spent : out ≡ false → Out end → ⊥

-- some steps lead to more processes than so many
pub record TooMany (g : Program) (most turns : ℕ) : Type 0 where
  pub now : Configuration
  pub steps : Steps g (begin g turns) now
  pub many : most < length now.workers

-- what a run comes to: there are too many processes; or no step is possible any more, with so many numbers shown
abbrev pub OnceSays : List ℕ → Map → ℕ → ℕ → List ℕ → List ℕ → Option Rest → Type 0
OnceSays s m most turns old shown r = (g : Program) → Known s m g → kept g ≡ true → MatchOption r (TooMany g most turns) (λ x. Finished g most turns old shown x.total x.spent)
