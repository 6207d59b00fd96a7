-- The conversations of a process, as the model has them.
use Rattle.std.specs.Prelude.{◌≡◌, ℕ, [], ◌∷◌, ◌++◌, map, length, take, Some, None, Option}
use Rattle.std.proofs.Math.Option.{Option as Maybe, some, none}
use Rattle.judging.specs.declared.conversations.Conversations.{Conversations}
use Rattle.model.specs.Keeps.{At}

-- an option of the code as one of the model
abbrev pub held : {A : Type 0} → Option A → Maybe A
held None = none
held (Some t) = some t

-- the points at which the conversations are
abbrev pub stand : Conversations → At
stand c = map held (take c.count c.points)

-- one more conversation, unless there were sixteen
abbrev pub Added : At → At → ℕ → Option (Unit {0}) → Type 0
Added a b t (Some _) = b ≡ a ++ (some t ∷ [])
Added a b t None = (length a ≡ 16) × (b ≡ a)
