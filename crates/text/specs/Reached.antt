-- Where a text has come to after some bytes.
use Rattle.std.specs.Prelude.{ℕ, ◌+◌, Bool, cond, ◌||◌, List, [], ◌∷◌, ◌==◌, nat_le, nat_lt}
use Rattle.text.specs.declared.spot.Place.{Place}

-- how many lines, and in the last line how many characters, stand before
pub record Spot : Type 0 where
  pub line : ℕ
  pub column : ℕ

abbrev pub spot_of : Place → Spot
spot_of p = record { line = p.line; column = p.column }

-- A line feed begins a line; of a character's bytes, those from 128 to 191 go on with one that has begun, and only
-- its first counts.
abbrev pub begins : ℕ → Bool
begins b = nat_lt b 128 || nat_le 192 b

abbrev pub after : ℕ → Spot → Spot
after b s = cond (b == 10) (record { line = s.line + 1; column = 0 }) (cond (begins b) (record { line = s.line; column = s.column + 1 }) s)

abbrev pub spot_from : Spot → List ℕ → Spot
spot_from s [] = s
spot_from s (b ∷ bs) = spot_from (after b s) bs

-- the spot after these bytes of a text
abbrev pub spot : List ℕ → Spot
spot bs = spot_from (record { line = 0; column = 0 }) bs
