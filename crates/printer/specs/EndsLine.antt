-- A printed text is whole lines.
use Rattle.std.specs.Prelude.{◌≡◌, ℕ, List, [], ◌∷◌, ◌++◌, Some, None, string_bytes, Option, String}
use Rattle.std.specs.declared.alloc.Global.{Global}

-- these bytes end with a line feed
abbrev pub Lines : List ℕ → Type 0
Lines bs = (front : List ℕ) × (bs ≡ front ++ (10 ∷ []))

-- a text, if there is one, does
abbrev pub EndsLine : Option (String Global) → Type 0
EndsLine None = Unit {0}
EndsLine (Some t) = Lines (string_bytes t)
