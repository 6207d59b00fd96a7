-- What is promised of the rows of a text.
use Rattle.std.specs.Prelude.{◌≡◌, ℕ, true, List, Some, None, Option}
use Rattle.model.specs.Keeps.{points_fit}
use Rattle.model.specs.Program.{Program}
use Rattle.model.specs.Rows.{row_g}
use Rattle.syntax.specs.Marks.{begins_g}
use Rattle.text.specs.declared.printed.Printed.{Printed}

-- these words are the writing of a program whose points fit
pub record RowsOf (words : List ℕ) : Type 0 where
  pub program : Program
  pub rows : words ≡ row_g program
  pub fit : points_fit program 0 program.points ≡ true

-- and the words at which the actions of that program begin, in the order of the rows, are these
pub record IndexedOf (words marked : List ℕ) : Type 0 where
  pub program : Program
  pub rows : words ≡ row_g program
  pub fit : points_fit program 0 program.points ≡ true
  pub marks : marked ≡ begins_g 0 program

-- a text that is the same once read again is that of a program whose points fit
abbrev pub PrintedSays : List ℕ → Option Printed → Type 0
PrintedSays rows None = Unit {0}
PrintedSays rows (Some p) = p.same ≡ true → RowsOf rows
