-- The rows of a table as words.
use Rattle.std.specs.Prelude.{◌≡◌, ℕ, ◌-◌, ◌^◌, min, List, [], ◌∷◌, ◌++◌, take, Some, None, Option}
use Rattle.model.specs.Program.{bit}
use Rattle.records.specs.declared.process.End.{End}
use Rattle.engine.specs.Shown.{overlay, counted}
use Rattle.exploring.specs.declared.answers.Left.{Left}
use Rattle.exploring.specs.Circles.{CircleIs}
use Rattle.exploring.specs.Exploring.{ExplorePost}
use Rattle.embedding.specs.Codes.{explored_of}

-- the word for what is not there
abbrev pub nothing : ℕ
nothing = 2 ^ 32 - 1

abbrev pub line_word : Option End → ℕ
line_word None = nothing
line_word (Some e) = e.line

abbrev pub side_word : Option End → ℕ
side_word None = nothing
side_word (Some e) = bit e.far

abbrev pub number_word : Option ℕ → ℕ
number_word None = nothing
number_word (Some n) = n

-- a row: the process, the place, the line, its side, and who holds the other end
abbrev pub row_words : Left → List ℕ
row_words row = row.process ∷ row.place ∷ line_word row.end ∷ side_word row.end ∷ number_word row.holder ∷ []

abbrev pub rows_words : List Left → List ℕ
rows_words [] = []
rows_words (row ∷ rows) = row_words row ++ rows_words rows

-- words laid behind those that were laid over a slice before, as far as there is room
abbrev pub Laid : List ℕ → List ℕ → ℕ → ℕ → List ℕ → Type 0
Laid s s' at at' ws = (ns old : List ℕ) → s ≡ overlay ns old → at ≡ counted ns → (s' ≡ overlay (ns ++ ws) old) × (at' ≡ counted (ns ++ ws))

-- What a run of any program promises: the answer is right for a table of 200 rows; the words of those that are told stand
-- first in `left`, as far as there is room, and the rest of it is as it was; and a process on a circle among them is named.
pub record ExploredWords (s : List ℕ) (most turns : ℕ) (shown shown' left left' : List ℕ) (words code k n circle : ℕ) : Type 0 where
  pub before : List Left
  pub table : List Left
  pub post : ExplorePost s most turns shown shown' before table words (explored_of code k n)
  pub told : left' ≡ overlay (rows_words (take (min n 200) table)) left
  pub on_circle : Option ℕ
  pub circle_is : circle ≡ number_word on_circle
  pub circles : CircleIs (take (min n 200) table) on_circle
