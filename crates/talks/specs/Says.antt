-- What the answers of the calls mean.
use Rattle.std.specs.Prelude.{◌≡◌, ℕ, true, false, List}
use Rattle.talks.specs.declared.answers.Judged.{Judged}
use Rattle.talks.specs.declared.answers.Judged.TheVariants.{Keeps, Careless, NoProgram}
use Rattle.model.specs.Program.{Program}
use Rattle.model.specs.Keeps.{kept}
use Rattle.model.specs.Rows.{Reads}

-- What judge says of words s: they are the writing of a program that keeps, of one that does not, or of none.
abbrev pub JudgedSays : List ℕ → Judged → Type 0
JudgedSays s Keeps = (g : Program) × Reads s g × (kept g ≡ true)
JudgedSays s Careless = (g : Program) × Reads s g × (kept g ≡ false)
JudgedSays s NoProgram = (g : Program) → Reads s g → ⊥

-- The answers exclude one another: none but this one is right.
abbrev pub Only : List ℕ → Judged → Type 0
Only s r = (q : Judged) → JudgedSays s q → q ≡ r
