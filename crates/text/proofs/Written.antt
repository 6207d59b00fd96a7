-- What a text's rows and marks are, from what was written.
use Rattle.std.proofs.Common.{◌≡◌, ℕ, List, [], ◌++◌, length, vec_items, ap, ◌∙◌, subst}
use Rattle.model.specs.Rows.{row_g}
use Rattle.syntax.specs.Marks.{WroteProgram, begins_g}
use Rattle.syntax.specs.Meaning.{processes_of, program_of}
use Rattle.syntax.specs.Mirror.{Fitting}
use Rattle.syntax.specs.declared.sides.Sides.{Sides}
use Rattle.syntax.specs.declared.tree.Point.{Point}
use Rattle.syntax.specs.declared.tree.Process.{Process}
use Rattle.text.specs.RowsOf.{IndexedOf, RowsOf}

pub indexed : (s : Sides) (ps : List Point) (js : List ℕ) (rs : List Process) (o o' m m' : List ℕ) → Fitting s → ps ≡ vec_items s.points → js ≡ vec_items s.other → o ≡ [] → m ≡ [] → WroteProgram o o' m m' (program_of ps js rs) → IndexedOf o' m'
indexed s ps js rs o o' m m' f x y a b w =
    let g = program_of (vec_items s.points) (vec_items s.other) rs in
    let v : WroteProgram o o' m m' g = subst (λ z. WroteProgram o o' m m' (program_of (vec_items s.points) z rs)) y (subst (λ z. WroteProgram o o' m m' (program_of z js rs)) x w) in
    record { program = g; rows = v.rows ∙ ap (λ z. z ++ row_g g) a; fit = f (processes_of rs); marks = v.marks ∙ (ap (λ z. z ++ begins_g (length o) g) b ∙ ap (λ z. begins_g (length z) g) a) }

pub rows_of : (o m : List ℕ) → IndexedOf o m → RowsOf o
rows_of o m i = record { program = i.program; rows = i.rows; fit = i.fit }
