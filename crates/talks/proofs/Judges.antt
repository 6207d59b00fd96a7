-- The answers of judge: from what the reader and the judge of processes say; and that they exclude one another.
use Rattle.std.proofs.Common.{◌≡◌, ℕ, Bool, true, false, List, sym, refl, ap, ◌∙◌, subst, arith}
use Rattle.talks.specs.declared.answers.Judged.{Judged}
use Rattle.talks.specs.declared.answers.Judged.TheVariants.{Keeps, Careless, NoProgram}
use Rattle.talks.specs.Once.{Kept}
use Rattle.talks.specs.Says.{JudgedSays}
use Rattle.rows.specs.declared.lookup.Rows.{Rows}
use Rattle.rows.specs.Mapped.{Known, Of}
use Rattle.rows.specs.Sections.{RowsOf}
use Rattle.model.specs.Program.{Program}
use Rattle.model.specs.Keeps.{kept}
use Rattle.model.specs.Rows.{Reads}
use Rattle.model.proofs.Writing.{one_program}

-- the rows that were read are the words of a program, which keeps or does not
module _ (s : List ℕ) (rows : Rows) (is : RowsOf s rows) where
  pub known_rows : Known rows.words.now rows.map.now is.program
  known_rows = subst (λ (x : List ℕ). Known x rows.map.now is.program) (sym is.words) is.known

  pub judged : (b : Bool) → Of rows (λ g. b ≡ kept g) → (g : Program) × Reads s g × (kept g ≡ b)
  judged b k = (is.program, is.known.reads, sym (k is.program known_rows))

  pub kept_known : Of rows (λ g. true ≡ kept g) → Kept rows.words.now rows.map.now
  kept_known k = record { program = is.program; known = known_rows; keeps = sym (k is.program known_rows) }

clash : (s : List ℕ) (g h : Program) → Reads s g → Reads s h → kept g ≡ true → kept h ≡ false → ⊥
clash s g h rg rh t f =
    let e = one_program s g h rg rh in
    let k : true ≡ false = sym t ∙ (ap kept e ∙ f) in
    let z : ◌≡◌ {A = ℕ} 0 1 = cc in
    omega arith

-- no two answers are right for one input
pub judged_only : (s : List ℕ) (r q : Judged) → JudgedSays s r → JudgedSays s q → q ≡ r
judged_only s Keeps Keeps a b = refl
judged_only s Keeps Careless a b = absurd (clash s a.0 b.0 a.1 b.1 a.2 b.2)
judged_only s Keeps NoProgram a b = absurd (b a.0 a.1)
judged_only s Careless Keeps a b = absurd (clash s b.0 a.0 b.1 a.1 b.2 a.2)
judged_only s Careless Careless a b = refl
judged_only s Careless NoProgram a b = absurd (b a.0 a.1)
judged_only s NoProgram Keeps a b = absurd (a b.0 b.1)
judged_only s NoProgram Careless a b = absurd (a b.0 b.1)
judged_only s NoProgram NoProgram a b = refl
