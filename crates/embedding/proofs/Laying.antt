-- Words laid one behind the other, and the words of rows.
use Rattle.std.proofs.Common.{◌≡◌, ℕ, zero, suc, ◌<◌, ◌≤◌, List, [], ◌∷◌, ◌++◌, length, get_or, take, refl, ap, ◌∙◌, subst, append_assoc, arith}
use Rattle.engine.specs.Shown.{overlay, counted}
use Rattle.exploring.specs.declared.answers.Left.{Left}
use Rattle.embedding.specs.Rows.{row_words, rows_words, Laid}

pub laid_then : (s s' s'' : List ℕ) (a b c : ℕ) (ws vs : List ℕ) → Laid s s' a b ws → Laid s' s'' b c vs → Laid s s'' a c (ws ++ vs)
laid_then s s' s'' a b c ws vs f g ns old e t =
    let x = f ns old e t in
    let y = g (ns ++ ws) old x.0 x.1 in
    (y.0 ∙ ap (λ l. overlay l old) (append_assoc ns ws vs), y.1 ∙ ap counted (append_assoc ns ws vs))

pub laid_as : (s s' : List ℕ) (a b v w : ℕ) → v ≡ w → Laid s s' a b (v ∷ []) → Laid s s' a b (w ∷ [])
laid_as s s' a b v w e f = subst (λ (x : ℕ). Laid s s' a b (x ∷ [])) e f

pub rows_more : (rows : List Left) (k : ℕ) (d : Left) → k < length rows → rows_words (take k rows) ++ row_words (get_or rows k d) ≡ rows_words (take (suc k) rows)
rows_more [] k d h = absurd (omega arith)
rows_more (r ∷ rows) zero d h = refl
rows_more (r ∷ rows) (suc k) d h = append_assoc (row_words r) (rows_words (take k rows)) (row_words (get_or rows k d)) ∙ ap (λ l. row_words r ++ l) (rows_more rows k d (omega arith))

pub take_all : (rows : List Left) (k : ℕ) → length rows ≤ k → take k rows ≡ rows
take_all [] zero h = refl
take_all [] (suc k) h = refl
take_all (r ∷ rows) zero h = absurd (omega arith)
take_all (r ∷ rows) (suc k) h = ap (λ l. r ∷ l) (take_all rows k (omega arith))
