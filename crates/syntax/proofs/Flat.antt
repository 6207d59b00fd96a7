-- The writings of the elements of a list, one after the other.
use Rattle.std.proofs.Common.{◌≡◌, ℕ, suc, ◌+◌, ◌<◌, ◌≤◌, List, [], ◌∷◌, ◌++◌, length, get_or, take, sym, refl, ap, ◌∙◌, append_assoc, append-nil}
use Rattle.model.specs.Rows.{row_e, row_es, row_g, row_p, row_ps, row_rs}
use Rattle.std.proofs.lemmas.List.{take_more, take_all}
use Rattle.syntax.proofs.Added.{append_after, append_after_three}
use Rattle.syntax.specs.Meaning.{expression_of, expressions_of, point_of, points_of, processes_of, program_of}
use Rattle.syntax.specs.declared.tree.Expression.{Expression}
use Rattle.syntax.specs.declared.tree.Point.{Point}
use Rattle.syntax.specs.declared.tree.Process.{Process}

abbrev pub flat : {X : Type 0} → (X → List ℕ) → List X → List ℕ
flat f [] = []
flat f (x ∷ xs) = f x ++ flat f xs

pub flat_snoc : {X : Type 0} (f : X → List ℕ) (xs : List X) (x : X) → flat f (xs ++ (x ∷ [])) ≡ flat f xs ++ f x
flat_snoc f [] x = append-nil (f x)
flat_snoc f (y ∷ xs) x = ap (λ r. f y ++ r) (flat_snoc f xs x) ∙ sym (append_assoc (f y) (flat f xs) (f x))

-- a loop's step: what was written of the first i elements, and then of the next
pub flat_more : {X : Type 0} (f : X → List ℕ) (xs : List X) (i : ℕ) (x d : X) (a b c : List ℕ) → i < length xs → x ≡ get_or xs i d → b ≡ a ++ flat f (take i xs) → c ≡ b ++ f x → c ≡ a ++ flat f (take (i + 1) xs)
flat_more f xs i x d a b c l is before after =
    let step : flat f (take (i + 1) xs) ≡ flat f (take i xs) ++ f x = ap (flat f) (take_more xs i d l) ∙ (flat_snoc f (take i xs) (get_or xs i d) ∙ ap (λ y. flat f (take i xs) ++ f y) (sym is)) in
    rw step (append_after a b c (flat f (take i xs)) (f x) before after)

-- a loop's end
pub flat_all : {X : Type 0} (f : X → List ℕ) (xs : List X) (i : ℕ) (a b : List ℕ) → length xs ≤ i → b ≡ a ++ flat f (take i xs) → b ≡ a ++ flat f xs
flat_all f xs i a b l e = e ∙ ap (λ ys. a ++ flat f ys) (take_all i xs l)

abbrev pub expression_words : Expression → List ℕ
expression_words e = row_e (expression_of e)

abbrev pub point_words : Point → List ℕ
point_words p = row_p (point_of p)

pub flat_expressions : (es : List Expression) → flat expression_words es ≡ row_es (expressions_of es)
flat_expressions [] = refl
flat_expressions (e ∷ es) = ap (λ r. row_e (expression_of e) ++ r) (flat_expressions es)

pub flat_points : (ps : List Point) → flat point_words ps ≡ row_ps (points_of ps)
flat_points [] = refl
flat_points (p ∷ ps) = ap (λ r. row_p (point_of p) ++ r) (flat_points ps)

-- as many points mean as many
pub length_points : (ps : List Point) → length (points_of ps) ≡ length ps
length_points [] = refl
length_points (p ∷ ps) = ap suc (length_points ps)

pub program_row : (ps : List Point) (js : List ℕ) (rs : List Process) (o o1 o2 o3 o4 : List ℕ) → o1 ≡ o ++ (length ps ∷ []) → o2 ≡ o1 ++ row_ps (points_of ps) → o3 ≡ o2 ++ js → o4 ≡ o3 ++ row_rs (processes_of rs) → o4 ≡ o ++ row_g (program_of ps js rs)
program_row ps js rs o o1 o2 o3 o4 p q r s =
    rw length_points (append_after_three o o1 o2 o3 o4 (length ps ∷ []) (row_ps (points_of ps)) js (row_rs (processes_of rs)) p q r s)
