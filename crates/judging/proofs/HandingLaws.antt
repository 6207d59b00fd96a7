-- Handing on conversations, and going through those that are left.
use Rattle.std.proofs.Common.{◌≡◌, ℕ, suc, Bool, true, false, cond, ◌&&◌, List, [], ◌∷◌, map, length, Some, None, Option, sym, refl, ap, ◌∙◌, arith}
use mathlib.Core.Option.{some, none}
use Rattle.std.specs.List.{list_all}
use Rattle.judging.specs.Judging.{over_one}
use Rattle.judging.specs.Standing.{held}
use Rattle.model.specs.Program.{nth, or, put, Program}
use Rattle.model.specs.Keeps.{At, then, is, is_over, hands, all_over}
use Rattle.model.proofs.Lists.{length_put}

-- handing on lists of different lengths is refused, and handing on keeps the number of conversations
pub hands_uneven : (a : At) (cs ts : List ℕ) → (length cs ≡ length ts → ⊥) → hands a cs ts ≡ none
hands_uneven a [] [] ne = absurd (ne refl)
hands_uneven a [] (t ∷ ts) ne = refl
hands_uneven a (c ∷ cs) [] ne = refl
hands_uneven a (c ∷ cs) (t ∷ ts) ne = go (is (or none (nth a c)) t) (hands_uneven (put a c none) cs ts (λ e. ne (ap suc e)))
  where
    go : (b : Bool) → hands (put a c none) cs ts ≡ none → cond b (hands (put a c none) cs ts) none ≡ none
    go true ih = ih
    go false ih = refl

pub hands_length : (a : At) (cs ts : List ℕ) (b : At) → hands a cs ts ≡ some b → length b ≡ length a
hands_length a [] [] b h = let e : a ≡ b = cc in ap length (sym e)
hands_length a [] (t ∷ ts) b h = let z : ◌≡◌ {A = ℕ} 0 1 = cc in absurd (omega arith)
hands_length a (c ∷ cs) [] b h = let z : ◌≡◌ {A = ℕ} 0 1 = cc in absurd (omega arith)
hands_length a (c ∷ cs) (t ∷ ts) b h = go (is (or none (nth a c)) t) h (hands_length (put a c none) cs ts b)
  where
    go : (q : Bool) → cond q (hands (put a c none) cs ts) none ≡ some b → (hands (put a c none) cs ts ≡ some b → length b ≡ length (put a c none)) → length b ≡ length a
    go true h ih = ih h ∙ length_put a c none
    go false h ih = let z : ◌≡◌ {A = ℕ} 0 1 = cc in absurd (omega arith)

-- all are over if each is
pub all_over_each : (g : Program) (xs : List (Option ℕ)) → list_all (λ x. over_one g (held x)) xs ≡ all_over g (map held xs)
all_over_each g [] = refl
all_over_each g (None ∷ xs) = all_over_each g xs
all_over_each g (Some t ∷ xs) = ap (λ b. then (nth g.points t) is_over && b) (all_over_each g xs)
