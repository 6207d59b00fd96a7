-- What stands from a place of a list on: its words, its length, and the list from a later place.
use Rattle.std.proofs.Common.{◌≡◌, ℕ, zero, suc, ◌+◌, ◌-◌, ◌<◌, List, [], ◌∷◌, ◌++◌, length, get_or, take, drop, sym, refl, ap, ◌∙◌, add-zero, arith, length-drop, take-append-drop, get_or-drop, drop-cons, drop-drop}
use mathlib.Core.Option.{some}
use Rattle.model.specs.Program.{nth}

-- the word k after the place
pub word_at : {l : List ℕ} (s : List ℕ) (i k : ℕ) → drop i s ≡ l → get_or s (i + k) 0 ≡ get_or l k 0
word_at s i k e = sym (get_or-drop i s k 0) ∙ ap (λ (l : List ℕ). get_or l k 0) e

pub word_here : {l : List ℕ} (s : List ℕ) (i : ℕ) → drop i s ≡ l → get_or s i 0 ≡ get_or l 0 0
word_here s i e = ap (λ k. get_or s k 0) (sym (add-zero i)) ∙ word_at s i 0 e

-- how many words are left
pub words_left : {l : List ℕ} (s : List ℕ) (i : ℕ) → drop i s ≡ l → length s - i ≡ length l
words_left s i e = sym (length-drop i s) ∙ ap length e

-- the list from k places on
pub rest_at : {l : List ℕ} (s : List ℕ) (i k : ℕ) → drop i s ≡ l → drop (i + k) s ≡ drop k l
rest_at s i k e = sym (drop-drop k i s) ∙ ap (λ (l : List ℕ). drop k l) e

-- one, two and three words taken off
pub drop_one : (s : List ℕ) (i : ℕ) → i < length s → drop i s ≡ get_or s i 0 ∷ drop (i + 1) s
drop_one s i h = let e : i + 1 ≡ suc i = omega arith in rw e (drop-cons s i 0 h)

pub drop_two : (s : List ℕ) (i : ℕ) → i + 1 < length s → drop i s ≡ get_or s i 0 ∷ get_or s (i + 1) 0 ∷ drop (i + 2) s
drop_two s i h =
    let h0 : i < length s = omega arith in
    let e : i + 2 ≡ i + 1 + 1 = omega arith in
    drop_one s i h0 ∙ ap (λ l. get_or s i 0 ∷ l) (rw e (drop_one s (i + 1) h))

pub drop_three : (s : List ℕ) (i : ℕ) → i + 2 < length s → drop i s ≡ get_or s i 0 ∷ get_or s (i + 1) 0 ∷ get_or s (i + 2) 0 ∷ drop (i + 3) s
drop_three s i h =
    let h0 : i + 1 < length s = omega arith in
    let e : i + 3 ≡ i + 2 + 1 = omega arith in
    drop_two s i h0 ∙ ap (λ l. get_or s i 0 ∷ get_or s (i + 1) 0 ∷ l) (rw e (drop_one s (i + 2) h))

-- a list of n words, and what follows it
pub drop_list : (s : List ℕ) (i n : ℕ) → drop i s ≡ take n (drop i s) ++ drop (i + n) s
drop_list s i n = sym (take-append-drop n (drop i s)) ∙ ap (λ (l : List ℕ). take n (drop i s) ++ l) (drop-drop n i s)

-- the element at a place, as an option and with a default
pub get_or_nth : (xs : List ℕ) (i d : ℕ) {x : ℕ} → nth xs i ≡ some x → get_or xs i d ≡ x
get_or_nth [] i d h = let z : ◌≡◌ {A = ℕ} 0 1 = cc in absurd (omega arith)
get_or_nth (x ∷ xs) zero d h = cc
get_or_nth (x ∷ xs) (suc i) d h = get_or_nth xs i d h

pub nth_get_d : (xs : List ℕ) (i d : ℕ) → i < length xs → nth xs i ≡ some (get_or xs i d)
nth_get_d [] i d h = absurd (omega arith)
nth_get_d (x ∷ xs) zero d h = refl
nth_get_d (x ∷ xs) (suc i) d h = nth_get_d xs i d (omega arith)
