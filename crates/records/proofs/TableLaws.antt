-- Laws of tables: their length and elements, tables that agree, one element changed, one more at the end.
use Rattle.std.proofs.Common.{◌≡◌, ℕ, zero, suc, ◌+◌, ◌<◌, ◌≤◌, List, [], ◌∷◌, ◌++◌, length, get_or, take, drop, map, sym, refl, ap, ◌∙◌, add-zero, drop-cons, arith}
use mathlib.Core.Option.{some, none}
use Rattle.model.specs.Program.{nth, put}
use Rattle.records.specs.Tables.{table}

pub length_table : {A : Type 0} (f : ℕ → A) (b n : ℕ) → length (table f b n) ≡ n
length_table f b zero = refl
length_table f b (suc n) = ap suc (length_table f (suc b) n)

pub nth_table : {A : Type 0} (f : ℕ → A) (b n k : ℕ) → k < n → nth (table f b n) k ≡ some (f (b + k))
nth_table f b zero k h = absurd (omega arith)
nth_table f b (suc n) zero h = ap (λ j. some (f j)) (sym (add-zero b))
nth_table f b (suc n) (suc k) h =
    let h' : k < n = omega arith in
    let e : suc b + k ≡ b + suc k = omega arith in
    nth_table f (suc b) n k h' ∙ ap (λ j. some (f j)) e

pub nth_table_past : {A : Type 0} (f : ℕ → A) (b n k : ℕ) → n ≤ k → nth (table f b n) k ≡ none
nth_table_past f b zero k h = refl
nth_table_past f b (suc n) zero h = absurd (omega arith)
nth_table_past f b (suc n) (suc k) h = nth_table_past f (suc b) n k (omega arith)

pub table_same : {A : Type 0} (f g : ℕ → A) (b n : ℕ) → ((k : ℕ) → b ≤ k → k < b + n → g k ≡ f k) → table g b n ≡ table f b n
table_same f g b zero h = refl
table_same f g b (suc n) h =
    let e = h b (omega arith) (omega arith) in
    let t = table_same f g (suc b) n (λ k p q. h k (omega arith) (omega arith)) in
    cc

-- the function differs at place b + x only
pub table_put : {A : Type 0} (f g : ℕ → A) (b n x : ℕ) (v : A) → ((k : ℕ) → b ≤ k → k < b + n → (k ≡ b + x → ⊥) → g k ≡ f k) → (x < n → g (b + x) ≡ v) → table g b n ≡ put (table f b n) x v
table_put f g b zero x v h e = refl
table_put f g b (suc n) zero v h e =
    let e0 = e (omega arith) in
    let z = add-zero b in
    let t = table_same f g (suc b) n (λ k p q. h k (omega arith) (omega arith) (λ r. omega arith)) in
    cc
table_put f g b (suc n) (suc x) v h e =
    let e0 = h b (omega arith) (omega arith) (λ r. omega arith) in
    let z : suc b + x ≡ b + suc x = omega arith in
    let t = table_put f g (suc b) n x v (λ k p q r. h k (omega arith) (omega arith) (λ y. r (omega arith))) (λ y. ap g z ∙ e (omega arith)) in
    cc

pub table_snoc : {A : Type 0} (f : ℕ → A) (b n : ℕ) → table f b (suc n) ≡ table f b n ++ (f (b + n) ∷ [])
table_snoc f b zero = ap (λ j. f j ∷ []) (sym (add-zero b))
table_snoc f b (suc n) =
    let e : suc b + n ≡ b + suc n = omega arith in
    let t = table_snoc f (suc b) n in
    cc

-- a part of a list is a table of its elements
pub take_table : {A : Type 0} (s : List A) (d : A) (b p n : ℕ) → b + p + n ≤ length s → take n (drop (b + p) s) ≡ table (λ k. get_or s (b + k) d) p n
take_table s d b p zero h = refl
take_table s d b p (suc n) h =
    let e : drop (b + p) s ≡ get_or s (b + p) d ∷ drop (suc (b + p)) s = drop-cons s (b + p) d (omega arith) in
    let z : suc (b + p) ≡ b + suc p = omega arith in
    let t = take_table s d b (suc p) n (omega arith) in
    ap (take (suc n)) e ∙ ap (λ l. get_or s (b + p) d ∷ l) (ap (λ k. take n (drop k s)) z ∙ t)

pub map_table : {A B : Type 0} (g : A → B) (f : ℕ → A) (b n : ℕ) → map g (table f b n) ≡ table (λ k. g (f k)) b n
map_table g f b zero = refl
map_table g f b (suc n) = ap (λ l. g (f b) ∷ l) (map_table g f (suc b) n)
