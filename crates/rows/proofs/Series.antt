-- Writings one after the other, for any kind of thing whose writing is prefix-free.
use Rattle.std.proofs.Common.{◌≡◌, ℕ, ◌≤◌, List, [], ◌∷◌, ◌++◌, length, sym, refl, ap, ◌∙◌, append_assoc, arith}

module _ {A : Type 0} (row : A → List ℕ) (rows : List A → List ℕ) (nil : rows [] ≡ []) (cons : (a : A) (xs : List A) → rows (a ∷ xs) ≡ row a ++ rows xs) where
  -- one more at the end
  pub rows_snoc : (xs : List A) (a : A) (x : List ℕ) → rows (xs ++ (a ∷ [])) ++ x ≡ rows xs ++ (row a ++ x)
  rows_snoc [] a x =
      let e : rows (a ∷ []) ≡ row a ++ [] = cons a [] ∙ ap (λ y. row a ++ y) nil in
      let f : rows (a ∷ []) ++ x ≡ row a ++ x = ap (λ y. y ++ x) e ∙ append_assoc (row a) [] x in
      f ∙ ap (λ y. y ++ (row a ++ x)) (sym nil)
  rows_snoc (b ∷ xs) a x =
      let ih = rows_snoc xs a x in
      let e = cons b (xs ++ (a ∷ [])) in
      let f = cons b xs in
      ap (λ y. y ++ x) e ∙ (append_assoc (row b) (rows (xs ++ (a ∷ []))) x ∙ (ap (λ y. row b ++ y) ih ∙ (sym (append_assoc (row b) (rows xs) (row a ++ x)) ∙ ap (λ y. y ++ (row a ++ x)) (sym f))))

  -- what is written here begins with these; the rest follows
  pub record Rest (front xs : List A) (x y : List ℕ) : Type 0 where
    pub them : List A
    pub all : xs ≡ front ++ them
    pub here : x ≡ rows them ++ y

  module _ (prefix : (a b : A) (x y : List ℕ) → row a ++ x ≡ row b ++ y → (a ≡ b) × (x ≡ y)) where
    pub rows_front : (front xs : List A) (x y : List ℕ) → length front ≤ length xs → rows front ++ x ≡ rows xs ++ y → Rest front xs x y
    rows_front [] xs x y h e = record { them = xs; all = refl; here = ap (λ z. z ++ x) (sym nil) ∙ e }
    rows_front (a ∷ front) [] x y h e = absurd (omega arith)
    rows_front (a ∷ front) (b ∷ xs) x y h e =
        let e1 : row a ++ (rows front ++ x) ≡ row b ++ (rows xs ++ y) =
        sym (append_assoc (row a) (rows front) x) ∙ (ap (λ z. z ++ x) (sym (cons a front)) ∙ (e ∙ (ap (λ z. z ++ y) (cons b xs) ∙ append_assoc (row b) (rows xs) y))) in
        let p = prefix a b (rows front ++ x) (rows xs ++ y) e1 in
        let r = rows_front front xs x y (omega arith) p.1 in
        let q = p.0 in let s = r.all in
        record { them = r.them; all = cc; here = r.here }
