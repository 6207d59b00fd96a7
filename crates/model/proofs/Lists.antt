-- Facts on lists: the element at a place, another put there, one list behind another.
use mathlib.Core.Path.{◌≡◌, refl, sym, ap, ◌∙◌}
use mathlib.Core.Logic.{◌⊎◌, inl, inr}
use mathlib.Core.List.{List, [], ◌∷◌, ◌++◌, map}
use mathlib.Core.Option.{Option, some, none}
use Prim.Native.Nat.{ℕ, zero, suc, ◌+◌, ◌≤◌, ◌<◌}
use native.Mathlib.Omega.{arith}
use lib.ListN.{length}
use Rattle.model.specs.Program.{nth, put}

-- what is at a place, with the proof that it is: for a case split that keeps the equation
pub look : {A : Type 0} (xs : List A) (i : ℕ) → (nth xs i ≡ none) ⊎ ((x : A) × (nth xs i ≡ some x))
look xs i = go (nth xs i) refl
  where
    go : (o : Option _) → nth xs i ≡ o → (nth xs i ≡ none) ⊎ ((x : _) × (nth xs i ≡ some x))
    go none e = inl e
    go (some x) e = inr (x, e)

pub nth_below : {A : Type 0} (xs : List A) (i : ℕ) {x : A} → nth xs i ≡ some x → i < length xs
nth_below [] i h = grind arith
nth_below (y ∷ xs) zero h = omega arith
nth_below (y ∷ xs) (suc i) h = let ih = nth_below xs i h in omega arith

pub nth_there : {A : Type 0} (xs : List A) (i : ℕ) → i < length xs → (x : A) × (nth xs i ≡ some x)
nth_there [] i h = absurd (omega arith)
nth_there (y ∷ xs) zero h = (y, refl)
nth_there (y ∷ xs) (suc i) h = nth_there xs i (omega arith)

pub length_put : {A : Type 0} (xs : List A) (i : ℕ) (v : A) → length (put xs i v) ≡ length xs
length_put [] i v = refl
length_put (x ∷ xs) zero v = refl
length_put (x ∷ xs) (suc i) v = ap suc (length_put xs i v)

pub nth_put_same : {A : Type 0} (xs : List A) (i : ℕ) (v : A) {x : A} → nth xs i ≡ some x → nth (put xs i v) i ≡ some v
nth_put_same [] i v h = grind arith
nth_put_same (y ∷ xs) zero v h = refl
nth_put_same (y ∷ xs) (suc i) v h = nth_put_same xs i v h

pub nth_put_other : {A : Type 0} (xs : List A) (i j : ℕ) (v : A) → (i ≡ j → ⊥) → nth (put xs i v) j ≡ nth xs j
nth_put_other [] i j v d = refl
nth_put_other (x ∷ xs) zero zero v d = absurd (d refl)
nth_put_other (x ∷ xs) zero (suc j) v d = refl
nth_put_other (x ∷ xs) (suc i) zero v d = refl
nth_put_other (x ∷ xs) (suc i) (suc j) v d = nth_put_other xs i j v (λ e. d (ap suc e))

-- equal or different
pub same? : (i j : ℕ) → (i ≡ j) ⊎ (i ≡ j → ⊥)
same? zero zero = inl refl
same? zero (suc j) = inr (λ e. omega arith)
same? (suc i) zero = inr (λ e. omega arith)
same? (suc i) (suc j) = go (same? i j)
  where
    go : (i ≡ j) ⊎ (i ≡ j → ⊥) → (suc i ≡ suc j) ⊎ (suc i ≡ suc j → ⊥)
    go (inl e) = inl (ap suc e)
    go (inr d) = inr (λ e. d (omega arith))

-- less or not
pub below? : (i j : ℕ) → (i < j) ⊎ (j ≤ i)
below? i zero = inr (omega arith)
below? zero (suc j) = inl (omega arith)
below? (suc i) (suc j) = go (below? i j)
  where
    go : (i < j) ⊎ (j ≤ i) → (suc i < suc j) ⊎ (suc j ≤ suc i)
    go (inl h) = inl (omega arith)
    go (inr h) = inr (omega arith)

pub nth_put_split : {A : Type 0} (xs : List A) (i j : ℕ) (v : A) {x : A} → nth (put xs i v) j ≡ some x → ((i ≡ j) × (x ≡ v)) ⊎ ((i ≡ j → ⊥) × (nth xs j ≡ some x))
nth_put_split xs i j v {x} h = go (same? i j)
  where
    here : {A : Type 0} (ys : List A) (k : ℕ) (u y : A) → nth (put ys k u) k ≡ some y → y ≡ u
    here [] k u y e = grind arith
    here (z ∷ ys) zero u y e = cc
    here (z ∷ ys) (suc k) u y e = here ys k u y e

    go : (i ≡ j) ⊎ (i ≡ j → ⊥) → ((i ≡ j) × (x ≡ v)) ⊎ ((i ≡ j → ⊥) × (nth xs j ≡ some x))
    go (inl e) = inl (e, here xs i v x (rw (← e) at h))
    go (inr d) = inr (d, sym (nth_put_other xs i j v d) ∙ h)

pub put_put_other : {A : Type 0} (xs : List A) (i j : ℕ) (v u : A) → (i ≡ j → ⊥) → put (put xs i v) j u ≡ put (put xs j u) i v
put_put_other [] i j v u d = refl
put_put_other (x ∷ xs) zero zero v u d = absurd (d refl)
put_put_other (x ∷ xs) zero (suc j) v u d = refl
put_put_other (x ∷ xs) (suc i) zero v u d = refl
put_put_other (x ∷ xs) (suc i) (suc j) v u d = ap (λ ys. x ∷ ys) (put_put_other xs i j v u (λ e. d (ap suc e)))

pub put_append : {A : Type 0} (xs ys : List A) (i : ℕ) (v : A) → i < length xs → put (xs ++ ys) i v ≡ put xs i v ++ ys
put_append [] ys i v h = absurd (omega arith)
put_append (x ∷ xs) ys zero v h = refl
put_append (x ∷ xs) ys (suc i) v h = ap (λ zs. x ∷ zs) (put_append xs ys i v (omega arith))

pub nth_append_left : {A : Type 0} (xs ys : List A) (i : ℕ) {x : A} → nth xs i ≡ some x → nth (xs ++ ys) i ≡ some x
nth_append_left [] ys i h = grind arith
nth_append_left (y ∷ xs) ys zero h = h
nth_append_left (y ∷ xs) ys (suc i) h = nth_append_left xs ys i h

pub nth_append_right : {A : Type 0} (xs ys : List A) (i k : ℕ) → k ≡ length xs + i → nth (xs ++ ys) k ≡ nth ys i
nth_append_right [] ys i k e = ap (nth ys) (omega arith)
nth_append_right (x ∷ xs) ys i zero e = absurd (omega arith)
nth_append_right (x ∷ xs) ys i (suc k) e = nth_append_right xs ys i k (omega arith)

pub nth_append_split : {A : Type 0} (xs ys : List A) (k : ℕ) {x : A} → nth (xs ++ ys) k ≡ some x → (nth xs k ≡ some x) ⊎ ((i : ℕ) × (k ≡ length xs + i) × (nth ys i ≡ some x))
nth_append_split [] ys k h = inr (k, omega arith, h)
nth_append_split (y ∷ xs) ys zero h = inl h
nth_append_split (y ∷ xs) ys (suc k) {x} h = go (nth_append_split xs ys k h)
  where
    go : (nth xs k ≡ some x) ⊎ ((i : ℕ) × (k ≡ length xs + i) × (nth ys i ≡ some x)) → (nth xs k ≡ some x) ⊎ ((i : ℕ) × (suc k ≡ suc (length xs) + i) × (nth ys i ≡ some x))
    go (inl e) = inl e
    go (inr e) = let q = e.1 in inr (e.0, omega arith, e.2)

pub nth_snoc_last : {A : Type 0} (xs : List A) (v : A) → nth (xs ++ (v ∷ [])) (length xs) ≡ some v
nth_snoc_last [] v = refl
nth_snoc_last (x ∷ xs) v = nth_snoc_last xs v

pub nth_snoc_split : {A : Type 0} (xs : List A) (v : A) (k : ℕ) {x : A} → nth (xs ++ (v ∷ [])) k ≡ some x → (nth xs k ≡ some x) ⊎ ((k ≡ length xs) × (x ≡ v))
nth_snoc_split [] v zero h = inr (refl, grind arith)
nth_snoc_split [] v (suc k) h = grind arith
nth_snoc_split (y ∷ xs) v zero h = inl h
nth_snoc_split (y ∷ xs) v (suc k) {x} h = go (nth_snoc_split xs v k h)
  where
    go : (nth xs k ≡ some x) ⊎ ((k ≡ length xs) × (x ≡ v)) → (nth xs k ≡ some x) ⊎ ((suc k ≡ suc (length xs)) × (x ≡ v))
    go (inl e) = inl e
    go (inr e) = inr (ap suc e.0, e.1)

pub nth_map : {A B : Type 0} (f : A → B) (xs : List A) (i : ℕ) {x : A} → nth xs i ≡ some x → nth (map f xs) i ≡ some (f x)
nth_map f [] i h = grind arith
nth_map f (y ∷ xs) zero h = cc
nth_map f (y ∷ xs) (suc i) h = nth_map f xs i h

pub nth_map_back : {A B : Type 0} (f : A → B) (xs : List A) (i : ℕ) {y : B} → nth (map f xs) i ≡ some y → (x : A) × (nth xs i ≡ some x) × (y ≡ f x)
nth_map_back f [] i h = grind arith
nth_map_back f (x ∷ xs) zero h = (x, refl, cc)
nth_map_back f (x ∷ xs) (suc i) h = nth_map_back f xs i h

pub map_put : {A B : Type 0} (f : A → B) (xs : List A) (i : ℕ) (v : A) → map f (put xs i v) ≡ put (map f xs) i (f v)
map_put f [] i v = refl
map_put f (x ∷ xs) zero v = refl
map_put f (x ∷ xs) (suc i) v = ap (λ ys. f x ∷ ys) (map_put f xs i v)

-- maps that do the same at each element of a list
pub map_agree : {A B : Type 0} (f g : A → B) (xs : List A) → ((i : ℕ) (x : A) → nth xs i ≡ some x → f x ≡ g x) → map f xs ≡ map g xs
map_agree f g [] h = refl
map_agree f g (x ∷ xs) h = let a = h 0 x refl in let b = map_agree f g xs (λ i y e. h (suc i) y e) in cc

pub map_same : {A : Type 0} (f : A → A) (xs : List A) → ((i : ℕ) (x : A) → nth xs i ≡ some x → f x ≡ x) → map f xs ≡ xs
map_same f [] h = refl
map_same f (x ∷ xs) h = let a = h 0 x refl in let b = map_same f xs (λ i y e. h (suc i) y e) in cc
