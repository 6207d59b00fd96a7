-- Queues in which nobody stands twice: one taken out, one put at the end, and how long they are at most.
use Rattle.std.proofs.Common.{◌≡◌, ℕ, zero, suc, ◌<◌, ◌≤◌, ◌⊎◌, List, [], ◌∷◌, ◌++◌, length, sym, refl, ap, ◌∙◌, subst, inl, inr, arith}
use mathlib.Core.Option.{Option, some, none}
use Rattle.model.specs.Program.{nth}
use Rattle.queues.specs.Rings.{taken}
use Rattle.turns.specs.Scheduling.{In}
use Rattle.model.proofs.Lists.{same?, nth_below, length_put, nth_put_same, nth_put_other, nth_put_split, nth_append_left, nth_snoc_last, nth_snoc_split}
use Rattle.engine.specs.Running.{Once}

some_inj : {A : Type 0} {x y : A} {o : Option A} → o ≡ some x → o ≡ some y → x ≡ y
some_inj e f = cc

none_some : {A : Type 0} {x : A} → none ≡ some x → ⊥
none_some e = let z : ◌≡◌ {A = ℕ} 0 1 = cc in omega arith

pub taken_in : (q : List ℕ) (n j : ℕ) → In (taken q n) j → In q j
taken_in [] n j p = p
taken_in (x ∷ xs) zero j (k, e) = (suc k, e)
taken_in (x ∷ xs) (suc n) j (k, e) = elim (nth_put_split xs n k x e) [
  | inl t ↦ (0, ap some (sym t.1))
  | inr t ↦ (suc k, t.1)
]

pub taken_or : (q : List ℕ) (n i j : ℕ) → nth q n ≡ some i → In q j → (j ≡ i) ⊎ In (taken q n) j
taken_or [] n i j h p = absurd (none_some h)
taken_or (x ∷ xs) zero i j h (zero, e) = inl (some_inj e h)
taken_or (x ∷ xs) zero i j h (suc k, e) = inr (k, e)
taken_or (x ∷ xs) (suc n) i j h (zero, e) = inr (n, nth_put_same xs n x h ∙ e)
taken_or (x ∷ xs) (suc n) i j h (suc k, e) = elim (same? n k) [
  | inl z ↦ inl (some_inj e (ap (nth xs) (sym z) ∙ h))
  | inr ne ↦ inr (k, nth_put_other xs n k x ne ∙ e)
]

pub taken_not : (q : List ℕ) (n i : ℕ) → Once q → nth q n ≡ some i → In (taken q n) i → ⊥
taken_not [] n i o h p = none_some h
taken_not (x ∷ xs) zero i o h (k, e) = let z = o 0 (suc k) i h e in omega arith
taken_not (x ∷ xs) (suc n) i o h (k, e) = elim (nth_put_split xs n k x e) [
  | inl t ↦ (let z = o 0 (suc n) i (ap some (sym t.1)) h in omega arith)
  | inr t ↦ (let z = o (suc n) (suc k) i h t.1 in t.0 (omega arith))
]

pub taken_once : (q : List ℕ) (n : ℕ) → Once q → Once (taken q n)
taken_once [] n o k l i e f = o k l i e f
taken_once (x ∷ xs) zero o k l i e f = let z = o (suc k) (suc l) i e f in omega arith
taken_once (x ∷ xs) (suc n) o k l i e f = elim (nth_put_split xs n k x e) [
  | inl t ↦ elim (nth_put_split xs n l x f) [
    | inl u ↦ sym t.0 ∙ u.0
    | inr u ↦ (let z = o 0 (suc l) i (ap some (sym t.1)) u.1 in absurd (omega arith))
  ]
  | inr t ↦ elim (nth_put_split xs n l x f) [
    | inl u ↦ (let z = o 0 (suc k) i (ap some (sym u.1)) t.1 in absurd (omega arith))
    | inr u ↦ (let z = o (suc k) (suc l) i t.1 u.1 in omega arith)
  ]
]

pub taken_length : (q : List ℕ) (n : ℕ) → n < length q → suc (length (taken q n)) ≡ length q
taken_length [] n h = absurd (omega arith)
taken_length (x ∷ xs) zero h = refl
taken_length (x ∷ xs) (suc n) h = ap suc (length_put xs n x)

pub snoc_in : (q : List ℕ) (i j : ℕ) → In (i ∷ q) j → In (q ++ (i ∷ [])) j
snoc_in q i j (zero, e) = (length q, nth_snoc_last q i ∙ e)
snoc_in q i j (suc k, e) = (k, nth_append_left q (i ∷ []) k e)

pub snoc_out : (q : List ℕ) (i j : ℕ) → In (q ++ (i ∷ [])) j → In (i ∷ q) j
snoc_out q i j (k, e) = elim (nth_snoc_split q i k e) [
  | inl t ↦ (suc k, t)
  | inr t ↦ (0, ap some (sym t.1))
]

pub snoc_once : (q : List ℕ) (i : ℕ) → Once q → (In q i → ⊥) → Once (q ++ (i ∷ []))
snoc_once q i o out k l j e f = elim (nth_snoc_split q i k e) [
  | inl t ↦ elim (nth_snoc_split q i l f) [
    | inl u ↦ o k l j t u
    | inr u ↦ absurd (out (k, t ∙ ap some u.1))
  ]
  | inr t ↦ elim (nth_snoc_split q i l f) [
    | inl u ↦ absurd (out (l, u ∙ ap some t.1))
    | inr u ↦ t.0 ∙ sym u.0
  ]
]

-- one of the numbers below n stands in the queue, or it does not
member? : (q : List ℕ) (i : ℕ) → In q i ⊎ (In q i → ⊥)
member? [] i = inr (λ p. none_some p.1)
member? (x ∷ xs) i = elim (same? x i) [
  | inl z ↦ inl (0, ap some z)
  | inr ne ↦ elim (member? xs i) [
    | inl p ↦ inl (suc p.0, p.1)
    | inr out ↦ inr (λ p. go p ne out)
  ]
]
  where
    go : In (x ∷ xs) i → (x ≡ i → ⊥) → (In xs i → ⊥) → ⊥
    go (zero, e) ne out = ne (cc)
    go (suc k, e) ne out = out (k, e)

-- a queue of different numbers below n has at most n
pub once_length : (n : ℕ) (q : List ℕ) → Once q → ((i : ℕ) → In q i → i < n) → length q ≤ n
once_length zero [] o b = omega arith
once_length zero (x ∷ xs) o b = let z = b x (0, refl) in absurd (omega arith)
once_length (suc n) q o b = elim (member? q n) [
  | inr out ↦ (let z = once_length n q o (λ i p. low i (b i p) (λ e. out (subst (In q) e p))) in omega arith)
  | inl p ↦ (let z = once_length n (taken q p.0) (taken_once q p.0 o) (λ i r. low i (b i (taken_in q p.0 i r)) (λ e. taken_not q p.0 n o p.1 (subst (In (taken q p.0)) e r))) in
      let l = taken_length q p.0 (nth_below q p.0 p.1) in omega arith)
]
  where
    low : (i : ℕ) → i < suc n → (i ≡ n → ⊥) → i < n
    low i h ne = omega arith
