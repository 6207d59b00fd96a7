-- Functions changed at one place, and equality of ends, decided.
use mathlib.Core.Path.{◌≡◌, refl, ap}
use mathlib.Core.Logic.{◌⊎◌, inl, inr}
use Prim.Native.Nat.{ℕ}
use Rattle.model.specs.Steps.{Endpoint}
use Rattle.model.proofs.Lists.{same?}

-- one of two values, by a decision
abbrev pub by : {P A : Type 0} → P ⊎ (P → ⊥) → A → A → A
by (inl p) a b = a
by (inr n) a b = b

pub by_yes : {P A : Type 0} (d : P ⊎ (P → ⊥)) (a b : A) → P → by d a b ≡ a
by_yes (inl p) a b h = refl
by_yes (inr n) a b h = absurd (n h)

pub by_no : {P A : Type 0} (d : P ⊎ (P → ⊥)) (a b : A) → (P → ⊥) → by d a b ≡ b
by_no (inl p) a b h = absurd (h p)
by_no (inr n) a b h = refl

-- a function of numbers with another value at one place
abbrev pub patch : {A : Type 0} → (ℕ → A) → ℕ → A → ℕ → A
patch f k v j = by (same? j k) v (f j)

pub patch_same : {A : Type 0} (f : ℕ → A) (k : ℕ) (v : A) → patch f k v k ≡ v
patch_same f k v = by_yes (same? k k) v (f k) refl

pub patch_other : {A : Type 0} (f : ℕ → A) (k : ℕ) (v : A) (j : ℕ) → (j ≡ k → ⊥) → patch f k v j ≡ f j
patch_other f k v j d = by_no (same? j k) v (f j) d

pub end_is : (d e : Endpoint) → d.line ≡ e.line → d.side ≡ e.side → d ≡ e
end_is d e p q = λ i. record { line = p i; side = q i }

pub end? : (d e : Endpoint) → (d ≡ e) ⊎ (d ≡ e → ⊥)
end? d e = go (same? d.line e.line) (same? d.side e.side)
  where
    go : (d.line ≡ e.line) ⊎ (d.line ≡ e.line → ⊥) → (d.side ≡ e.side) ⊎ (d.side ≡ e.side → ⊥) → (d ≡ e) ⊎ (d ≡ e → ⊥)
    go (inl p) (inl q) = inl (end_is d e p q)
    go (inl p) (inr n) = inr (λ h. n (ap (λ (x : Endpoint). x.side) h))
    go (inr n) _ = inr (λ h. n (ap (λ (x : Endpoint). x.line) h))

-- the points of all ends, after one went on at another point
abbrev pub moved : (Endpoint → ℕ) → Endpoint → ℕ → Endpoint → ℕ
moved point e m d = by (end? d e) m (point d)

pub moved_same : (point : Endpoint → ℕ) (e : Endpoint) (m : ℕ) → moved point e m e ≡ m
moved_same point e m = by_yes (end? e e) m (point e) refl

pub moved_other : (point : Endpoint → ℕ) (e : Endpoint) (m : ℕ) (d : Endpoint) → (d ≡ e → ⊥) → moved point e m d ≡ point d
moved_other point e m d n = by_no (end? d e) m (point d) n
