-- The ends of a starter and of the process that it starts are those that the starter had, and those of the new line.
use Rattle.std.proofs.Common.{◌≡◌, ℕ, zero, suc, ◌+◌, ◌⊎◌, List, [], ◌∷◌, ◌++◌, length, get_or, take, drop, ◌-◌, ◌≤◌, sym, refl, ap, ◌∙◌, inl, inr, arith}
use mathlib.Core.Option.{Option, some, none}
use Rattle.model.specs.Program.{nth, put}
use Rattle.model.specs.Steps.{Endpoint, end, ends_of, without, own_end, far_end}
use Rattle.records.specs.Tables.{table}
use Rattle.records.proofs.TableLaws.{length_table}
use Rattle.evaluation.specs.declared.handed.Ends.{Ends}
use Rattle.evaluation.specs.Handing.{listed, ends_in}
use Rattle.evaluation.proofs.HandingLaws.{listed_part}
use Rattle.rows.proofs.Places.{word_at, rest_at}
use Rattle.turns.specs.Holding.{Below}

some_none : {A : Type 0} {x : A} → none ≡ some x → ⊥
some_none e = let z : ◌≡◌ {A = ℕ} 0 1 = cc in omega arith

end_put : (es : List (Option Endpoint)) (d c : ℕ) (e : Endpoint) → end (put es d none) c ≡ some e → end es c ≡ some e
end_put [] d c e h = h
end_put (x ∷ es) zero zero e h = absurd (some_none h)
end_put (x ∷ es) zero (suc c) e h = h
end_put (x ∷ es) (suc d) zero e h = h
end_put (x ∷ es) (suc d) (suc c) e h = end_put es d c e h

pub end_without : (es : List (Option Endpoint)) (cs : List ℕ) (c : ℕ) (e : Endpoint) → end (without es cs) c ≡ some e → end es c ≡ some e
end_without es [] c e h = h
end_without es (d ∷ cs) c e h = end_put es d c e (end_without (put es d none) cs c e h)

pub end_snoc : (es : List (Option Endpoint)) (d : Endpoint) (c : ℕ) (e : Endpoint) → end (es ++ (some d ∷ [])) c ≡ some e → (end es c ≡ some e) ⊎ (e ≡ d)
end_snoc [] d zero e h = inr (cc)
end_snoc [] d (suc c) e h = absurd (some_none h)
end_snoc (x ∷ es) d zero e h = inl h
end_snoc (x ∷ es) d (suc c) e h = end_snoc es d c e h

pub end_ends_of : (es : List (Option Endpoint)) (cs : List ℕ) (c : ℕ) (e : Endpoint) → end (ends_of es cs) c ≡ some e → (d : ℕ) × (end es d ≡ some e)
end_ends_of es [] c e h = absurd (some_none h)
end_ends_of es (d ∷ cs) zero e h = (d, h)
end_ends_of es (d ∷ cs) (suc c) e h = end_ends_of es cs c e h

module _ (n : ℕ) (es : List (Option Endpoint)) (cs : List ℕ) (b : Below n es) where
  pub below_handed : Below n (ends_of es cs)
  below_handed c e h = let t = end_ends_of es cs c e h in b t.0 e t.1

  pub below_starter : Below (suc n) (without es cs ++ (some (own_end n) ∷ []))
  below_starter c e h = elim (end_snoc (without es cs) (own_end n) c e h) [
    | inl z ↦ (let k = b c e (end_without es cs c e z) in let k0 = k.0 in (omega arith, k.1))
    | inr z ↦ (let l = ap (λ (o : Endpoint). o.line) z in let s = ap (λ (o : Endpoint). o.side) z in (omega arith, omega arith))
  ]

  pub below_started : Below (suc n) (some (far_end n) ∷ ends_of es cs)
  below_started zero e h = let z : e ≡ far_end n = cc in let l = ap (λ (o : Endpoint). o.line) z in let s = ap (λ (o : Endpoint). o.side) z in (omega arith, omega arith)
  below_started (suc c) e h = let k = below_handed c e h in let k0 = k.0 in (omega arith, k.1)

-- the words of a list that stands at a place
listed_from : (s : List ℕ) (at b : ℕ) (cs x : List ℕ) → drop (at + b) s ≡ cs ++ x → table (λ k. get_or s (at + k) 0) b (length cs) ≡ cs
listed_from s at b [] x h = refl
listed_from s at b (c ∷ cs) x h =
    let z : at + b ≡ at + b + 0 = omega arith in
    let e : get_or s (at + b) 0 ≡ c = ap (λ k. get_or s k 0) z ∙ word_at s (at + b) 0 h in
    let z2 : at + suc b ≡ at + b + 1 = omega arith in
    let t = listed_from s at (suc b) cs x (ap (λ k. drop k s) z2 ∙ rest_at s (at + b) 1 h) in
    cc

pub listed_is : (s : List ℕ) (at n : ℕ) (cs x : List ℕ) → n ≡ length cs → drop at s ≡ cs ++ x → listed s at n ≡ cs
listed_is s at n cs x is h =
    let z : at + 0 ≡ at = omega arith in
    ap (listed s at) is ∙ listed_from s at 0 cs x (ap (λ k. drop k s) z ∙ h)

-- one more at the end of a list changes no other place
pub nth_snoc_other : {A : Type 0} (xs : List A) (v : A) (k : ℕ) → (k ≡ length xs → ⊥) → nth (xs ++ (v ∷ [])) k ≡ nth xs k
nth_snoc_other [] v zero ne = absurd (ne refl)
nth_snoc_other [] v (suc k) ne = refl
nth_snoc_other (x ∷ xs) v zero ne = refl
nth_snoc_other (x ∷ xs) v (suc k) ne = nth_snoc_other xs v k (λ e. ne (omega arith))

-- the conversations that are listed, as a part of the words
pub listed_slice : (s : List ℕ) (at n : ℕ) → at + n ≤ length s → take (at + n - at) (drop at s) ≡ listed s at n
listed_slice s at n h = let z : at + n - at ≡ n = omega arith in ap (λ k. take k (drop at s)) z ∙ listed_part s at n h

pub handed_ends : (s l : List ℕ) (es : List (Option Endpoint)) (r : Ends) (at n : ℕ) → l ≡ listed s at n → ends_in r (length l) ≡ ends_of es l → ends_in r n ≡ ends_of es (listed s at n)
handed_ends s l es r at n is h =
    let e : length l ≡ n = ap length is ∙ length_table (λ k. get_or s (at + k) 0) 0 n in
    ap (ends_in r) (sym e) ∙ (h ∙ ap (ends_of es) is)
