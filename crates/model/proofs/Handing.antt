-- The ends of a process: where their conversations are, and what handing some of them on does.
use mathlib.Core.Path.{◌≡◌, refl, sym, ap, ◌∙◌}
use mathlib.Core.Logic.{◌⊎◌, inl, inr}
use mathlib.Core.Bool.{Bool, true, false, cond}
use mathlib.Core.List.{List, [], ◌∷◌}
use mathlib.Core.Option.{Option, some, none}
use Prim.Native.Nat.{ℕ, zero, suc}
use native.Mathlib.Omega.{arith}
use Rattle.model.specs.Program.{nth, or, put}
use Rattle.model.specs.Keeps.{is, hands, begins}
use Rattle.model.specs.Steps.{Endpoint, end, ends_of, without}
use Rattle.model.specs.Picture.{Has, place, places}
use Rattle.model.proofs.Lists.{same?, nth_put_other, nth_put_split, nth_map_back, map_put, map_agree}
use Rattle.model.proofs.Patch.{moved, moved_same, moved_other}
use Rattle.model.proofs.Keeping.{or_open}

-- no end stands twice among these
abbrev pub Once : List (Option Endpoint) → Type 0
Once es = (c d : ℕ) (e : Endpoint) → nth es c ≡ some (some e) → nth es d ≡ some (some e) → c ≡ d

place_open : (point : Endpoint → ℕ) (o : Option Endpoint) (t : ℕ) → some t ≡ place point o → (e : Endpoint) × (o ≡ some e) × (t ≡ point e)
place_open point none t h = grind arith
place_open point (some e) t h = (e, refl, cc)

-- a conversation at a point is an end at that point
pub places_end : (point : Endpoint → ℕ) (es : List (Option Endpoint)) (c t : ℕ) → nth (places point es) c ≡ some (some t) → (e : Endpoint) × (nth es c ≡ some (some e)) × (t ≡ point e)
places_end point es c t h =
    let o = nth_map_back (place point) es c h in
    let e : (e : Endpoint) × (o.0 ≡ some e) × (t ≡ point e) = place_open point o.0 t o.2 in
    (e.0, o.1 ∙ ap some e.1, e.2)

-- points that agree at all ends that are held
pub places_agree : (point to : Endpoint → ℕ) (es : List (Option Endpoint)) → ((e : Endpoint) → Has es e → to e ≡ point e) → places to es ≡ places point es
places_agree point to es h = map_agree (place to) (place point) es (λ i o k. go i o k)
  where
    go : (i : ℕ) (o : Option Endpoint) → nth es i ≡ some o → place to o ≡ place point o
    go i none k = refl
    go i (some e) k = ap some (h e (i, k))

pub places_moved_other : (point : Endpoint → ℕ) (e : Endpoint) (m : ℕ) (es : List (Option Endpoint)) → (Has es e → ⊥) → places (moved point e m) es ≡ places point es
places_moved_other point e m es n = places_agree point (moved point e m) es (λ d h. moved_other point e m d (λ q. n (rw q at h)))

pub places_moved : (point : Endpoint → ℕ) (e : Endpoint) (m : ℕ) (es : List (Option Endpoint)) (c : ℕ) → Once es → nth es c ≡ some (some e) → places (moved point e m) es ≡ put (places point es) c (some m)
places_moved point e m [] c once h = grind arith
places_moved point e m (o ∷ es) zero once h =
    let oe : o ≡ some e = cc in
    let a = moved_same point e m in
    let b = places_moved_other point e m es (λ k. let z = once 0 (suc k.0) e h k.1 in omega arith) in
    let p : place (moved point e m) o ≡ some m = rw oe (ap some a) in
    cc
places_moved point e m (o ∷ es) (suc c) once h =
    let ih = places_moved point e m es c (λ x y d p q. let z = once (suc x) (suc y) d p q in omega arith) h in
    let p = first_other o refl in
    cc
  where
    first_other : (x : Option Endpoint) → o ≡ x → place (moved point e m) x ≡ place point x
    first_other none q = refl
    first_other (some d) q = ap some (moved_other point e m d (λ de. let z = once 0 (suc c) e (ap some (q ∙ ap some de)) h in omega arith))

-- conversations cs of these ends are handed on, each once: what is handed, and what is left
pub data Handed : List (Option Endpoint) → List ℕ → List (Option Endpoint) → List (Option Endpoint) → Type 0 where
  done : {es : List (Option Endpoint)} → Handed es [] [] es
  hand : {es left handed : List (Option Endpoint)} {cs : List ℕ} (c : ℕ) (e : Endpoint) → nth es c ≡ some (some e) → Handed (put es c none) cs handed left → Handed es (c ∷ cs) (some e ∷ handed) left

-- what is still there after one was handed on was there before, at another place
put_none : (es : List (Option Endpoint)) (c z : ℕ) (e : Endpoint) → nth (put es c none) z ≡ some (some e) → (nth es z ≡ some (some e)) × (c ≡ z → ⊥)
put_none es c z e h = go (nth_put_split es c z none h)
  where
    go : ((c ≡ z) × (some e ≡ none)) ⊎ ((c ≡ z → ⊥) × (nth es z ≡ some (some e))) → (nth es z ≡ some (some e)) × (c ≡ z → ⊥)
    go (inl k) = let b = k.1 in grind arith
    go (inr k) = (k.1, k.0)

once_put : (es : List (Option Endpoint)) (c : ℕ) → Once es → Once (put es c none)
once_put es c once x y e p q = once x y e (put_none es c x e p).0 (put_none es c y e q).0

module _ {left : List (Option Endpoint)} where
  pub left_from : {es handed : List (Option Endpoint)} {cs : List ℕ} → Handed es cs handed left → (c : ℕ) (e : Endpoint) → nth left c ≡ some (some e) → nth es c ≡ some (some e)
  left_from done c e h = h
  left_from (hand {es} z d p t) c e h = (put_none es z c e (left_from t c e h)).0

  pub left_once : {es handed : List (Option Endpoint)} {cs : List ℕ} → Handed es cs handed left → Once es → Once left
  left_once t once c d e p q = once c d e (left_from t c e p) (left_from t d e q)

  pub handed_from : {es handed : List (Option Endpoint)} {cs : List ℕ} → Handed es cs handed left → (e : Endpoint) → Has handed e → Has es e
  handed_from done e h = let k = h.1 in grind arith
  handed_from (hand {es} {handed} z d p t) e h = go h.0 h.1 (handed_from t e)
    where
      go : (k : ℕ) → nth (some d ∷ handed) k ≡ some (some e) → (Has handed e → Has (put es z none) e) → Has es e
      go zero q ih = let de : d ≡ e = cc in (z, rw de at p)
      go (suc k) q ih = let r = ih (k, q) in (r.0, (put_none es z r.0 e r.1).0)

  -- each end is left or handed on,
  pub handed_split : {es handed : List (Option Endpoint)} {cs : List ℕ} → Handed es cs handed left → (e : Endpoint) → Has es e → Has left e ⊎ Has handed e
  handed_split done e h = inl h
  handed_split (hand {es} {handed} z d p t) e h = go (same? z h.0) (handed_split t e)
    where
      lift : Has left e ⊎ Has handed e → Has left e ⊎ Has (some d ∷ handed) e
      lift (inl k) = inl k
      lift (inr k) = inr (suc k.0, k.1)

      go : (z ≡ h.0) ⊎ (z ≡ h.0 → ⊥) → (Has (put es z none) e → Has left e ⊎ Has handed e) → Has left e ⊎ Has (some d ∷ handed) e
      go (inl q) ih = let k = h.1 in let de : some (some d) ≡ some (some e) = sym p ∙ ap (nth es) q ∙ k in inr (0, grind arith)
      go (inr n) ih = lift (ih (h.0, nth_put_other es z h.0 none n ∙ h.1))

  -- not both,
  pub handed_apart : {es handed : List (Option Endpoint)} {cs : List ℕ} → Handed es cs handed left → Once es → (e : Endpoint) → Has handed e → Has left e → ⊥
  handed_apart done once e h k = let q = h.1 in grind arith
  handed_apart (hand {es} {handed} z d p t) once e h k = go h.0 h.1 (handed_apart t (once_put es z once) e)
    where
      go : (x : ℕ) → nth (some d ∷ handed) x ≡ some (some e) → (Has handed e → Has left e → ⊥) → ⊥
      go zero q ih =
          let de : d ≡ e = cc in
          let r = put_none es z k.0 e (left_from t k.0 e k.1) in
          r.1 (once z k.0 e (rw de at p) r.0)
      go (suc x) q ih = ih (x, q) k

  -- and handed on once
  pub handed_once : {es handed : List (Option Endpoint)} {cs : List ℕ} → Handed es cs handed left → Once es → Once handed
  handed_once done once c d e p q = grind arith
  handed_once (hand {es} {handed} z f p t) once c d e q r = go c d q r (handed_once t (once_put es z once))
    where
      no : (x : ℕ) → f ≡ e → nth handed x ≡ some (some e) → ⊥
      no x fe h =
          let k = handed_from t e (x, h) in
          let b = put_none es z k.0 e k.1 in
          b.1 (once z k.0 e (rw fe at p) b.0)

      go : (x y : ℕ) → nth (some f ∷ handed) x ≡ some (some e) → nth (some f ∷ handed) y ≡ some (some e) → Once handed → x ≡ y
      go zero zero a b ih = refl
      go zero (suc y) a b ih = let fe : f ≡ e = cc in absurd (no y fe b)
      go (suc x) zero a b ih = let fe : f ≡ e = cc in absurd (no x fe a)
      go (suc x) (suc y) a b ih = ap suc (ih x y e a b)

  -- what the steps say of it
  pub handed_left_is : {es handed : List (Option Endpoint)} {cs : List ℕ} → Handed es cs handed left → without es cs ≡ left
  handed_left_is done = refl
  handed_left_is (hand z d p t) = handed_left_is t

  pub handed_ends_is : {es handed : List (Option Endpoint)} {cs : List ℕ} → Handed es cs handed left → (all : List (Option Endpoint)) → ((c : ℕ) (e : Endpoint) → nth es c ≡ some (some e) → nth all c ≡ some (some e)) → ends_of all cs ≡ handed
  handed_ends_is done all h = refl
  handed_ends_is (hand {es} z d p t) all h =
      let a = h z d p in
      let b : end all z ≡ some d = ap (or none) a in
      let ih = handed_ends_is t all (λ c e k. h c e (put_none es z c e k).0) in
      cc

-- what keeping says of it: the conversations handed on are where the other process begins
pub record Hands (point : Endpoint → ℕ) (es : List (Option Endpoint)) (cs ts : List ℕ) (b : List (Option ℕ)) : Type 0 where
  pub handed : List (Option Endpoint)
  pub left : List (Option Endpoint)
  pub parts : Handed es cs handed left
  pub begin_at : places point handed ≡ begins ts
  pub left_at : places point left ≡ b

pub hands_open : (point : Endpoint → ℕ) (es : List (Option Endpoint)) (cs ts : List ℕ) (b : List (Option ℕ)) → hands (places point es) cs ts ≡ some b → Hands point es cs ts b
hands_open point es [] [] b h = record { handed = []; left = es; parts = done; begin_at = refl; left_at = grind arith }
hands_open point es [] (t ∷ ts) b h = grind arith
hands_open point es (c ∷ cs) [] b h = grind arith
hands_open point es (c ∷ cs) (t ∷ ts) b h = go (is (or none (nth (places point es) c)) t) refl h (λ k. hands_open point (put es c none) cs ts b k)
  where
    is_some : (o : Option ℕ) → is o t ≡ true → o ≡ some t
    is_some o k = grind arith

    go : (x : Bool) → is (or none (nth (places point es) c)) t ≡ x → cond x (hands (put (places point es) c none) cs ts) none ≡ some b →
        (hands (places point (put es c none)) cs ts ≡ some b → Hands point (put es c none) cs ts b) → Hands point es (c ∷ cs) (t ∷ ts) b
    go false k q more = grind arith
    go true k q more =
        let e = places_end point es c t (or_open _ t (is_some _ k)) in
        let r = more (rw (map_put (place point) es c none) q) in
        let te = e.2 in
        let at = r.begin_at in
        record { handed = some e.0 ∷ r.handed; left = r.left; parts = hand c e.0 e.1 r.parts; begin_at = cc; left_at = r.left_at }
