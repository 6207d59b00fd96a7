-- A ring with one more at its end, and with one taken out.
use Rattle.std.proofs.Common.{◌≡◌, ℕ, zero, suc, ◌+◌, ◌-◌, ◌<◌, ◌≤◌, ◌≢◌, List, [], ◌∷◌, ◌++◌, length, get_or, set, sym, refl, ap, ◌∙◌, add-one, arith, length-set, get_or-set_other, get_or-set_same}
use mathlib.Core.Option.{some}
use Rattle.model.specs.Program.{nth}
use Rattle.records.specs.Tables.{table}
use Rattle.records.proofs.TableLaws.{table_same, table_put, table_snoc, nth_table}
use Rattle.queues.specs.Slots.{slot, queue}
use Rattle.queues.specs.Rings.{taken}

pub slot_below : (n h k : ℕ) → h < n → k ≤ n → slot n h k < n
slot_below n h k p q = grind arith

pub slot_differs : (n h j k : ℕ) → h < n → j < n → k < n → (j ≡ k → ⊥) → slot n h j ≢ slot n h k
slot_differs n h j k p q r ne = λ e. grind arith

pub slot_next : (n h k : ℕ) → h < n → k < n → slot n (slot n h 1) k ≡ slot n h (suc k)
slot_next n h k p q = grind arith

pub slot_none : (n h : ℕ) → h < n → slot n h 0 ≡ h
slot_none n h p = grind arith

-- tables of functions that agree, from different places on
pub table_like : {A : Type 0} (f g : ℕ → A) (b d n : ℕ) → ((k : ℕ) → k < n → g (b + k) ≡ f (d + k)) → table g b n ≡ table f d n
table_like f g b d zero h = refl
table_like f g b d (suc n) h =
    let z1 : b + 0 ≡ b = omega arith in
    let z2 : d + 0 ≡ d = omega arith in
    let e = sym (ap g z1) ∙ (h 0 (omega arith) ∙ ap f z2) in
    let t = table_like f g (suc b) (suc d) n (λ k p. let y1 : suc b + k ≡ b + suc k = omega arith in let y2 : d + suc k ≡ suc d + k = omega arith in ap g y1 ∙ (h (suc k) (omega arith) ∙ ap f y2)) in
    cc

module _ (s : List ℕ) (h : ℕ) (below : h < length s) where
  pub queue_push : (c v : ℕ) → c < length s → queue (set s (slot (length s) h c) v) h (c + 1) ≡ queue s h c ++ (v ∷ [])
  queue_push c v room =
      let n = length s in
      let at = slot n h c in
      let s' = set s at v in
      let F : ℕ → ℕ = λ k. get_or s (slot n h k) 0 in
      let G : ℕ → ℕ = λ k. get_or s' (slot n h k) 0 in
      let e0 : queue s' h (c + 1) ≡ table G 0 (c + 1) = ap (λ m. table (λ k. get_or s' (slot m h k) 0) 0 (c + 1)) (length-set s at v) in
      let e1 : table G 0 (c + 1) ≡ table G 0 (suc c) = ap (table G 0) (add-one c) in
      let e2 : table G 0 (suc c) ≡ table G 0 c ++ (G (0 + c) ∷ []) = table_snoc G 0 c in
      let z : 0 + c ≡ c = omega arith in
      let e3 : G (0 + c) ≡ v = ap G z ∙ get_or-set_same s at v 0 (slot_below n h c below (omega arith)) in
      let e4 : table G 0 c ≡ table F 0 c = table_same F G 0 c (λ k p q. get_or-set_other s at (slot n h k) v 0 (slot_differs n h k c below (omega arith) room (λ y. omega arith))) in
      e0 ∙ (e1 ∙ (e2 ∙ (ap (λ y. table G 0 c ++ (y ∷ [])) e3 ∙ ap (λ y. y ++ (v ∷ [])) e4)))

  -- the rest of the queue after a word is written at place k of it
  after : (c k v : ℕ) → k ≤ c → suc c ≤ length s →
      queue (set s (slot (length s) h k) v) (slot (length s) h 1) c ≡ table (λ j. get_or (set s (slot (length s) h k) v) (slot (length s) h j) 0) 1 c
  after c k v p q =
      let n = length s in
      let s' = set s (slot n h k) v in
      let e0 = ap (λ m. table (λ j. get_or s' (slot m (slot n h 1) j) 0) 0 c) (length-set s (slot n h k) v) in
      e0 ∙ table_like (λ j. get_or s' (slot n h j) 0) (λ j. get_or s' (slot n (slot n h 1) j) 0) 0 1 c
      (λ j r. let z1 : 0 + j ≡ j = omega arith in let z2 : suc j ≡ 1 + j = omega arith in
      ap (λ m. get_or s' (slot n (slot n h 1) m) 0) z1 ∙ (ap (λ m. get_or s' m 0) (slot_next n h j below (omega arith)) ∙ ap (λ m. get_or s' (slot n h m) 0) z2))

  pub queue_take : (c k : ℕ) → k < suc c → suc c ≤ length s → queue (set s (slot (length s) h k) (get_or s h 0)) (slot (length s) h 1) c ≡ taken (queue s h (suc c)) k
  queue_take c zero p q =
      let n = length s in
      let s' = set s (slot n h 0) (get_or s h 0) in
      after c 0 (get_or s h 0) (omega arith) q ∙ table_same (λ j. get_or s (slot n h j) 0) (λ j. get_or s' (slot n h j) 0) 1 c
      (λ j x y. get_or-set_other s (slot n h 0) (slot n h j) (get_or s h 0) 0 (slot_differs n h j 0 below (omega arith) (omega arith) (λ z. omega arith)))
  queue_take c (suc k) p q =
      let n = length s in
      let at = slot n h (suc k) in
      let v = get_or s h 0 in
      let s' = set s at v in
      let e0 : get_or s h 0 ≡ get_or s (slot n h 0) 0 = ap (λ m. get_or s m 0) (sym (slot_none n h below)) in
      let z : 1 + k ≡ suc k = omega arith in
      after c (suc k) v (omega arith) q ∙ table_put (λ j. get_or s (slot n h j) 0) (λ j. get_or s' (slot n h j) 0) 1 c k (get_or s (slot n h 0) 0)
      (λ j x y ne. get_or-set_other s at (slot n h j) v 0 (slot_differs n h j (suc k) below (omega arith) (omega arith) (λ w. ne (omega arith))))
      (λ x. ap (λ m. get_or s' (slot n h m) 0) z ∙ (get_or-set_same s at v 0 (slot_below n h (suc k) below (omega arith)) ∙ e0))

pub pushed : (s : List ℕ) (h c at v : ℕ) → h < length s → c < length s → at ≡ slot (length s) h c → queue (set s at v) h (c + 1) ≡ queue s h c ++ (v ∷ [])
pushed s h c at v inside room is = ap (λ k. queue (set s k v) h (c + 1)) is ∙ queue_push s h inside c v room

pub looked : (s : List ℕ) (h c k at : ℕ) → k < c → at ≡ slot (length s) h k → nth (queue s h c) k ≡ some (get_or s at 0)
looked s h c k at there is =
    let y : 0 + k ≡ k = omega arith in
    nth_table (λ j. get_or s (slot (length s) h j) 0) 0 c k there ∙ (ap (λ j. some (get_or s (slot (length s) h j) 0)) y ∙ ap (λ j. some (get_or s j 0)) (sym is))

pub gone : (s : List ℕ) (h c k at head : ℕ) → h < length s → c ≤ length s → k < c → at ≡ slot (length s) h k → head ≡ slot (length s) h 1 →
    queue (set s at (get_or s h 0)) head (c - 1) ≡ taken (queue s h c) k
gone s h c k at head inside few there is next =
    let z : c ≡ suc (c - 1) = omega arith in
    ap (λ j. queue (set s j (get_or s h 0)) head (c - 1)) is ∙ (ap (λ j. queue (set s (slot (length s) h k) (get_or s h 0)) j (c - 1)) next ∙
    (queue_take s h inside (c - 1) k (omega arith) (omega arith) ∙ ap (λ n. taken (queue s h n) k) (sym z)))
