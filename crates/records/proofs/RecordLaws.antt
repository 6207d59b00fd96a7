-- Words written in a record: one variable or end is another, or there is one more.
use Rattle.std.proofs.Common.{◌≡◌, ℕ, zero, suc, ◌+◌, ◌<◌, ◌≤◌, min, not, eqb, List, [], ◌∷◌, ◌++◌, length, get_or, take, drop, set, sym, refl, ap, ◌∙◌, arith, length-set, get_or-set_other, get_or-set_same, ◌≢◌}
use mathlib.Core.Option.{Option, some, none}
use Rattle.model.specs.Program.{or, put, bit}
use Rattle.model.specs.Steps.{Endpoint, end}
use Rattle.records.specs.Tables.{table}
use Rattle.records.specs.Records.{Record, end_of, vars_of, ends_of, record_of, record_at, Kept, assigned, cleared, with_end, with_number}
use Rattle.records.proofs.TableLaws.{table_same, table_put, table_snoc, nth_table, nth_table_past, length_table, take_table}

-- the words of the variables decide them, and those of the ends decide these
vars_same : (w w' : List ℕ) → get_or w' 4 0 ≡ get_or w 4 0 → ((k : ℕ) → k < 16 → get_or w' (16 + k) 0 ≡ get_or w (16 + k) 0) → vars_of w' ≡ vars_of w
vars_same w w' e h =
    ap (λ n. table (λ k. get_or w' (16 + k) 0) 0 (min n 16)) e
    ∙ table_same (λ k. get_or w (16 + k) 0) (λ k. get_or w' (16 + k) 0) 0 (min (get_or w 4 0) 16) (λ k p q. h k (omega arith))

ends_same : (w w' : List ℕ) → get_or w' 5 0 ≡ get_or w 5 0 → ((k : ℕ) → k < 16 → get_or w' (32 + k) 0 ≡ get_or w (32 + k) 0) → ((k : ℕ) → k < 16 → get_or w' (48 + k) 0 ≡ get_or w (48 + k) 0) → ends_of w' ≡ ends_of w
ends_same w w' e h1 h2 =
    ap (λ n. table (λ k. end_of (get_or w' (32 + k) 0) (get_or w' (48 + k) 0)) 0 (min n 16)) e
    ∙ table_same (λ k. end_of (get_or w (32 + k) 0) (get_or w (48 + k) 0)) (λ k. end_of (get_or w' (32 + k) 0) (get_or w' (48 + k) 0)) 0 (min (get_or w 5 0) 16)
    (λ k p q. let a = h1 k (omega arith) in let b = h2 k (omega arith) in ap (λ l. end_of l (get_or w' (48 + k) 0)) a ∙ ap (end_of (get_or w (32 + k) 0)) b)

put_past : {A : Type 0} (xs : List A) (n : ℕ) (v : A) → length xs ≤ n → put xs n v ≡ xs
put_past [] n v h = refl
put_past (x ∷ xs) zero v h = absurd (omega arith)
put_past (x ∷ xs) (suc n) v h = ap (λ ys. x ∷ ys) (put_past xs n v (omega arith))

-- how many there are, by their word
pub vars_long : (w : List ℕ) → length (vars_of w) ≡ min (get_or w 4 0) 16
vars_long w = length_table (λ k. get_or w (16 + k) 0) 0 (min (get_or w 4 0) 16)

pub ends_long : (w : List ℕ) → length (ends_of w) ≡ min (get_or w 5 0) 16
ends_long w = length_table (λ k. end_of (get_or w (32 + k) 0) (get_or w (48 + k) 0)) 0 (min (get_or w 5 0) 16)

module _ (w : List ℕ) (long : length w ≡ 64) where
  -- one variable is another
  pub variable_set : (x v : ℕ) → x < length (vars_of w) → record_of (set w (16 + x) v) ≡ assigned (record_of w) x v
  variable_set x v h =
      let l = vars_long w in
      let w' = set w (16 + x) v in
      let o : (m : ℕ) → (m ≢ 16 + x) → get_or w' m 0 ≡ get_or w m 0 = λ m ne. get_or-set_other w (16 + x) m v 0 ne in
      let e1 = o 1 (λ z. omega arith) in
      let e2 = o 2 (λ z. omega arith) in
      let e3 = o 3 (λ z. omega arith) in
      let a : get_or w' (16 + x) 0 ≡ v = get_or-set_same w (16 + x) v 0 (omega arith) in
      let f : vars_of w' ≡ put (vars_of w) x v =
      ap (λ n. table (λ k. get_or w' (16 + k) 0) 0 (min n 16)) (o 4 (λ z. omega arith))
      ∙ table_put (λ k. get_or w (16 + k) 0) (λ k. get_or w' (16 + k) 0) 0 (min (get_or w 4 0) 16) x v (λ k p q ne. o (16 + k) (λ z. ne (omega arith))) (λ p. let z : 0 + x ≡ x = omega arith in ap (λ k. get_or w' (16 + k) 0) z ∙ a) in
      let g = ends_same w w' (o 5 (λ z. omega arith)) (λ m q. o (32 + m) (λ z. omega arith)) (λ m q. o (48 + m) (λ z. omega arith)) in
      cc

  pub variable_past : (x v : ℕ) → length (vars_of w) ≤ x → record_of w ≡ assigned (record_of w) x v
  variable_past x v h = let p = put_past (vars_of w) x v h in cc

  -- an end is handed on
  pub end_cleared : (x : ℕ) → x < length (ends_of w) → record_of (set w (48 + x) 0) ≡ cleared (record_of w) x
  end_cleared x h =
      let l = ends_long w in
      let w' = set w (48 + x) 0 in
      let o : (m : ℕ) → (m ≢ 48 + x) → get_or w' m 0 ≡ get_or w m 0 = λ m ne. get_or-set_other w (48 + x) m 0 0 ne in
      let e1 = o 1 (λ z. omega arith) in
      let e2 = o 2 (λ z. omega arith) in
      let e3 = o 3 (λ z. omega arith) in
      let a : get_or w' (48 + x) 0 ≡ 0 = get_or-set_same w (48 + x) 0 0 (omega arith) in
      let f = vars_same w w' (o 4 (λ z. omega arith)) (λ m q. o (16 + m) (λ z. omega arith)) in
      let g : ends_of w' ≡ put (ends_of w) x none =
      ap (λ n. table (λ k. end_of (get_or w' (32 + k) 0) (get_or w' (48 + k) 0)) 0 (min n 16)) (o 5 (λ z. omega arith))
      ∙ table_put (λ k. end_of (get_or w (32 + k) 0) (get_or w (48 + k) 0)) (λ k. end_of (get_or w' (32 + k) 0) (get_or w' (48 + k) 0)) 0 (min (get_or w 5 0) 16) x none
      (λ k p q ne. ap (λ n. end_of n (get_or w' (48 + k) 0)) (o (32 + k) (λ z. omega arith)) ∙ ap (end_of (get_or w (32 + k) 0)) (o (48 + k) (λ z. ne (omega arith))))
      (λ p. let z : 0 + x ≡ x = omega arith in ap (λ k. end_of (get_or w' (32 + k) 0) (get_or w' (48 + k) 0)) z ∙ ap (end_of (get_or w' (32 + x) 0)) a) in
      cc

  pub cleared_past : (x : ℕ) → length (ends_of w) ≤ x → record_of w ≡ cleared (record_of w) x
  cleared_past x h = let p = put_past (ends_of w) x none h in cc

  -- one variable more
  pub variable_pushed : (n v : ℕ) → n ≡ length (vars_of w) → n < 16 → record_of (set (set w (16 + n) v) 4 (n + 1)) ≡ with_number (record_of w) v
  variable_pushed n v is few =
      let l = vars_long w in
      let w1 = set w (16 + n) v in
      let w' = set w1 4 (n + 1) in
      let l1 = length-set w (16 + n) v in
      let o : (m : ℕ) → (m ≢ 16 + n) → (m ≢ 4) → get_or w' m 0 ≡ get_or w m 0 = λ m p q. get_or-set_other w1 4 m (n + 1) 0 q ∙ get_or-set_other w (16 + n) m v 0 p in
      let e1 = o 1 (λ z. omega arith) (λ z. omega arith) in
      let e2 = o 2 (λ z. omega arith) (λ z. omega arith) in
      let e3 = o 3 (λ z. omega arith) (λ z. omega arith) in
      let a : get_or w' (16 + n) 0 ≡ v = get_or-set_other w1 4 (16 + n) (n + 1) 0 (λ z. omega arith) ∙ get_or-set_same w (16 + n) v 0 (omega arith) in
      let b : get_or w' 4 0 ≡ n + 1 = get_or-set_same w1 4 (n + 1) 0 (omega arith) in
      let m1 : min (get_or w' 4 0) 16 ≡ suc n = omega arith in
      let m2 : min (get_or w 4 0) 16 ≡ n = omega arith in
      let z : 0 + n ≡ n = omega arith in
      let t : table (λ k. get_or w' (16 + k) 0) 0 n ≡ table (λ k. get_or w (16 + k) 0) 0 n = table_same (λ k. get_or w (16 + k) 0) (λ k. get_or w' (16 + k) 0) 0 n (λ k p q. o (16 + k) (λ z. omega arith) (λ z. omega arith)) in
      let f : vars_of w' ≡ vars_of w ++ (v ∷ []) =
      ap (table (λ k. get_or w' (16 + k) 0) 0) m1 ∙ (table_snoc (λ k. get_or w' (16 + k) 0) 0 n ∙ (ap (λ y. table (λ k. get_or w' (16 + k) 0) 0 n ++ (y ∷ [])) (ap (λ k. get_or w' (16 + k) 0) z ∙ a) ∙ ap (λ y. y ++ (v ∷ [])) (t ∙ sym (ap (table (λ k. get_or w (16 + k) 0) 0) m2)))) in
      let g = ends_same w w' (o 5 (λ z. omega arith) (λ z. omega arith)) (λ m q. o (32 + m) (λ z. omega arith) (λ z. omega arith)) (λ m q. o (48 + m) (λ z. omega arith) (λ z. omega arith)) in
      cc

  -- one end more
  pub end_pushed : (n l c : ℕ) (e : Option Endpoint) → n ≡ length (ends_of w) → n < 16 → end_of l c ≡ e → record_of (set (set (set w (32 + n) l) (48 + n) c) 5 (n + 1)) ≡ with_end (record_of w) e
  end_pushed n l c e is few code =
      let k = ends_long w in
      let w1 = set w (32 + n) l in
      let w2 = set w1 (48 + n) c in
      let w' = set w2 5 (n + 1) in
      let l1 = length-set w (32 + n) l in
      let l2 = length-set w1 (48 + n) c in
      let o : (m : ℕ) → (m ≢ 32 + n) → (m ≢ 48 + n) → (m ≢ 5) → get_or w' m 0 ≡ get_or w m 0 =
      λ m p q r. get_or-set_other w2 5 m (n + 1) 0 r ∙ (get_or-set_other w1 (48 + n) m c 0 q ∙ get_or-set_other w (32 + n) m l 0 p) in
      let e1 = o 1 (λ z. omega arith) (λ z. omega arith) (λ z. omega arith) in
      let e2 = o 2 (λ z. omega arith) (λ z. omega arith) (λ z. omega arith) in
      let e3 = o 3 (λ z. omega arith) (λ z. omega arith) (λ z. omega arith) in
      let a : get_or w' (32 + n) 0 ≡ l = get_or-set_other w2 5 (32 + n) (n + 1) 0 (λ z. omega arith) ∙ (get_or-set_other w1 (48 + n) (32 + n) c 0 (λ z. omega arith) ∙ get_or-set_same w (32 + n) l 0 (omega arith)) in
      let b : get_or w' (48 + n) 0 ≡ c = get_or-set_other w2 5 (48 + n) (n + 1) 0 (λ z. omega arith) ∙ get_or-set_same w1 (48 + n) c 0 (omega arith) in
      let d : get_or w' 5 0 ≡ n + 1 = get_or-set_same w2 5 (n + 1) 0 (omega arith) in
      let F : ℕ → Option Endpoint = λ k. end_of (get_or w (32 + k) 0) (get_or w (48 + k) 0) in
      let G : ℕ → Option Endpoint = λ k. end_of (get_or w' (32 + k) 0) (get_or w' (48 + k) 0) in
      let m1 : min (get_or w' 5 0) 16 ≡ suc n = omega arith in
      let m2 : min (get_or w 5 0) 16 ≡ n = omega arith in
      let z : 0 + n ≡ n = omega arith in
      let t0 : G (0 + n) ≡ e = ap G z ∙ (ap (λ y. end_of y (get_or w' (48 + n) 0)) a ∙ (ap (end_of l) b ∙ code)) in
      let t : table G 0 n ≡ table F 0 n = table_same F G 0 n (λ k p q. ap (λ y. end_of y (get_or w' (48 + k) 0)) (o (32 + k) (λ z. omega arith) (λ z. omega arith) (λ z. omega arith)) ∙ ap (end_of (get_or w (32 + k) 0)) (o (48 + k) (λ z. omega arith) (λ z. omega arith) (λ z. omega arith))) in
      let f = vars_same w w' (o 4 (λ z. omega arith) (λ z. omega arith) (λ z. omega arith)) (λ m q. o (16 + m) (λ z. omega arith) (λ z. omega arith) (λ z. omega arith)) in
      let g : ends_of w' ≡ ends_of w ++ (e ∷ []) = ap (table G 0) m1 ∙ (table_snoc G 0 n ∙ (ap (λ y. table G 0 n ++ (y ∷ [])) t0 ∙ ap (λ y. y ++ (e ∷ [])) (t ∙ sym (ap (table F 0) m2)))) in
      cc

-- the end of a conversation
pub end_there : (w : List ℕ) (c : ℕ) → c < length (ends_of w) → end_of (get_or w (32 + c) 0) (get_or w (48 + c) 0) ≡ end (ends_of w) c
end_there w c h =
    let l = ends_long w in
    let z : 0 + c ≡ c = omega arith in
    sym (ap (λ o. or none o) (nth_table (λ k. end_of (get_or w (32 + k) 0) (get_or w (48 + k) 0)) 0 (min (get_or w 5 0) 16) c (omega arith)) ∙ ap (λ k. end_of (get_or w (32 + k) 0) (get_or w (48 + k) 0)) z)

pub end_past : (w : List ℕ) (c : ℕ) → length (ends_of w) ≤ c → none ≡ end (ends_of w) c
end_past w c h =
    let l = ends_long w in
    sym (ap (λ o. or none o) (nth_table_past (λ k. end_of (get_or w (32 + k) 0) (get_or w (48 + k) 0)) 0 (min (get_or w 5 0) 16) c (omega arith)))

pub end_some : (w : List ℕ) (c : ℕ) → c < length (ends_of w) → (get_or w (48 + c) 0 ≡ 0 → ⊥) → some (record { line = get_or w (32 + c) 0; side = bit (not (eqb (get_or w (48 + c) 0) 1)) }) ≡ end (ends_of w) c
end_some w c h ne = go (get_or w (48 + c) 0) ne ∙ end_there w c h
  where
    go : (k : ℕ) → (k ≡ 0 → ⊥) → some (record { line = get_or w (32 + c) 0; side = bit (not (eqb k 1)) }) ≡ end_of (get_or w (32 + c) 0) k
    go k ne = grind arith

pub vars_part : (w : List ℕ) (n : ℕ) → n ≡ length (vars_of w) → 16 + n ≤ length w → take n (drop 16 w) ≡ vars_of w
vars_part w n is room = take_table w 0 16 0 n (omega arith) ∙ ap (table (λ k. get_or w (16 + k) 0) 0) (is ∙ vars_long w)

-- Record i was written: it is what its words are, all others are as they were.
pub kept_set : (s : List (List ℕ)) (i : ℕ) (w : List ℕ) (r : Record) → i < length s → record_of w ≡ r → Kept s (set s i w) i r
kept_set s i w r there is = record {
  long = length-set s i w;
  at = ap record_of (get_or-set_same s i w [] there) ∙ is;
  others = λ j ne. ap record_of (get_or-set_other s i j w [] ne);
}

pub kept_none : (s : List (List ℕ)) (i : ℕ) → Kept s s i (record_at s i)
kept_none s i = record { long = refl; at = refl; others = λ j ne. refl }

pub kept_then : {s t u : List (List ℕ)} {i : ℕ} {r q : Record} → Kept s t i r → Kept t u i q → Kept s u i q
kept_then a b = record { long = b.long ∙ a.long; at = b.at; others = λ j ne. b.others j ne ∙ a.others j ne }

pub kept_as : {s t : List (List ℕ)} {i : ℕ} {r q : Record} → r ≡ q → Kept s t i r → Kept s t i q
kept_as e a = record { long = a.long; at = a.at ∙ e; others = a.others }

-- and there are as many records as before
pub kept_room : {s t : List (List ℕ)} {i : ℕ} {r : Record} → Kept s t i r → (j : ℕ) → j < length s → j < length t
kept_room k j lt = let e = k.long in omega arith
