-- Points at a place, exactly, and one after the other.
use Rattle.std.proofs.Common.{◌≡◌, ℕ, ◌+◌, ◌<◌, ◌≤◌, ◌≢◌, ◌⊎◌, List, [], ◌∷◌, ◌++◌, length, get_or, drop, set as set_list, Some, None, sym, refl, ap, ◌∙◌, subst, inl, inr, append_assoc, arith, length-append, get_or-set_other, get_or-set_same}
use mathlib.Core.Option.{some}
use Rattle.rows.specs.declared.decode.PointKind.{PointKind}
use Rattle.rows.specs.declared.decode.PointKind.TheVariants.{Over, Gives, Takes, Chooses, Offers}
use Rattle.rows.specs.Decode.{point_at, PointWords, said}
use Rattle.rows.specs.Sections.{PointsAt, NoPoints}
use Rattle.rows.proofs.Places.{word_at, word_here, words_left, drop_one, drop_two, drop_three}
use Rattle.rows.proofs.Series.{rows_snoc, rows_front}
use Rattle.model.specs.Program.{nth, Point, over, gives, takes, chooses, offers}
use Rattle.model.specs.Rows.{row_p, row_ps}
use Rattle.model.proofs.Lists.{nth_below, nth_snoc_split}
use Rattle.model.proofs.Writing.{row_p_prefix}

pub record PointFound (s : List ℕ) (i : ℕ) (p : Point) : Type 0 where
  pub kind : PointKind
  pub is : point_at s i ≡ Some kind
  pub same : said kind ≡ p

-- What stands at a place is found there.
pub point_found : (s : List ℕ) (i : ℕ) (p : Point) (x : List ℕ) → drop i s ≡ row_p p ++ x → PointFound s i p
point_found s i over x h =
    let a = word_here s i h in let n = words_left s i h in
    record { kind = Over; is = grind arith; same = refl }
point_found s i (gives m) x h =
    let a = word_here s i h in let b = word_at s i 1 h in let n = words_left s i h in
    record { kind = Gives m; is = grind arith; same = refl }
point_found s i (takes m) x h =
    let a = word_here s i h in let b = word_at s i 1 h in let n = words_left s i h in
    record { kind = Takes m; is = grind arith; same = refl }
point_found s i (chooses m o) x h =
    let a = word_here s i h in let b = word_at s i 1 h in let c = word_at s i 2 h in let n = words_left s i h in
    record { kind = Chooses m o; is = grind arith; same = refl }
point_found s i (offers m o) x h =
    let a = word_here s i h in let b = word_at s i 1 h in let c = word_at s i 2 h in let n = words_left s i h in
    record { kind = Offers m o; is = grind arith; same = refl }

-- What is found at a place stands there, up to place j.
pub record PointTo (s : List ℕ) (i j : ℕ) (p : Point) : Type 0 where
  pub rows : drop i s ≡ row_p p ++ drop j s
  pub within : j ≤ length s

pub point_to : (s : List ℕ) (i : ℕ) (k : PointKind) → PointWords s i k → PointTo s i (i + length (row_p (said k))) (said k)
point_to s i Over w = record { rows = drop_one s i w.1 ∙ cc; within = omega arith }
point_to s i (Gives m) w = let o : i + 1 < length s = omega arith in record { rows = drop_two s i o ∙ cc; within = omega arith }
point_to s i (Takes m) w = let o : i + 1 < length s = omega arith in record { rows = drop_two s i o ∙ cc; within = omega arith }
point_to s i (Chooses m n) w = let o : i + 2 < length s = omega arith in record { rows = drop_three s i o ∙ cc; within = omega arith }
point_to s i (Offers m n) w = let o : i + 2 < length s = omega arith in record { rows = drop_three s i o ∙ cc; within = omega arith }

module _ {s table : List ℕ} {i k j : ℕ} (a : PointsAt s table i k j) where
  points_more : (kind : PointKind) → PointWords s j kind → k < length table → PointsAt s (set_list table k j) i (k + 1) (j + length (row_p (said kind)))
  points_more kind w room =
      let t = point_to s j kind w in
      let p = said kind in
      let l = j + length (row_p p) in
      let e = a.many in
      record {
        them = a.them ++ (p ∷ []);
        many = simp length-append (omega arith);
        rows = a.rows ∙ (ap (λ y. row_ps a.them ++ y) t.rows ∙ sym (rows_snoc row_p row_ps refl (λ b bs. refl) a.them p (drop l s)));
        places = λ m q h. go m q (nth_snoc_split a.them p m h);
        within = λ h. t.within;
      }
    where
      go : (m : ℕ) (q : Point) → ((nth a.them m ≡ some q) ⊎ ((m ≡ length a.them) × (q ≡ said kind))) → (x : List ℕ) × (drop (get_or (set_list table k j) m 0) s ≡ row_p q ++ x)
      go m q (inl h) =
          let b = nth_below a.them m h in let e = a.many in
          let old = a.places m q h in
          let ne : m ≢ k = omega arith in
          (old.0, ap (λ (n : ℕ). drop n s) (get_or-set_other table k m j 0 ne) ∙ old.1)
      go m q (inr h) =
          let t = point_to s j kind w in
          let here : m ≡ k = h.0 ∙ a.many in
          let e1 : get_or (set_list table k j) m 0 ≡ j = ap (λ (n : ℕ). get_or (set_list table k j) n 0) here ∙ get_or-set_same table k j 0 room in
          (drop (j + length (row_p (said kind))) s, ap (λ (n : ℕ). drop n s) e1 ∙ (t.rows ∙ ap (λ r. row_p r ++ drop (j + length (row_p (said kind))) s) (sym h.1)))

  pub points_again : (kind : PointKind) {n l : ℕ} {table' : List ℕ} → PointWords s j kind → l ≡ length (row_p (said kind)) → n ≡ k → k < length table → table' ≡ set_list table n j → PointsAt s table' i (k + 1) (j + l)
  points_again kind {n} {l} {table'} w e at room put =
      let written : table' ≡ set_list table k j = put ∙ ap (λ (m : ℕ). set_list table m j) at in
      subst (λ t. PointsAt s t i (k + 1) (j + l)) (sym written) (subst (λ (m : ℕ). PointsAt s (set_list table k j) i (k + 1) (j + m)) (sym e) (points_more kind w room))

  pub points_stuck : {n : ℕ} → k < n → None ≡ point_at s j → NoPoints s i n
  points_stuck {n} lt is ps x many h =
      let e = a.many in
      let r = rows_front row_p row_ps refl (λ b bs. refl) row_p_prefix a.them ps (drop j s) x (omega arith) (sym a.rows ∙ h) in
      go r.them (ap length r.all ∙ length-append a.them r.them) r.here
    where
      go : (qs : List Point) → length ps ≡ length a.them + length qs → drop j s ≡ row_ps qs ++ x → ⊥
      go [] l h = let e = a.many in omega arith
      go (q ∷ qs) l h =
          let f = point_found s j q (row_ps qs ++ x) (h ∙ append_assoc (row_p q) (row_ps qs) x) in
          let z : ◌≡◌ {A = ℕ} 0 1 = cc f.is in
          omega arith
