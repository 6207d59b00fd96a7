-- Following the holders of a table: what is found by looking, and that a circle has no more hops than the table rows.
use Rattle.std.proofs.Common.{◌≡◌, ℕ, zero, suc, ◌+◌, ◌-◌, ◌<◌, ◌≤◌, true, false, cond, eqb, ◌⊎◌, List, [], ◌∷◌, length, get_or, drop, sym, refl, ap, ◌∙◌, subst, inl, inr, add-one, arith, below_more}
use mathlib.Core.Option.{Option, some, none}
use Rattle.model.specs.Program.{nth, or}
use Rattle.records.specs.Tables.{table}
use Rattle.records.proofs.TableLaws.{nth_table, length_table}
use Rattle.queues.specs.Lines.{option}
use Rattle.turns.specs.Scheduling.{In}
use Rattle.engine.specs.Running.{Once}
use Rattle.engine.proofs.QueueLaws.{once_length}
use Rattle.model.proofs.Lists.{same?, below?, nth_below}
use Rattle.exploring.specs.declared.answers.Left.{Left}
use Rattle.exploring.specs.Circles.{hop, onward, hops, ComesBack, ComesBackSoon}

some_none : {A : Type 0} {x : A} {o : Option A} → o ≡ some x → o ≡ none → ⊥
some_none e f = let z : ◌≡◌ {A = ℕ} 0 1 = cc in omega arith

pub some_inj : {A : Type 0} {x y : A} {o : Option A} → o ≡ some x → o ≡ some y → x ≡ y
some_inj e f = cc

-- one row after the other
hop_at : (rows : List Left) (k i : ℕ) (d : Left) → k < length rows → hop (drop k rows) i ≡ cond (eqb (get_or rows k d).process i) (option (get_or rows k d).holder) (hop (drop (suc k) rows) i)
hop_at [] k i d l = absurd (omega arith)
hop_at (r ∷ rows) zero i d l = refl
hop_at (r ∷ rows) (suc k) i d l = hop_at rows k i d (omega arith)

eqb_same : (x y : ℕ) → x ≡ y → eqb x y ≡ true
eqb_same x y e = grind arith

eqb_other : (x y : ℕ) → (x ≡ y → ⊥) → eqb x y ≡ false
eqb_other x y ne = grind arith

module _ (rows : List Left) (k i : ℕ) (d : Left) (inv : hop (drop k rows) i ≡ hop rows i) where
  pub found_row : k < length rows → (get_or rows k d).process ≡ i → option (get_or rows k d).holder ≡ hop rows i
  found_row l e = sym (ap (λ b. cond b (option (get_or rows k d).holder) (hop (drop (suc k) rows) i)) (eqb_same (get_or rows k d).process i e)) ∙ (sym (hop_at rows k i d l) ∙ inv)

  pub next_row : k < length rows → ((get_or rows k d).process ≡ i → ⊥) → hop (drop (k + 1) rows) i ≡ hop rows i
  next_row l ne =
      ap (λ n. hop (drop n rows) i) (add-one k) ∙ (sym (ap (λ b. cond b (option (get_or rows k d).holder) (hop (drop (suc k) rows) i)) (eqb_other (get_or rows k d).process i ne)) ∙ (sym (hop_at rows k i d l) ∙ inv))

drop_all : (rows : List Left) (k : ℕ) → length rows ≤ k → drop k rows ≡ []
drop_all [] zero l = refl
drop_all [] (suc k) l = refl
drop_all (r ∷ rows) zero l = absurd (omega arith)
drop_all (r ∷ rows) (suc k) l = drop_all rows k (omega arith)

pub no_row : (rows : List Left) (k i : ℕ) → length rows ≤ k → hop (drop k rows) i ≡ hop rows i → none ≡ hop rows i
no_row rows k i l inv = sym (ap (λ x. hop x i) (drop_all rows k l)) ∙ inv

module _ (rows : List Left) where
  -- hops one after the other
  hops_none : (i k m : ℕ) → hops rows k i ≡ none → hops rows (m + k) i ≡ none
  hops_none i k zero e = ap (λ n. hops rows n i) z ∙ e
    where
      z : 0 + k ≡ k
      z = omega arith
  hops_none i k (suc m) e = ap (λ n. hops rows n i) z ∙ ap (onward rows) (hops_none i k m e)
    where
      z : suc m + k ≡ suc (m + k)
      z = omega arith

  hops_then : (i j k m : ℕ) → hops rows k i ≡ some j → hops rows (m + k) i ≡ hops rows m j
  hops_then i j k zero e = ap (λ n. hops rows n i) z ∙ e
    where
      z : 0 + k ≡ k
      z = omega arith
  hops_then i j k (suc m) e = ap (λ n. hops rows n i) z ∙ ap (onward rows) (hops_then i j k m e)
    where
      z : suc m + k ≡ suc (m + k)
      z = omega arith

  hops_later : (i k l : ℕ) → k ≤ l → hops rows k i ≡ none → hops rows l i ≡ none
  hops_later i k l le e = let z : (l - k) + k ≡ l = omega arith in sym (ap (λ n. hops rows n i) z) ∙ hops_none i k (l - k) e

  -- the first of some hops, and the others
  pub hops_first : (m i k : ℕ) → hops rows (suc m) i ≡ some k → (j : ℕ) × (hop rows i ≡ some j) × (hops rows m j ≡ some k)
  hops_first m i k e = go (hop rows i) refl
    where
      z : m + 1 ≡ suc m
      z = omega arith

      go : (o : Option ℕ) → hop rows i ≡ o → (j : ℕ) × (hop rows i ≡ some j) × (hops rows m j ≡ some k)
      go none x = absurd (some_none e (hops_later i 1 (suc m) (omega arith) x))
      go (some j) x = (j, x, sym (hops_then i j 1 m x) ∙ (ap (λ n. hops rows n i) z ∙ e))

  module _ (i n at : ℕ) (here : hops rows n i ≡ some at) (inv : (m : ℕ) → m < n → hops rows (suc m) i ≡ some i → ⊥) where
    next_hop : (o : Option ℕ) → o ≡ hop rows at → hops rows (suc n) i ≡ o
    next_hop o e = ap (onward rows) here ∙ sym e

    pub ends_here : none ≡ hop rows at → ComesBackSoon rows i → ⊥
    ends_here e (m, l, back) = elim (below? m n) [
      | inl x ↦ inv m x back
      | inr x ↦ some_none back (hops_later i (suc n) (suc m) (omega arith) (next_hop none e))
    ]

    pub goes_round : (j : ℕ) → some j ≡ hop rows at → j ≡ i → hops rows (suc n) i ≡ some i
    goes_round j e z = next_hop (some j) e ∙ ap some z

    pub goes_on : (j : ℕ) → some j ≡ hop rows at → (j ≡ i → ⊥) → (hops rows (n + 1) i ≡ some j) × ((m : ℕ) → m < n + 1 → hops rows (suc m) i ≡ some i → ⊥)
    goes_on j e ne = (
      ap (λ k. hops rows k i) (add-one n) ∙ next_hop (some j) e,
      below_more (λ (m : ℕ). hops rows (suc m) i ≡ some i → ⊥) n inv (λ z. ne (some_inj (next_hop (some j) e) z)),
    )

-- the place of the first row of a process
pub first_row : List Left → ℕ → ℕ
first_row [] i = 0
first_row (r ∷ rows) i = cond (eqb r.process i) 0 (suc (first_row rows i))

pub first_row_is : (rows : List Left) (i j : ℕ) → hop rows i ≡ some j → (row : Left) × (nth rows (first_row rows i) ≡ some row) × (row.process ≡ i) × (option row.holder ≡ some j)
unfolding first_row
first_row_is [] i j e = absurd (some_none e refl)
first_row_is (r ∷ rows) i j e = go (same? r.process i) (first_row_is rows i j)
  where
    go : (r.process ≡ i) ⊎ (r.process ≡ i → ⊥) → (hop rows i ≡ some j → (row : Left) × (nth rows (first_row rows i) ≡ some row) × (row.process ≡ i) × (option row.holder ≡ some j)) →
        (row : Left) × (nth (r ∷ rows) (cond (eqb r.process i) 0 (suc (first_row rows i))) ≡ some row) × (row.process ≡ i) × (option row.holder ≡ some j)
    go (inl z) rec = (r, ap (λ b. nth (r ∷ rows) (cond b 0 (suc (first_row rows i)))) (eqb_same r.process i z), z, sym (ap (λ b. cond b (option r.holder) (hop rows i)) (eqb_same r.process i z)) ∙ e)
    go (inr ne) rec =
        let b = eqb_other r.process i ne in
        let t = rec (sym (ap (λ b. cond b (option r.holder) (hop rows i)) b) ∙ e) in
        (t.0, ap (λ b. nth (r ∷ rows) (cond b 0 (suc (first_row rows i)))) b ∙ t.1, t.2, t.3)

-- One comes back: then one has been at processes with rows only, and if at one of them twice, a shorter way comes back.
module _ (rows : List Left) (i n : ℕ) (back : hops rows (suc n) i ≡ some i) where
  at : ℕ → ℕ
  at k = or 0 (hops rows k i)

  at_is : (k : ℕ) → k ≤ suc n → hops rows k i ≡ some (at k)
  unfolding at
  at_is k l = go (hops rows k i) refl
    where
      go : (o : Option ℕ) → hops rows k i ≡ o → o ≡ some (or 0 o)
      go none e = absurd (some_none back (hops_later rows i k (suc n) l e))
      go (some x) e = refl

  at_hop : (k : ℕ) → k ≤ n → hop rows (at k) ≡ some (at (suc k))
  at_hop k l = sym (ap (onward rows) (at_is k (omega arith))) ∙ at_is (suc k) (omega arith)

  row_below : (k : ℕ) → k ≤ n → first_row rows (at k) < length rows
  row_below k l = nth_below rows (first_row rows (at k)) (first_row_is rows (at k) (at (suc k)) (at_hop k l)).1

  row_same : (k l : ℕ) → k ≤ n → l ≤ n → first_row rows (at k) ≡ first_row rows (at l) → at k ≡ at l
  row_same k l p q e =
      let x = first_row_is rows (at k) (at (suc k)) (at_hop k p) in
      let y = first_row_is rows (at l) (at (suc l)) (at_hop l q) in
      let z : x.0 ≡ y.0 = some_inj x.1 (ap (nth rows) e ∙ y.1) in
      sym x.2 ∙ (ap (λ (r : Left). r.process) z ∙ y.2)

  shorter : (k l : ℕ) → k < l → l ≤ n → at k ≡ at l → hops rows (l - k) i ≡ some i
  shorter k l p q e =
      let m = suc n - k in
      let z1 : m + k ≡ suc n = omega arith in
      let z2 : (l - k) + suc n ≡ m + l = omega arith in
      let a1 = hops_then rows i (at k) k m (at_is k (omega arith)) in
      let a2 = hops_then rows i (at l) l m (at_is l (omega arith)) in
      let a3 = hops_then rows i i (suc n) (l - k) back in
      sym a3 ∙ (ap (λ x. hops rows x i) z2 ∙ (a2 ∙ (ap (hops rows m) (sym e) ∙ (sym a1 ∙ (ap (λ x. hops rows x i) z1 ∙ back)))))

  first_hop : (row : Left) × (nth rows (first_row rows i) ≡ some row) × (row.process ≡ i) × (option row.holder ≡ some (at 1))
  unfolding at
  first_hop = first_row_is rows i (at 1) (at_hop 0 (omega arith))

  module _ (none' : ComesBackSoon rows i → ⊥) (l : length rows ≤ n) where
    q : List ℕ
    q = table (λ k. first_row rows (at k)) 0 (suc (length rows))

    known : (k x : ℕ) → nth q k ≡ some x → (k < suc (length rows)) × (x ≡ first_row rows (at k))
    unfolding q
    known k x e =
        let b = nth_below (table (λ k. first_row rows (at k)) 0 (suc (length rows))) k e in
        let len = length_table (λ k. first_row rows (at k)) 0 (suc (length rows)) in
        let lt : k < suc (length rows) = omega arith in
        let z : 0 + k ≡ k = omega arith in
        (lt, some_inj e (nth_table (λ k. first_row rows (at k)) 0 (suc (length rows)) k lt ∙ ap (λ j. some (first_row rows (at j))) z))

    low : (x : ℕ) → In q x → x < length rows
    low x (k, e) = let t = known k x e in let t0 = t.0 in let b = row_below k (omega arith) in let f = t.1 in omega arith

    no_two : (k j : ℕ) → k < j → j ≤ length rows → at k ≡ at j → ⊥
    no_two k j p r e =
        let z : suc (j - k - 1) ≡ j - k = omega arith in
        none' (j - k - 1, omega arith, ap (λ x. hops rows x i) z ∙ shorter k j p (omega arith) e)

    different : Once q
    different k j x a b =
        let s = known k x a in
        let t = known j x b in
        let s0 = s.0 in
        let t0 = t.0 in
        let e = row_same k j (omega arith) (omega arith) (sym s.1 ∙ t.1) in
        elim (below? k j) [
          | inl p ↦ absurd (no_two k j p (omega arith) e)
          | inr p ↦ elim (same? k j) [ inl z ↦ z | inr ne ↦ absurd (no_two j k (omega arith) (omega arith) (sym e)) ]
        ]

    many : ⊥
    unfolding q
    many =
        let z = once_length (length rows) (table (λ k. first_row rows (at k)) 0 (suc (length rows))) different low in
        let e = length_table (λ k. first_row rows (at k)) 0 (suc (length rows)) in
        omega arith

  pub too_long : (ComesBackSoon rows i → ⊥) → ⊥
  too_long none' = elim (below? n (length rows)) [ inl l ↦ none' (n, l, back) | inr l ↦ many none' l ]

-- one comes back to none of the processes that have rows, and so to none
pub no_circle : (rows : List Left) (k : ℕ) → length rows ≤ k → ((j : ℕ) → j < k → (row : Left) → nth rows j ≡ some row → ComesBackSoon rows row.process → ⊥) → (i : ℕ) → ComesBack rows i → ⊥
no_circle rows k l inv i (n, back) =
    let t = first_hop rows i n back in
    let b = nth_below rows (first_row rows i) t.1 in
    too_long rows i n back (λ c. inv (first_row rows i) (omega arith) t.0 t.1 (subst (ComesBackSoon rows) (sym t.2) c))

pub next_looked : (rows : List Left) (k : ℕ) (d : Left) → k < length rows → ((j : ℕ) → j < k → (row : Left) → nth rows j ≡ some row → ComesBackSoon rows row.process → ⊥) → (ComesBackSoon rows (get_or rows k d).process → ⊥) →
    (j : ℕ) → j < k + 1 → (row : Left) → nth rows j ≡ some row → ComesBackSoon rows row.process → ⊥
next_looked rows k d l inv out =
    below_more (λ (j : ℕ). (row : Left) → nth rows j ≡ some row → ComesBackSoon rows row.process → ⊥) k inv (λ row e c. out (subst (λ (r : Left). ComesBackSoon rows r.process) (row_at rows k row e) c))
  where
    row_at : (rs : List Left) (m : ℕ) (row : Left) → nth rs m ≡ some row → row ≡ get_or rs m d
    row_at [] m row e = absurd (some_none e refl)
    row_at (r ∷ rs) zero row e = cc
    row_at (r ∷ rs) (suc m) row e = row_at rs m row e
