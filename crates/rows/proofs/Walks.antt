-- What the walk over an action keeps: what stood at its entry and what stands here are parts of one another, and the
-- table has every second way that was passed.
use Rattle.std.proofs.Common.{◌≡◌, ℕ, ◌+◌, ◌-◌, ◌<◌, ◌≤◌, ◌≢◌, List, ◌∷◌, ◌++◌, length, get_or, drop, set as set_list, sym, refl, ap, ◌∙◌, subst, arith, length-append, get_or-set_other, get_or-set_same}
use Rattle.rows.specs.Reading.{Seconds, ActionAt, NoAction, SameBelow, Stood, Written, Leads, TwoWays, Parting}
use Rattle.model.specs.Program.{Action, stop, give, take, choose, offer, set, if, show, start, become}
use Rattle.model.specs.Rows.{row_e, row_es, row_a}
use Rattle.model.proofs.Writing.{row_a_prefix}

-- tables that agree on the words of an action
abbrev SameOn : ℕ → ℕ → List ℕ → List ℕ → Type 0
SameOn i n m m' = (k : ℕ) → i ≤ k → k < i + n → get_or m k 0 ≡ get_or m' k 0

inner : (i n j l : ℕ) (m m' : List ℕ) → SameOn i n m m' → i ≤ j → j + l ≤ i + n → SameOn j l m m'
inner i n j l m m' h a b k p q = h k (omega arith) (omega arith)

pub seconds_same : (m m' : List ℕ) (i : ℕ) (t : Action) → SameOn i (length (row_a t)) m m' → Seconds m i t → Seconds m' i t
seconds_same m m' i stop h p = tt
seconds_same m m' i (give c e t) h p =
    let l = length-append (row_e e) (row_a t) in
    seconds_same m m' (i + 2 + length (row_e e)) t (inner i (length (row_a (give c e t))) (i + 2 + length (row_e e)) (length (row_a t)) m m' h (omega arith) (omega arith)) p
seconds_same m m' i (take c x t) h p = seconds_same m m' (i + 3) t (inner i (length (row_a (take c x t))) (i + 3) (length (row_a t)) m m' h (omega arith) (omega arith)) p
seconds_same m m' i (choose c k t) h p = seconds_same m m' (i + 3) t (inner i (length (row_a (choose c k t))) (i + 3) (length (row_a t)) m m' h (omega arith) (omega arith)) p
seconds_same m m' i (offer c t u) h p =
    let l = length-append (row_a t) (row_a u) in
    let n = length (row_a (offer c t u)) in (
      sym (h i (omega arith) (omega arith)) ∙ p.0,
      seconds_same m m' (i + 2) t (inner i n (i + 2) (length (row_a t)) m m' h (omega arith) (omega arith)) p.1,
      seconds_same m m' (i + 2 + length (row_a t)) u (inner i n (i + 2 + length (row_a t)) (length (row_a u)) m m' h (omega arith) (omega arith)) p.2,
    )
seconds_same m m' i (set x e t) h p =
    let l = length-append (row_e e) (row_a t) in
    seconds_same m m' (i + 2 + length (row_e e)) t (inner i (length (row_a (set x e t))) (i + 2 + length (row_e e)) (length (row_a t)) m m' h (omega arith) (omega arith)) p
seconds_same m m' i (if e t u) h p =
    let l = length-append (row_a t) (row_a u) in
    let l2 = length-append (row_e e) (row_a t ++ row_a u) in
    let n = length (row_a (if e t u)) in (
      sym (h i (omega arith) (omega arith)) ∙ p.0,
      seconds_same m m' (i + 1 + length (row_e e)) t (inner i n (i + 1 + length (row_e e)) (length (row_a t)) m m' h (omega arith) (omega arith)) p.1,
      seconds_same m m' (i + 1 + length (row_e e) + length (row_a t)) u (inner i n (i + 1 + length (row_e e) + length (row_a t)) (length (row_a u)) m m' h (omega arith) (omega arith)) p.2,
    )
seconds_same m m' i (show e t) h p =
    let l = length-append (row_e e) (row_a t) in
    seconds_same m m' (i + 1 + length (row_e e)) t (inner i (length (row_a (show e t))) (i + 1 + length (row_e e)) (length (row_a t)) m m' h (omega arith) (omega arith)) p
seconds_same m m' i (start f cs es t) h p =
    let l = length-append cs (length es ∷ (row_es es ++ row_a t)) in
    let l2 = length-append (row_es es) (row_a t) in
    let j = i + 4 + length cs + length (row_es es) in
    seconds_same m m' j t (inner i (length (row_a (start f cs es t))) j (length (row_a t)) m m' h (omega arith) (omega arith)) p
seconds_same m m' i (become f cs es) h p = tt

-- The walk began at place i and has come to place j; the table was m0 and is m.
pub record Walk (s m0 m : List ℕ) (i d r j d' r' : ℕ) : Type 0 where
  pub back : (m' x : List ℕ) (n : ℕ) → SameBelow j m m' → Written s m' j d' r' x n → Written s m' i d r x ((j - i) + n)
  pub on : (x : List ℕ) → Stood s i d r x → Stood s j d' r' x
  pub order : i ≤ j
  pub shallow : d' ≤ d
  pub before : SameBelow i m0 m

pub walk_none : (s m : List ℕ) (i d r : ℕ) → Walk s m m i d r i d r
walk_none s m i d r = record {
  back = λ m' x n h w. let e : n ≡ (i - i) + n = omega arith in record { stood = w.stood; seconds = w.seconds; long = w.long ∙ e };
  on = λ x h. h;
  order = omega arith;
  shallow = omega arith;
  before = λ k h. refl;
}

module _ {s m0 m : List ℕ} {i d r j d' r' : ℕ} (a : Walk s m0 m i d r j d' r') where
  pub walk_on : {l r'' : ℕ} → Leads s j d' r' l d' r'' → Walk s m0 m i d r l d' r''
  walk_on {l} {r''} b = record {
    back = λ m' x n h w.
        let f = b.further in let o = a.order in
        let v = a.back m' x ((l - j) + n) (λ k q. h k (omega arith)) (b.back m' x n w) in
        let e : (j - i) + ((l - j) + n) ≡ (l - i) + n = omega arith in
        record { stood = v.stood; seconds = v.seconds; long = v.long ∙ e };
    on = λ x h. b.on x (a.on x h);
    order = let f = b.further in let o = a.order in omega arith;
    shallow = a.shallow;
    before = a.before;
  }

  pub walk_fault : NoAction s j d' r' → NoAction s i d r
  walk_fault nope t x h p q = let b = a.on x (record { it = t; rows = h; deeps = p; news = q }) in nope b.it x b.rows b.deeps b.news

  pub walk_end : {l : ℕ} → ActionAt s m j d' r' l → ActionAt s m i d r l
  walk_end {l} b =
      let w = a.back m (drop l s) (length (row_a b.it)) (λ k h. refl) (record { stood = record { it = b.it; rows = b.rows; deeps = b.deeps; news = b.news }; seconds = b.seconds; long = refl }) in
      let e = b.ends in let o = a.order in let f = b.further in let g = w.long in
      record {
        it = w.stood.it;
        rows = w.stood.rows;
        deeps = w.stood.deeps;
        news = w.stood.news;
        seconds = w.seconds;
        ends = omega arith;
        further = omega arith;
        within = b.within;
      }

  module _ {f : ℕ} (b : Parting s j d' r' f) where
    pub walk_shallow : (1 ≤ d' → ⊥) → NoAction s i d r
    walk_shallow none = walk_fault (λ t x h p q. let w = b.on x (record { it = t; rows = h; deeps = p; news = q }) in let g = w.some in omega arith)

    pub walk_first : {e : ℕ} → (1 ≤ d') × (e ≡ d' - 1) → NoAction s f e r' → NoAction s i d r
    walk_first less nope = walk_fault (λ t x h p q.
        let w = b.on x (record { it = t; rows = h; deeps = p; news = q }) in
        let o = w.deep_one in
        nope w.one (row_a w.two ++ x) w.rows (omega arith) w.new_one)

    -- the first way was walked up to place l, and the table now says that the second begins there
    module _ {m1 : List ℕ} {l e : ℕ} (same : SameBelow f m m1) (less : (1 ≤ d') × (e ≡ d' - 1)) (c : ActionAt s m1 f e r' l) (room : length s ≤ length m1) where
      noted : (k : ℕ) (ne : k ≢ j) → get_or m1 k 0 ≡ get_or (set_list m1 j l) k 0
      noted k ne = sym (get_or-set_other m1 j k l 0 ne)

      inside : j < length m1
      inside = let g1 = b.further in let g2 = c.further in let g3 = c.within in omega arith

      fork_back : (m' x : List ℕ) (n : ℕ) → SameBelow l (set_list m1 j l) m' → Written s m' l e r' x n → Written s m' i d r x ((l - i) + n)
      fork_back m' x n h w =
          let o = a.order in let g1 = b.further in let g2 = c.further in let g3 = c.ends in let g4 = w.long in
          let two : TwoWays s f d' r' x = record {
            one = c.it;
            two = w.stood.it;
            rows = c.rows ∙ ap (λ y. row_a c.it ++ y) w.stood.rows;
            some = omega arith;
            deep_one = let q = c.deeps in omega arith;
            deep_two = let q = w.stood.deeps in omega arith;
            new_one = c.news;
            new_two = w.stood.news;
          } in
          let s1 : Seconds m' f c.it = seconds_same m1 m' f c.it (λ k p q. noted k (omega arith) ∙ h k (omega arith)) c.seconds in
          let s2 : Seconds m' (f + length (row_a c.it)) w.stood.it = subst (λ (q : ℕ). Seconds m' q w.stood.it) g3 w.seconds in
          let g : get_or m' j 0 ≡ f + length (row_a c.it) = sym (h j (omega arith)) ∙ (get_or-set_same m1 j l 0 inside ∙ g3) in
          let low : SameBelow j m m' = λ k q. same k (omega arith) ∙ (noted k (omega arith) ∙ h k (omega arith)) in
          let v = a.back m' x ((f - j) + (length (row_a c.it) + length (row_a w.stood.it))) low (b.back m' x two s1 s2 g) in
          let z : (j - i) + ((f - j) + (length (row_a c.it) + length (row_a w.stood.it))) ≡ (l - i) + n = omega arith in
          record { stood = v.stood; seconds = v.seconds; long = v.long ∙ z }

      fork_on : (x : List ℕ) → Stood s i d r x → Stood s l e r' x
      fork_on x h =
          let w = b.on x (a.on x h) in
          record { it = w.two; rows = (row_a_prefix c.it w.one (drop l s) (row_a w.two ++ x) (sym c.rows ∙ w.rows)).1; deeps = let q = w.deep_two in omega arith; news = w.new_two }

      pub walk_fork : Walk s m0 (set_list m1 j l) i d r l e r'
      walk_fork =
          let o = a.order in let g1 = b.further in let g2 = c.further in let g3 = a.shallow in
          record {
            back = fork_back;
            on = fork_on;
            order = omega arith;
            shallow = omega arith;
            before = λ k h. a.before k h ∙ (same k (omega arith) ∙ noted k (omega arith));
          }
