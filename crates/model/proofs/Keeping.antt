-- What keeping to conversations says, action by action and point by point: here alone `keeps` and `kept` are opened.
use mathlib.Core.Path.{◌≡◌, refl, ap, ◌∙◌}
use mathlib.Core.Bool.{Bool, true, ◌&&◌}
use mathlib.Core.List.{List, [], ◌∷◌, ◌++◌}
use mathlib.Core.Option.{Option, some, none}
use Prim.Native.Nat.{ℕ, zero, suc, ◌+◌}
use native.Mathlib.Omega.{arith}
use lib.ListN.{length}
use lib.Dec.{eqb, ltb}
use borrow.Author.Tests.{eqb-true}
use Rattle.model.specs.Program.{nth, or, put, Point, over, gives, takes, chooses, offers, Expression, Action, stop, give, take, choose, offer, set, if, show, start, become, Process, Program}
use Rattle.model.specs.Keeps.{then, is, Ways, ways, way, is_over, after_give, after_take, after_choose, after_offer, At, moves, all_over, ok, oks, hands, first, rest, alike, keeps, begins, all_keep, mutual_sides, mutual_ways, faces, points_fit, root, kept}
use Rattle.model.specs.Picture.{KeepsOn, Mutual}
use Rattle.model.proofs.Lists.{nth_below, nth_there}

-- a conjunction, and a test of an option, that hold
and_left : (x y : Bool) → (x && y) ≡ true → x ≡ true
and_left x y h = grind arith

and_right : (x y : Bool) → (x && y) ≡ true → y ≡ true
and_right x y h = grind arith

then_open : {A : Type 0} (o : Option A) (k : A → Bool) → then o k ≡ true → (x : A) × (o ≡ some x) × (k x ≡ true)
then_open none k h = grind arith
then_open (some x) k h = (x, refl, h)

is_open : (o : Option ℕ) (n : ℕ) → is o n ≡ true → o ≡ some n
is_open o n h = grind arith

pub or_open : {A : Type 0} (o : Option (Option A)) (x : A) → or none o ≡ some x → o ≡ some (some x)
or_open o x h = grind arith

-- conversation c is at a point where `after` allows an action
pub record Moves {A : Type 0} (g : Program) (a : At) (c : ℕ) (after : Point → Option A) : Type 0 where
  pub place : ℕ
  pub point : Point
  pub goes : A
  pub here : nth a c ≡ some (some place)
  pub is_point : nth g.points place ≡ some point
  pub allowed : after point ≡ some goes

moves_open : {A : Type 0} (g : Program) (a : At) (c : ℕ) (after : Point → Option A) (k : A → Bool) → moves g a c after k ≡ true → (m : Moves g a c after) × (k m.goes ≡ true)
moves_open {A} g a c after k h =
    let t : (t : ℕ) × (or none (nth a c) ≡ some t) × (then (nth g.points t) (λ p. then (after p) k) ≡ true) = then_open (or none (nth a c)) (λ t. then (nth g.points t) (λ p. then (after p) k)) h in
    let p : (p : Point) × (nth g.points t.0 ≡ some p) × (then (after p) k ≡ true) = then_open (nth g.points t.0) (λ p. then (after p) k) t.2 in
    let x : (x : A) × (after p.0 ≡ some x) × (k x ≡ true) = then_open (after p.0) k p.2 in
    (record { place = t.0; point = p.0; goes = x.0; here = or_open (nth a c) t.0 t.1; is_point = p.1; allowed = x.1 }, x.2)

-- every conversation that is left is over
abbrev pub Over : Program → At → Type 0
Over g a = (c t : ℕ) → nth a c ≡ some (some t) → nth g.points t ≡ some over

is_over_open : (p : Point) → is_over p ≡ true → p ≡ over
is_over_open p h = grind arith

all_over_open : (g : Program) (a : At) → all_over g a ≡ true → Over g a
all_over_open g [] h c t e = grind arith
all_over_open g (none ∷ a) h zero t e = grind arith
all_over_open g (none ∷ a) h (suc c) t e = all_over_open g a h c t e
all_over_open g (some u ∷ a) h zero t e =
    let p : (p : Point) × (nth g.points u ≡ some p) × (is_over p ≡ true) = then_open (nth g.points u) is_over (and_left (then (nth g.points u) is_over) (all_over g a) h) in
    let o = is_over_open p.0 p.2 in
    let q = p.1 in
    let same : u ≡ t = cc in
    cc
all_over_open g (some u ∷ a) h (suc c) t e = all_over_open g a (and_right (then (nth g.points u) is_over) (all_over g a) h) c t e

-- starting, and becoming
pub record Starts (g : Program) (f : ℕ) (cs : List ℕ) (s : Action) (a : At) : Type 0 where
  pub process : Process
  pub new : ℕ
  pub handed : List ℕ
  pub ours : ℕ
  pub left : At
  pub is_process : nth g.procs f ≡ some process
  pub talks : process.talks ≡ new ∷ handed
  pub hands_on : hands a cs handed ≡ some left
  pub sides : nth g.other new ≡ some ours
  pub goes_on : KeepsOn g s (left ++ (some ours ∷ []))

pub record Becomes (g : Program) (f : ℕ) (cs : List ℕ) (a : At) : Type 0 where
  pub process : Process
  pub left : At
  pub is_process : nth g.procs f ≡ some process
  pub hands_on : hands a cs process.talks ≡ some left
  pub all_over : Over g left

-- What it takes to keep to conversations, one action deep.
abbrev pub Next : Program → Action → At → Type 0
Next g stop a = Over g a
Next g (give c e s) a = (m : Moves g a c after_give) × KeepsOn g s (put a c (some m.goes))
Next g (take c x s) a = (m : Moves g a c after_take) × KeepsOn g s (put a c (some m.goes))
Next g (choose c k s) a = (m : Moves g a c after_choose) × KeepsOn g s (put a c (some (way k m.goes)))
Next g (offer c s t) a = (m : Moves g a c after_offer) × KeepsOn g s (put a c (some (way 0 m.goes))) × KeepsOn g t (put a c (some (way 1 m.goes)))
Next g (set x e s) a = KeepsOn g s a
Next g (if e s t) a = KeepsOn g s a × KeepsOn g t a
Next g (show e s) a = KeepsOn g s a
Next g (start f cs es s) a = Starts g f cs s a
Next g (become f cs es) a = Becomes g f cs a

first_open : (ts : List ℕ) (t : ℕ) → first ts ≡ some t → ts ≡ t ∷ rest ts
first_open ts t h = grind arith

pub next : (g : Program) (s : Action) (a : At) → KeepsOn g s a → Next g s a
next g stop a k = all_over_open g a k.2
next g (give c e s) a (k) =
    let m = moves_open g a c after_give (λ m. keeps g k.0 k.1 s (put a c (some m))) (and_right (ok k.0 e) _ k.2) in
    (m.0, (k.0, k.1, m.1))
next g (take c x s) a k =
    let m = moves_open g a c after_take (λ m. keeps g k.0 k.1 s (put a c (some m))) (and_right (ltb x k.0) _ k.2) in
    (m.0, (k.0, k.1, m.1))
next g (choose c j s) a k =
    let m = moves_open g a c after_choose (λ w. keeps g k.0 k.1 s (put a c (some (way j w)))) (and_right (ltb j 2) _ k.2) in
    (m.0, (k.0, k.1, m.1))
next g (offer c s t) a k =
    let m = moves_open g a c after_offer (λ w. keeps g k.0 k.1 s (put a c (some (way 0 w))) && keeps g k.0 k.1 t (put a c (some (way 1 w)))) k.2 in
    (m.0, (k.0, k.1, and_left _ _ m.1), (k.0, k.1, and_right _ _ m.1))
next g (set x e s) a k = (k.0, k.1, and_right (ok k.0 e) _ (and_right (ltb x k.0) _ k.2))
next g (if e s t) a k =
    let both = and_right (ok k.0 e) (keeps g k.0 k.1 s a && keeps g k.0 k.1 t a) k.2 in
    ((k.0, k.1, and_left _ _ both), (k.0, k.1, and_right _ _ both))
next g (show e s) a k = (k.0, k.1, and_right (ok k.0 e) _ (and_right k.1 _ k.2))
next g (start f cs es s) a k =
    let p = then_open (nth g.procs f) _ (and_right (oks k.0 es) _ k.2) in
    let b = then_open (hands a cs (rest p.0.talks)) _ (and_right (eqb (length es) p.0.nums) _ p.2) in
    let t = then_open (first p.0.talks) _ b.2 in
    let u = then_open (nth g.other t.0) (λ u. keeps g k.0 k.1 s (b.0 ++ (some u ∷ []))) t.2 in
    record { process = p.0; new = t.0; handed = rest p.0.talks; ours = u.0; left = b.0; is_process = p.1; talks = first_open p.0.talks t.0 t.1; hands_on = b.1; sides = u.1; goes_on = (k.0, k.1, u.2) }
next g (become f cs es) a k =
    let p = then_open (nth g.procs f) _ (and_right (oks k.0 es) _ k.2) in
    let b = then_open (hands a cs p.0.talks) _ (and_right (alike k.1 (eqb f 0)) _ (and_right (eqb (length es) p.0.nums) _ p.2)) in
    record { process = p.0; left = b.0; is_process = p.1; hands_on = b.1; all_over = all_over_open g b.0 b.2 }

-- as many numbers are handed on as the process takes in
eqb_open : (m n : ℕ) → eqb m n ≡ true → m ≡ n
eqb_open m n h = grind (arith, eqb-true)

pub numbers_start : (g : Program) (f : ℕ) (cs : List ℕ) (es : List Expression) (s : Action) (a : At) → KeepsOn g (start f cs es s) a → (p : Process) → nth g.procs f ≡ some p → length es ≡ p.nums
numbers_start g f cs es s a k p h =
    let q = then_open (nth g.procs f) _ (and_right (oks k.0 es) _ k.2) in
    let e = eqb_open (length es) q.0.nums (and_left (eqb (length es) q.0.nums) _ q.2) in
    let r = q.1 in
    let same : q.0 ≡ p = cc in
    e ∙ ap (λ x. x.nums) same

pub numbers_become : (g : Program) (f : ℕ) (cs : List ℕ) (es : List Expression) (a : At) → KeepsOn g (become f cs es) a → (p : Process) → nth g.procs f ≡ some p → length es ≡ p.nums
numbers_become g f cs es a k p h =
    let q = then_open (nth g.procs f) _ (and_right (oks k.0 es) _ k.2) in
    let e = eqb_open (length es) q.0.nums (and_left (eqb (length es) q.0.nums) _ q.2) in
    let r = q.1 in
    let same : q.0 ≡ p = cc in
    e ∙ ap (λ x. x.nums) same

-- what one point says fits what another says
pub data Dual (g : Program) : Point → Point → Type 0 where
  over_over : Dual g over over
  gives_takes : {m n : ℕ} → Mutual g m n → Dual g (gives m) (takes n)
  takes_gives : {m n : ℕ} → Mutual g m n → Dual g (takes m) (gives n)
  chooses_offers : {m n o q : ℕ} → Mutual g m o → Mutual g n q → Dual g (chooses m n) (offers o q)
  offers_chooses : {m n o q : ℕ} → Mutual g m o → Mutual g n q → Dual g (offers m n) (chooses o q)

pub mutual_turn : (g : Program) (x y : ℕ) → Mutual g x y → Mutual g y x
mutual_turn g x y h = (h.1, h.0)

sides_open : (g : Program) (x y : ℕ) → mutual_sides g x y ≡ true → Mutual g x y
sides_open g x y h = (is_open (nth g.other x) y (and_left _ _ h), is_open (nth g.other y) x (and_right _ _ h))

-- what the tests of a point find
pub after_give_is : (p : Point) (n : ℕ) → after_give p ≡ some n → p ≡ gives n
after_give_is p n h = grind arith

pub after_take_is : (p : Point) (n : ℕ) → after_take p ≡ some n → p ≡ takes n
after_take_is p n h = grind arith

pub after_choose_is : (p : Point) (m n : ℕ) → after_choose p ≡ some (ways m n) → p ≡ chooses m n
after_choose_is p m n h = grind arith

pub after_offer_is : (p : Point) (m n : ℕ) → after_offer p ≡ some (ways m n) → p ≡ offers m n
after_offer_is p m n h = grind arith

faces_open : (g : Program) (p q : Point) → faces g p q ≡ true → Dual g p q
faces_open g over q h = rw (is_over_open q h) over_over
faces_open g (gives n) q h =
    let m = then_open (after_take q) (mutual_sides g n) h in
    rw (after_take_is q m.0 m.1) (gives_takes (sides_open g n m.0 m.2))
faces_open g (takes n) q h =
    let m = then_open (after_give q) (mutual_sides g n) h in
    rw (after_give_is q m.0 m.1) (takes_gives (sides_open g n m.0 m.2))
faces_open g (chooses n m) q h = go (then_open (after_offer q) (mutual_ways g n m) h)
  where
    go : (w : Ways) × (after_offer q ≡ some w) × (mutual_ways g n m w ≡ true) → Dual g (chooses n m) q
    go w = with_ways w.0 w.1 w.2
      where
        with_ways : (w : Ways) → after_offer q ≡ some w → mutual_ways g n m w ≡ true → Dual g (chooses n m) q
        with_ways (ways o r) e k = rw (after_offer_is q o r e) (chooses_offers (sides_open g n o (and_left _ _ k)) (sides_open g m r (and_right _ _ k)))
faces_open g (offers n m) q h = go (then_open (after_choose q) (mutual_ways g n m) h)
  where
    go : (w : Ways) × (after_choose q ≡ some w) × (mutual_ways g n m w ≡ true) → Dual g (offers n m) q
    go w = with_ways w.0 w.1 w.2
      where
        with_ways : (w : Ways) → after_choose q ≡ some w → mutual_ways g n m w ≡ true → Dual g (offers n m) q
        with_ways (ways o r) e k = rw (after_choose_is q o r e) (offers_chooses (sides_open g n o (and_left _ _ k)) (sides_open g m r (and_right _ _ k)))

-- the two sides of a point that fit
pub record Fit (g : Program) (x y : ℕ) : Type 0 where
  pub this : Point
  pub that : Point
  pub is_this : nth g.points x ≡ some this
  pub is_that : nth g.points y ≡ some that
  pub dual : Dual g this that

points_open : (g : Program) (i : ℕ) (ps : List Point) → points_fit g i ps ≡ true → (k m : ℕ) (p : Point) → m ≡ i + k → nth ps k ≡ some p →
    (j : ℕ) × Mutual g m j × (q : Point) × (nth g.points j ≡ some q) × Dual g p q
points_open g i [] h k m p e n = grind arith
points_open g i (r ∷ ps) h zero m p e n =
    let j : (j : ℕ) × (nth g.other i ≡ some j) × ((mutual_sides g i j && then (nth g.points j) (faces g r)) ≡ true) = then_open (nth g.other i) (λ j. mutual_sides g i j && then (nth g.points j) (faces g r)) (and_left _ (points_fit g (suc i) ps) h) in
    let q : (q : Point) × (nth g.points j.0 ≡ some q) × (faces g r q ≡ true) = then_open (nth g.points j.0) (faces g r) (and_right (mutual_sides g i j.0) _ j.2) in
    let mi : m ≡ i = omega arith in
    let pr : p ≡ r = cc in
    (j.0, rw mi (sides_open g i j.0 (and_left _ _ j.2)), q.0, q.1, rw pr (faces_open g r q.0 q.2))
points_open g i (r ∷ ps) h (suc k) m p e n = points_open g (suc i) ps (and_right _ (points_fit g (suc i) ps) h) k m p (omega arith) n

all_keep_open : (g : Program) (i : ℕ) (ps : List Process) → all_keep g i ps ≡ true → (f : ℕ) (p : Process) → nth ps f ≡ some p → KeepsOn g p.body (begins p.talks)
all_keep_open g i [] h f p e = grind arith
all_keep_open g i (q ∷ ps) h zero p e =
    let pq : p ≡ q = cc in
    rw pq (q.vars, eqb i 0, and_left _ (all_keep g (suc i) ps) h)
all_keep_open g i (q ∷ ps) h (suc f) p e = all_keep_open g (suc i) ps (and_right _ (all_keep g (suc i) ps) h) f p e

no_length : (ts : List ℕ) → eqb (length ts) 0 ≡ true → ts ≡ []
no_length [] h = refl
no_length (t ∷ ts) h = grind arith

-- What is used of a program that keeps.
pub record Good (g : Program) : Type 0 where
  pub bodies : (f : ℕ) (p : Process) → nth g.procs f ≡ some p → KeepsOn g p.body (begins p.talks)
  pub sides : (x y : ℕ) → nth g.other x ≡ some y → Mutual g x y
  pub fits : (x y : ℕ) → Mutual g x y → Fit g x y
  pub root : (p : Process) → nth g.procs 0 ≡ some p → p.talks ≡ []

pub good : (g : Program) → length g.other ≡ length g.points → kept g ≡ true → Good g
good g len h = record {
  bodies = λ f p e. all_keep_open g 0 g.procs (and_right (points_fit g 0 g.points) _ rest_holds) f p e;
  sides = λ x y e. sides_of x y e;
  fits = λ x y m. fit_of x y m;
  root = λ p e. root_of p e;
}
  where
    rest_holds : (points_fit g 0 g.points && all_keep g 0 g.procs) ≡ true
    rest_holds = and_right (root g) _ h

    point_at : (x y : ℕ) → nth g.other x ≡ some y → (p : Point) × (nth g.points x ≡ some p)
    point_at x y e = let b = nth_below g.other x e in nth_there g.points x (omega arith)

    fit_at : (x y : ℕ) (e : nth g.other x ≡ some y) → (j : ℕ) × Mutual g x j × (q : Point) × (nth g.points j ≡ some q) × Dual g (point_at x y e).0 q
    fit_at x y e = points_open g 0 g.points (and_left _ (all_keep g 0 g.procs) rest_holds) x x (point_at x y e).0 (omega arith) (point_at x y e).1

    same_side : (x y : ℕ) (e : nth g.other x ≡ some y) → (fit_at x y e).0 ≡ y
    same_side x y e = let m = (fit_at x y e).1.0 in cc

    sides_of : (x y : ℕ) → nth g.other x ≡ some y → Mutual g x y
    sides_of x y e = rw (same_side x y e) at (fit_at x y e).1

    fit_of : (x y : ℕ) → Mutual g x y → Fit g x y
    fit_of x y m = record { this = (point_at x y m.0).0; that = (fit_at x y m.0).2; is_this = (point_at x y m.0).1; is_that = rw (same_side x y m.0) at (fit_at x y m.0).3; dual = (fit_at x y m.0).4 }

    root_of : (p : Process) → nth g.procs 0 ≡ some p → p.talks ≡ []
    root_of p e =
        let q : (q : Process) × (nth g.procs 0 ≡ some q) × ((eqb (length q.talks) 0 && eqb q.nums 0) ≡ true) = then_open (nth g.procs 0) (λ p. eqb (length p.talks) 0 && eqb p.nums 0) (and_left (root g) _ h) in
        let qe = q.1 in
        let pq : p ≡ q.0 = cc in
        rw pq (no_length q.0.talks (and_left _ _ q.2))

dual_over : (g : Program) (p q : Point) → Dual g p q → q ≡ over → p ≡ over
dual_over g p q over_over h = refl
dual_over g p q (gives_takes m) h = grind arith
dual_over g p q (takes_gives m) h = grind arith
dual_over g p q (chooses_offers m n) h = grind arith
dual_over g p q (offers_chooses m n) h = grind arith

-- where one side is not over, the other side is not
pub not_over_turn : (g : Program) → Good g → (x y : ℕ) → Mutual g x y → (nth g.points x ≡ some over → ⊥) → nth g.points y ≡ some over → ⊥
not_over_turn g gd x y m n h =
    let f = gd.fits x y m in
    let p = f.is_that in
    let q : f.that ≡ over = cc in
    n (f.is_this ∙ ap some (dual_over g f.this f.that f.dual q))
