-- The points of two sides of which one is the mirror of the other fit.
use Rattle.std.proofs.Common.{◌≡◌, ℕ, zero, suc, ◌+◌, ◌-◌, ◌<◌, ◌≤◌, Bool, true, false, ◌&&◌, ltb, List, [], ◌∷◌, ◌++◌, map, length, sym, refl, ap, ◌∙◌, subst, add-zero, zero-add, arith, length-append}
use mathlib.Core.Option.{Option, some}
use lib.ListN.{length-map}
use Rattle.std.proofs.lemmas.Bool.Decides.{nat_tests}
use Rattle.model.specs.Keeps.{points_fit, mutual_sides, faces, then}
use Rattle.model.specs.Program.{nth, Point, over, gives, takes, chooses, offers, Process, Program}
use Rattle.syntax.specs.Mirror.{across, mirror, below, all_below, from}

pub nth_append_left : {A : Type 0} (xs ys : List A) (i : ℕ) → i < length xs → nth (xs ++ ys) i ≡ nth xs i
nth_append_left [] ys i l = absurd (omega arith)
nth_append_left (x ∷ xs) ys zero l = refl
nth_append_left (x ∷ xs) ys (suc i) l = nth_append_left xs ys i (omega arith)

pub nth_append_right : {A : Type 0} (xs ys : List A) (i : ℕ) → nth (xs ++ ys) (length xs + i) ≡ nth ys i
nth_append_right [] ys i = ap (nth ys) (zero-add i)
nth_append_right (x ∷ xs) ys i =
    let e : suc (length xs) + i ≡ suc (length xs + i) = omega arith in
    ap (nth (x ∷ (xs ++ ys))) e ∙ nth_append_right xs ys i

pub nth_from : (b n i : ℕ) → i < n → nth (from b n) i ≡ some (b + i)
nth_from b zero i l = absurd (omega arith)
nth_from b (suc n) zero l = ap some (sym (add-zero b))
nth_from b (suc n) (suc i) l =
    let e : suc b + i ≡ b + suc i = omega arith in
    nth_from (suc b) n i (omega arith) ∙ ap some e

pub length_from : (b n : ℕ) → length (from b n) ≡ n
length_from b zero = refl
length_from b (suc n) = ap suc (length_from (suc b) n)

-- an element that is there is at a place below the length
pub nth_below : {A : Type 0} (xs : List A) (i : ℕ) {x : A} → nth xs i ≡ some x → i < length xs
nth_below [] i e = grind arith
nth_below (y ∷ xs) zero e = omega arith
nth_below (y ∷ xs) (suc i) e = let h = nth_below xs i e in omega arith

pub nth_map : {A B : Type 0} (f : A → B) (xs : List A) (i : ℕ) {x : A} → nth xs i ≡ some x → nth (map f xs) i ≡ some (f x)
nth_map f [] i e = grind arith
nth_map f (y ∷ xs) zero e = grind arith
nth_map f (y ∷ xs) (suc i) e = nth_map f xs i e

-- what a mapped list has at a place comes from what the list has there
pub nth_unmap : {A B : Type 0} (f : A → B) (xs : List A) (i : ℕ) {y : B} → nth (map f xs) i ≡ some y → (x : A) × ((nth xs i ≡ some x) × (y ≡ f x))
nth_unmap f [] i e = absurd (grind arith)
nth_unmap f (x ∷ xs) zero e = (x, (refl, grind arith))
nth_unmap f (x ∷ xs) (suc i) e = nth_unmap f xs i e

pub nth_all_below : (n : ℕ) (ps : List Point) (i : ℕ) {p : Point} → all_below n ps ≡ true → nth ps i ≡ some p → below n p ≡ true
nth_all_below n [] i h e = absurd (grind arith)
nth_all_below n (q ∷ ps) zero h e = grind (arith, nat_tests)
nth_all_below n (q ∷ ps) (suc i) h e = nth_all_below n ps i (grind (arith, nat_tests)) e

across_near : (h n : ℕ) → n < h → across h n ≡ n + h
across_near h n l = grind (arith, nat_tests)

across_far : (h n : ℕ) → h ≤ n → across h n ≡ n - h
across_far h n l = grind (arith, nat_tests)

-- the other side is there, and its other side is this one
pub across_below : (h n : ℕ) → n < h + h → across h n < h + h
across_below h n l = grind (arith, nat_tests)

pub across_across : (h n : ℕ) → n < h + h → across h (across h n) ≡ n
across_across h n l = grind (arith, nat_tests)

pub mirror_below : (h : ℕ) (p : Point) → below (h + h) p ≡ true → below (h + h) (mirror h p) ≡ true
mirror_below h over b = refl
mirror_below h (gives n) b = let k = across_below h n (grind (arith, nat_tests)) in grind (arith, nat_tests)
mirror_below h (takes n) b = let k = across_below h n (grind (arith, nat_tests)) in grind (arith, nat_tests)
mirror_below h (chooses n m) b =
    let k = across_below h n (grind (arith, nat_tests)) in
    let l = across_below h m (grind (arith, nat_tests)) in
    grind (arith, nat_tests)
mirror_below h (offers n m) b =
    let k = across_below h n (grind (arith, nat_tests)) in
    let l = across_below h m (grind (arith, nat_tests)) in
    grind (arith, nat_tests)

pub mirror_mirror : (h : ℕ) (p : Point) → below (h + h) p ≡ true → mirror h (mirror h p) ≡ p
mirror_mirror h over b = refl
mirror_mirror h (gives n) b = ap gives (across_across h n (grind (arith, nat_tests)))
mirror_mirror h (takes n) b = ap takes (across_across h n (grind (arith, nat_tests)))
mirror_mirror h (chooses n m) b =
    let k = across_across h n (grind (arith, nat_tests)) in
    let l = across_across h m (grind (arith, nat_tests)) in
    cc
mirror_mirror h (offers n m) b =
    let k = across_across h n (grind (arith, nat_tests)) in
    let l = across_across h m (grind (arith, nat_tests)) in
    cc

-- the points and the other sides of protocols written from one side
abbrev pub both_points : List Point → List Point
both_points near = near ++ map (mirror (length near)) near

abbrev pub both_others : List Point → List ℕ
both_others near = from (length near) (length near) ++ from 0 (length near)

pub other_at : (near : List Point) (i : ℕ) → i < length near + length near → nth (both_others near) i ≡ some (across (length near) i)
other_at near i l = go (ltb i (length near)) refl
  where
    go : (b : Bool) → ltb i (length near) ≡ b → nth (both_others near) i ≡ some (across (length near) i)
    go true e =
        let k : i < length near = grind (arith, nat_tests) in
        let k' : i < length (from (length near) (length near)) = rw length_from k in
        nth_append_left (from (length near) (length near)) (from 0 (length near)) i k' ∙ (nth_from (length near) (length near) i k ∙ ap some (omega (arith, across_near (length near) i k)))
    go false e =
        let k : length near ≤ i = grind (arith, nat_tests) in
        let j : ℕ = i - length near in
        let m : i ≡ length (from (length near) (length near)) + j = rw length_from (omega arith) in
        let r = nth_append_right (from (length near) (length near)) (from 0 (length near)) j in
        ap (nth (both_others near)) m ∙ (r ∙ (nth_from 0 (length near) j (omega arith) ∙ ap some (omega (arith, across_far (length near) i k))))

pub length_both : (near : List Point) → length (both_points near) ≡ length near + length near
length_both near = length-append near (map (mirror (length near)) near) ∙ ap (λ n. length near + n) (length-map near (mirror (length near)))

-- across the line stands the mirror
pub mirror_at : (near : List Point) (i : ℕ) {p : Point} → all_below (length near + length near) near ≡ true → nth (both_points near) i ≡ some p → (nth (both_points near) (across (length near) i) ≡ some (mirror (length near) p)) × (below (length near + length near) p ≡ true)
mirror_at near i {p} fine e = go (ltb i (length near)) refl
  where
    go : (b : Bool) → ltb i (length near) ≡ b → (nth (both_points near) (across (length near) i) ≡ some (mirror (length near) p)) × (below (length near + length near) p ≡ true)
    go true t =
        let k : i < length near = grind (arith, nat_tests) in
        let at : nth near i ≡ some p = sym (nth_append_left near (map (mirror (length near)) near) i k) ∙ e in
        let m : across (length near) i ≡ length near + i = omega (arith, across_near (length near) i k) in
        (ap (nth (both_points near)) m ∙ (nth_append_right near (map (mirror (length near)) near) i ∙ nth_map (mirror (length near)) near i at), nth_all_below (length near + length near) near i fine at)
    go false t =
        let k : length near ≤ i = grind (arith, nat_tests) in
        let j : ℕ = i - length near in
        let m : i ≡ length near + j = omega arith in
        let at : nth (map (mirror (length near)) near) j ≡ some p = sym (nth_append_right near (map (mirror (length near)) near) j) ∙ (ap (nth (both_points near)) (sym m) ∙ e) in
        let q = nth_unmap (mirror (length near)) near j at in
        let b : below (length near + length near) q.0 ≡ true = nth_all_below (length near + length near) near j fine q.1.0 in
        let l : j < length near = nth_below near j q.1.0 in
        let n : across (length near) i ≡ j = across_far (length near) i k in
        let back : q.0 ≡ mirror (length near) p = sym (ap (mirror (length near)) q.1.1 ∙ mirror_mirror (length near) q.0 b) in
        (ap (nth (both_points near)) n ∙ (nth_append_left near (map (mirror (length near)) near) j l ∙ (q.1.0 ∙ ap some back)), subst (λ x. below (length near + length near) x ≡ true) (sym q.1.1) (mirror_below (length near) q.0 b))

-- the program of these points
abbrev pub both_program : List Point → List Process → Program
both_program near procs = record { points = both_points near; other = both_others near; procs = procs }

pub across_mutual : (near : List Point) (procs : List Process) (i : ℕ) → i < length near + length near → mutual_sides (both_program near procs) i (across (length near) i) ≡ true
across_mutual near procs i l =
    let a = other_at near i l in
    let b = other_at near (across (length near) i) (across_below (length near) i l) ∙ ap some (across_across (length near) i l) in
    rw (a, b) (grind (arith, nat_tests))

pub mirror_faces : (near : List Point) (procs : List Process) (p : Point) → below (length near + length near) p ≡ true → faces (both_program near procs) p (mirror (length near) p) ≡ true
mirror_faces near procs over b = refl
mirror_faces near procs (gives n) b = across_mutual near procs n (grind (arith, nat_tests))
mirror_faces near procs (takes n) b = across_mutual near procs n (grind (arith, nat_tests))
mirror_faces near procs (chooses n m) b =
    rw (across_mutual near procs n (grind (arith, nat_tests)), across_mutual near procs m (grind (arith, nat_tests)))
mirror_faces near procs (offers n m) b =
    rw (across_mutual near procs n (grind (arith, nat_tests)), across_mutual near procs m (grind (arith, nat_tests)))

then_true : {A : Type 0} (o : Option A) (x : A) (k : A → Bool) → o ≡ some x → k x ≡ true → then o k ≡ true
then_true o x k e t = rw e t

both_true : (a b : Bool) → a ≡ true → b ≡ true → (a && b) ≡ true
both_true a b p q = rw (p, q)

-- a point's other side fits it
abbrev pub fits_at : Program → ℕ → Point → Bool
fits_at g i p = then (nth g.other i) (λ j. mutual_sides g i j && then (nth g.points j) (faces g p))

pub mirror_fits_at : (near : List Point) (procs : List Process) (i : ℕ) {p : Point} → all_below (length near + length near) near ≡ true → nth (both_points near) i ≡ some p → fits_at (both_program near procs) i p ≡ true
mirror_fits_at near procs i {p} fine e =
    let n : length (both_points near) ≡ length near + length near = length_both near in
    let l : i < length near + length near = omega (arith, nth_below (both_points near) i e) in
    let m = mirror_at near i fine e in
    let g = both_program near procs in
    let c = across (length near) i in
    then_true (nth g.other i) c (λ j. mutual_sides g i j && then (nth g.points j) (faces g p)) (other_at near i l) (both_true (mutual_sides g i c) (then (nth g.points c) (faces g p)) (across_mutual near procs i l) (then_true (nth g.points c) (mirror (length near) p) (faces g p) m.0 (mirror_faces near procs p m.1)))

-- where each point from number k on has another side that fits, they fit
pub points_fit_each : (g : Program) (k : ℕ) (ps : List Point) → ((j : ℕ) (p : Point) → nth ps j ≡ some p → fits_at g (k + j) p ≡ true) → points_fit g k ps ≡ true
points_fit_each g k [] each = refl
points_fit_each g k (p ∷ ps) each =
    let here : fits_at g k p ≡ true = subst (λ i. fits_at g i p ≡ true) (add-zero k) (each 0 p refl) in
    let rest = points_fit_each g (suc k) ps (λ j q e. subst (λ i. fits_at g i q ≡ true) (omega arith) (each (suc j) q e)) in
    rw (here, rest)

-- The points of both sides fit, whichever processes there are.
pub mirror_fits : (near : List Point) (procs : List Process) → all_below (length near + length near) near ≡ true → points_fit (both_program near procs) 0 (both_points near) ≡ true
mirror_fits near procs fine =
    points_fit_each (both_program near procs) 0 (both_points near) (λ j p e. mirror_fits_at near procs (0 + j) fine (ap (nth (both_points near)) (zero-add j) ∙ e))
