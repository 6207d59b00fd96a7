-- Steps of the loops that write the other side of protocols.
use Rattle.std.proofs.Common.{◌≡◌, ℕ, zero, suc, ◌+◌, ◌<◌, true, false, List, [], ◌∷◌, ◌++◌, map, length, get_or, take, sym, ap, ◌∙◌, append_assoc, add-one, arith}
use mathlib.Core.List.{map-append}
use Rattle.model.specs.Program as model
use Rattle.std.proofs.lemmas.List.{take_more}
use Rattle.std.proofs.lemmas.Bool.Decides.{nat_tests}
use Rattle.syntax.proofs.Added.{append_after}
use Rattle.syntax.specs.Meaning.{point_of, points_of}
use Rattle.syntax.specs.Mirror.{all_below, below, from, mirror}
use Rattle.syntax.specs.declared.tree.Point.{Point}

all_below_snoc : (n : ℕ) (ps : List model.Point) (p : model.Point) → all_below n ps ≡ true → below n p ≡ true → all_below n (ps ++ (p ∷ [])) ≡ true
all_below_snoc n [] p a b = rw b
all_below_snoc n (q ∷ ps) p a b =
    let k = all_below_snoc n ps p (grind (arith, nat_tests)) b in
    let l : below n q ≡ true = grind (arith, nat_tests) in
    rw (l, k)

points_of_more : (xs : List Point) (i : ℕ) (d : Point) → i < length xs → points_of (take (i + 1) xs) ≡ points_of (take i xs) ++ (point_of (get_or xs i d) ∷ [])
points_of_more xs i d l = ap points_of (take_more xs i d l) ∙ map-append point_of (take i xs) (get_or xs i d ∷ [])

pub below_more : (n : ℕ) (xs : List Point) (i : ℕ) (d : Point) → i < length xs → all_below n (points_of (take i xs)) ≡ true → below n (point_of (get_or xs i d)) ≡ true → all_below n (points_of (take (i + 1) xs)) ≡ true
below_more n xs i d l a b = ap (all_below n) (points_of_more xs i d l) ∙ all_below_snoc n (points_of (take i xs)) (point_of (get_or xs i d)) a b

pub below_not : (n : ℕ) (xs : List Point) (i : ℕ) (d : Point) → i < length xs → below n (point_of (get_or xs i d)) ≡ false → all_below n (points_of xs) ≡ false
below_not n [] i d l b = absurd (omega arith)
below_not n (x ∷ xs) zero d l b = rw b
below_not n (x ∷ xs) (suc i) d l b = let k = below_not n xs i d (omega arith) b in grind (arith, nat_tests)

pub mirrored_more : (h : ℕ) (xs : List Point) (i : ℕ) (d : Point) (o b c : List Point) (y : Point) → i < length xs → points_of b ≡ points_of o ++ map (mirror h) (points_of (take i xs)) → point_of y ≡ mirror h (point_of (get_or xs i d)) → c ≡ b ++ (y ∷ []) → points_of c ≡ points_of o ++ map (mirror h) (points_of (take (i + 1) xs))
mirrored_more h xs i d o b c y l inv is pushed =
    let m : map (mirror h) (points_of (take (i + 1) xs)) ≡ map (mirror h) (points_of (take i xs)) ++ (mirror h (point_of (get_or xs i d)) ∷ []) = ap (map (mirror h)) (points_of_more xs i d l) ∙ map-append (mirror h) (points_of (take i xs)) (point_of (get_or xs i d) ∷ []) in
    let e : points_of c ≡ points_of b ++ (point_of y ∷ []) = ap points_of pushed ∙ map-append point_of b (y ∷ []) in
    e ∙ (ap (λ z. z ++ (point_of y ∷ [])) inv ∙ (append_assoc (points_of o) (map (mirror h) (points_of (take i xs))) (point_of y ∷ []) ∙ ap (λ z. points_of o ++ z) (ap (λ z. map (mirror h) (points_of (take i xs)) ++ (z ∷ [])) is ∙ sym m)))

from_snoc : (b n : ℕ) → from b (suc n) ≡ from b n ++ ((b + n) ∷ [])
from_snoc b zero = let e : b ≡ b + 0 = omega arith in ap (λ x. x ∷ []) e
from_snoc b (suc n) =
    let e : suc b + n ≡ b + suc n = omega arith in
    ap (λ r. b ∷ r) (from_snoc (suc b) n ∙ ap (λ x. from (suc b) n ++ (x ∷ [])) e)

pub from_more : (b n : ℕ) (o p q : List ℕ) → p ≡ o ++ from b n → q ≡ p ++ ((b + n) ∷ []) → q ≡ o ++ from b (n + 1)
from_more b n o p q inv pushed =
    append_after o p q (from b n) ((b + n) ∷ []) inv pushed ∙ ap (λ r. o ++ r) (sym (from_snoc b n) ∙ ap (from b) (sym (add-one n)))
