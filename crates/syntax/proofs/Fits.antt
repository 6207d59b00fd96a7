-- What both sides of protocols are, from what was written of each.
use Rattle.std.proofs.Common.{◌≡◌, ℕ, ◌+◌, ◌<◌, true, false, ◌&&◌, ltb, List, [], ◌++◌, map, length, sym, ap, ◌∙◌, subst, arith}
use Rattle.model.specs.Keeps.{points_fit}
use Rattle.model.specs.Program as model
use Rattle.std.proofs.lemmas.Bool.Decides.{nat_tests}
use Rattle.syntax.proofs.Added.{append_after}
use Rattle.syntax.proofs.Flat.{length_points}
use Rattle.syntax.proofs.Mirror.{both_others, both_points, mirror_fits}
use Rattle.syntax.specs.Meaning.{points_of}
use Rattle.syntax.specs.Mirror.{BothSides, all_below, from, mirror}
use Rattle.syntax.specs.declared.tree.Point.{Point}

pub too_many : (xs : List Point) → 128 < length xs → (ltb (length (points_of xs)) 129 && all_below (length (points_of xs) + length (points_of xs)) (points_of xs)) ≡ false
too_many xs l =
    let e = length_points xs in
    let k : ltb (length (points_of xs)) 129 ≡ false = grind (arith, nat_tests) in
    rw k

pub astray : (xs : List Point) → all_below (length xs + length xs) (points_of xs) ≡ false → (ltb (length (points_of xs)) 129 && all_below (length (points_of xs) + length (points_of xs)) (points_of xs)) ≡ false
astray xs l =
    let k : all_below (length (points_of xs) + length (points_of xs)) (points_of xs) ≡ false = subst (λ n. all_below (n + n) (points_of xs) ≡ false) (sym (length_points xs)) l in
    grind (arith, nat_tests)

both_sides : (near points : List model.Point) (other : List ℕ) → all_below (length near + length near) near ≡ true → points ≡ both_points near → other ≡ both_others near → BothSides near points other
both_sides near points other fine p o =
    let P : List model.Point → List ℕ → Type 0 = λ ps os. (procs : List model.Process) → points_fit (record { points = ps; other = os; procs = procs }) 0 ps ≡ true in
    record {
      sides = p;
      others = o;
      fit = subst (λ os. P points os) (sym o) (subst (λ ps. P ps (both_others near)) (sym p) (λ procs. mirror_fits near procs fine));
    }

pub made_sides : (xs e ps : List Point) (o0 o1 o2 : List ℕ) → all_below (length xs + length xs) (points_of xs) ≡ true → e ≡ xs → points_of ps ≡ points_of e ++ map (mirror (length xs)) (points_of xs) → o0 ≡ [] → o1 ≡ o0 ++ from (length xs) (length xs) → o2 ≡ o1 ++ from 0 (length xs) → BothSides (points_of xs) (points_of ps) o2
made_sides xs e ps o0 o1 o2 fine copied mirrored none first second =
    let n : length xs ≡ length (points_of xs) = sym (length_points xs) in
    let p : points_of ps ≡ both_points (points_of xs) = subst (λ h. points_of ps ≡ points_of xs ++ map (mirror h) (points_of xs)) n (mirrored ∙ ap (λ ys. points_of ys ++ map (mirror (length xs)) (points_of xs)) copied) in
    let first' : o1 ≡ [] ++ from (length xs) (length xs) = first ∙ ap (λ o. o ++ from (length xs) (length xs)) none in
    let o : o2 ≡ both_others (points_of xs) = subst (λ h. o2 ≡ from h h ++ from 0 h) n (append_after [] o1 o2 (from (length xs) (length xs)) (from 0 (length xs)) first' second) in
    both_sides (points_of xs) (points_of ps) o2 (subst (λ h. all_below (h + h) (points_of xs) ≡ true) n fine) p o
