-- What the loops keep that give ends and numbers to a record, or take conversations from it.
use Rattle.std.proofs.Common.{◌≡◌, ℕ, ◌+◌, ◌<◌, ◌≤◌, List, [], ◌∷◌, ◌++◌, length, get_or, take, map, None, Option as Maybe, sym, refl, ap, ◌∙◌, append_assoc, append-nil, add-one, arith, length-append, length-take, take-suc}
use Rattle.std.proofs.lemmas.List.{map-append, length-map}
use mathlib.Core.Option.{Option, none}
use Rattle.model.specs.Program.{put}
use Rattle.model.specs.Steps.{Endpoint, without}
use Rattle.records.specs.declared.process.End.{End}
use Rattle.records.specs.Records.{Record, viewed, with_end, with_number, cleared}
use Rattle.evaluation.specs.Handing.{with_ends, with_numbers, taken_from}

-- one more of what is taken from a list
taken_more : {A : Type 0} (l : List A) (k : ℕ) (d : A) → k < length l → take (k + 1) l ≡ take k l ++ (get_or l k d ∷ [])
taken_more l k d lt = ap (λ n. take n l) (add-one k) ∙ take-suc l k d lt

pub ends_more : (r : Record) (l : List (Maybe End)) (k : ℕ) → k < length l → with_end (with_ends r (map viewed (take k l))) (viewed (get_or l k None)) ≡ with_ends r (map viewed (take (k + 1) l))
ends_more r l k lt =
    ap (λ es. record { place = r.place; left = r.left; state = r.state; vars = r.vars; ends = es })
    (append_assoc r.ends (map viewed (take k l)) (viewed (get_or l k None) ∷ []) ∙
    ap (λ y. r.ends ++ y) (sym (map-append viewed (take k l) (get_or l k None ∷ [])) ∙ ap (map viewed) (sym (taken_more l k None lt))))

pub ends_few : (r : Record) (l : List (Maybe End)) (k : ℕ) → k < length l → length r.ends + length l ≤ 16 → length (with_ends r (map viewed (take k l))).ends < 16
ends_few r l k lt few =
    let a = length-append r.ends (map viewed (take k l)) in
    let b = length-map (take k l) viewed in
    let c = length-take k l in
    omega arith

pub numbers_more : (r : Record) (l : List ℕ) (k : ℕ) → k < length l → with_number (with_numbers r (take k l)) (get_or l k 0) ≡ with_numbers r (take (k + 1) l)
numbers_more r l k lt =
    ap (λ ns. record { place = r.place; left = r.left; state = r.state; vars = ns; ends = r.ends })
    (append_assoc r.vars (take k l) (get_or l k 0 ∷ []) ∙ ap (λ y. r.vars ++ y) (sym (taken_more l k 0 lt)))

pub numbers_few : (r : Record) (l : List ℕ) (k : ℕ) → k < length l → length r.vars + length l ≤ 16 → length (with_numbers r (take k l)).vars < 16
numbers_few r l k lt few =
    let a = length-append r.vars (take k l) in
    let c = length-take k l in
    omega arith

without_append : (es : List (Option Endpoint)) (xs ys : List ℕ) → without es (xs ++ ys) ≡ without (without es xs) ys
without_append es [] ys = refl
without_append es (x ∷ xs) ys = without_append (put es x none) xs ys

pub clears_more : (r : Record) (l : List ℕ) (k : ℕ) → k < length l → cleared (taken_from r (take k l)) (get_or l k 0) ≡ taken_from r (take (k + 1) l)
clears_more r l k lt =
    ap (λ es. record { place = r.place; left = r.left; state = r.state; vars = r.vars; ends = es })
    (sym (without_append r.ends (take k l) (get_or l k 0 ∷ [])) ∙ ap (without r.ends) (sym (taken_more l k 0 lt)))

-- nothing given yet
pub ends_none : (r : Record) → r ≡ with_ends r []
ends_none r = ap (λ es. record { place = r.place; left = r.left; state = r.state; vars = r.vars; ends = es }) (sym (append-nil r.ends))

pub numbers_none : (r : Record) → r ≡ with_numbers r []
numbers_none r = ap (λ ns. record { place = r.place; left = r.left; state = r.state; vars = ns; ends = r.ends }) (sym (append-nil r.vars))
