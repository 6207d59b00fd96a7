-- What the loops over handed numbers and conversations keep.
use Rattle.std.proofs.Common.{◌≡◌, ℕ, zero, suc, ◌+◌, ◌<◌, ◌≤◌, max, ◌≢◌, List, [], ◌∷◌, ◌++◌, length, get_or, drop, map, set, None, Option as Maybe, sym, refl, ap, ◌∙◌, append_assoc, append-nil, add-one, arith, take, take-suc, take_all, ◌-◌, length-append, length-take, length-set, get_or-set_other, get_or-set_same}
use Rattle.std.proofs.lemmas.List.{get_or_append_left, get_or-append_right}
use mathlib.Core.Option.{Option}
use Rattle.model.specs.Program.{Expression, values}
use Rattle.model.specs.Steps.{Endpoint, pad, end, ends_of}
use Rattle.model.specs.Rows.{row_e, row_es, deep_es}
use Rattle.records.specs.declared.process.End.{End}
use Rattle.records.specs.Tables.{table}
use Rattle.records.specs.Records.{viewed}
use Rattle.records.proofs.TableLaws.{table_same, table_snoc, take_table, map_table}
use Rattle.evaluation.specs.declared.expressions.Valued.{Valued}
use Rattle.evaluation.specs.declared.handed.Numbers.{Numbers}
use Rattle.evaluation.specs.declared.handed.Ends.{Ends}
use Rattle.evaluation.specs.Values.{Evaluates}
use Rattle.evaluation.specs.Handing.{NumbersAre, Numbered, listed, ends_in, numbers_in}

-- padding a table whose function is 0 behind it
pub pad_table : (f : ℕ → ℕ) (b n m : ℕ) → ((j : ℕ) → b + n ≤ j → f j ≡ 0) → pad m (table f b n) ≡ table f b (max n m)
pad_table f b n zero h = let z : n ≡ max n 0 = omega arith in ap (table f b) z
pad_table f b zero (suc m) h =
    let e = h b (omega arith) in
    let t = pad_table f (suc b) 0 m (λ j p. h j (omega arith)) in
    let z1 : max 0 (suc m) ≡ suc m = omega arith in
    let z2 : max 0 m ≡ m = omega arith in
    let t2 = ap (table f (suc b)) z2 in
    let t1 = ap (table f b) z1 in
    cc
pad_table f b (suc n) (suc m) h =
    let t = pad_table f (suc b) n m (λ j p. h j (omega arith)) in
    let z : max (suc n) (suc m) ≡ suc (max n m) = omega arith in
    let t1 = ap (table f b) z in
    cc

-- a list of zeros
abbrev pub sixteen : List ℕ
sixteen = 0 ∷ 0 ∷ 0 ∷ 0 ∷ 0 ∷ 0 ∷ 0 ∷ 0 ∷ 0 ∷ 0 ∷ 0 ∷ 0 ∷ 0 ∷ 0 ∷ 0 ∷ 0 ∷ []

-- a list of zeros has no other element
pub data Zeros : List ℕ → Type 0 where
  none : Zeros []
  more : {l : List ℕ} → Zeros l → Zeros (0 ∷ l)

pub get_or_zeros : (l : List ℕ) → Zeros l → (j : ℕ) → get_or l j 0 ≡ 0
get_or_zeros l none j = refl
get_or_zeros l (more z) zero = refl
get_or_zeros l (more z) (suc j) = get_or_zeros _ z j

zeros_taken : (n : ℕ) (l : List ℕ) → Zeros l → Zeros (take n l)
zeros_taken zero l z = none
zeros_taken (suc n) l none = none
zeros_taken (suc n) l (more z) = more (zeros_taken n _ z)

zeros_dropped : (n : ℕ) (l : List ℕ) → Zeros l → Zeros (drop n l)
zeros_dropped zero l z = z
zeros_dropped (suc n) l none = none
zeros_dropped (suc n) l (more z) = zeros_dropped n _ z

pub zeros : Zeros sixteen
zeros = more (more (more (more (more (more (more (more (more (more (more (more (more (more (more (more none)))))))))))))))

-- k of the numbers es have been put into vals, which has room for n, and the rest stands from place here on
pub record Rest (s vs : List ℕ) (at d n : ℕ) (es : List Expression) (x : List ℕ) (k : ℕ) (vals : List ℕ) (here : ℕ) : Type 0 where
  pub them : List Expression
  pub many : k + length them ≡ n
  pub rows : drop here s ≡ row_es them ++ x
  pub deep : deep_es them ≤ d
  pub made : values vs es ≡ table (λ j. get_or vals j 0) 0 k ++ values vs them
  pub ends : here + length (row_es them) ≡ at + length (row_es es)

pub record Going (s vs : List ℕ) (at d n k : ℕ) (vals : List ℕ) (here : ℕ) : Type 0 where
  pub long : length vals ≡ n
  pub zeros : (j : ℕ) → k ≤ j → get_or vals j 0 ≡ 0
  pub within : at ≤ length s → here ≤ length s
  pub rest : (es : List Expression) (x : List ℕ) → length es ≡ n → drop at s ≡ row_es es ++ x → deep_es es ≤ d → Rest s vs at d n es x k vals here

module _ (s vs : List ℕ) (at d n : ℕ) where
  pub going_none : n ≤ 16 → Going s vs at d n 0 (take n sixteen) at
  going_none few = record {
    long = length-take n sixteen ∙ (omega arith);
    zeros = λ j p. get_or_zeros (take n sixteen) (zeros_taken n sixteen zeros) j;
    within = λ h. h;
    rest = λ es x m r p. record { them = es; many = omega arith; rows = r; deep = p; made = refl; ends = refl };
  }

  rest_more : (es : List Expression) (x : List ℕ) (k here : ℕ) (vals : List ℕ) (v : Valued) → length vals ≡ n → k < n → Evaluates s vs here d v →
      Rest s vs at d n es x k vals here → Rest s vs at d n es x (k + 1) (set vals k v.value) v.next
  rest_more es x k here vals v l lt ev g = go g.them g.many g.rows g.deep g.made g.ends
    where
      go : (fs : List Expression) → k + length fs ≡ n → drop here s ≡ row_es fs ++ x → deep_es fs ≤ d → values vs es ≡ table (λ j. get_or vals j 0) 0 k ++ values vs fs →
          here + length (row_es fs) ≡ at + length (row_es es) → Rest s vs at d n es x (k + 1) (set vals k v.value) v.next
      go [] m r p q o = absurd (omega arith)
      go (f ∷ fs) m r p q o =
          let e = ev f (row_es fs ++ x) (r ∙ append_assoc (row_e f) (row_es fs) x) (omega arith) in
          let la = length-append (row_e f) (row_es fs) in
          let e1 = e.ends in
          let e2 = e.value in
          let G : ℕ → ℕ = λ j. get_or (set vals k v.value) j 0 in
          let F : ℕ → ℕ = λ j. get_or vals j 0 in
          let z : 0 + k ≡ k = omega arith in
          let g0 : G (0 + k) ≡ v.value = ap G z ∙ get_or-set_same vals k v.value 0 (omega arith) in
          let t0 : table G 0 (k + 1) ≡ table G 0 (suc k) = ap (table G 0) (add-one k) in
          let t1 = table_snoc G 0 k in
          let t2 : table G 0 k ≡ table F 0 k = table_same F G 0 k (λ j y w. let ne : j ≢ k = omega arith in get_or-set_other vals k j v.value 0 ne) in
          let t3 : table G 0 (k + 1) ≡ table F 0 k ++ (v.value ∷ []) = cc in
          record {
            them = fs;
            many = omega arith;
            rows = e.rest;
            deep = omega arith;
            made = q ∙ (ap (λ y. table F 0 k ++ (y ∷ values vs fs)) (sym e2) ∙ (sym (append_assoc (table F 0 k) (v.value ∷ []) (values vs fs)) ∙ ap (λ y. y ++ values vs fs) (sym t3)));
            ends = omega arith;
          }

  pub going_more : (k here : ℕ) (vals : List ℕ) (v : Valued) → k < n → Evaluates s vs here d v → (here ≤ length s → v.next ≤ length s) → Going s vs at d n k vals here → Going s vs at d n (k + 1) (set vals k v.value) v.next
  going_more k here vals v lt ev wi g = record {
    within = λ h. wi (g.within h);
    long = length-set vals k v.value ∙ g.long;
    zeros = λ j p. let ne : j ≢ k = omega arith in get_or-set_other vals k j v.value 0 ne ∙ g.zeros j (omega arith);
    rest = λ es x m r p. rest_more es x k here vals v g.long lt ev (g.rest es x m r p);
  }

  -- where all are made, zeros stand behind them
  pub going_all : (k here : ℕ) (vals : List ℕ) → k ≡ n → Going s vs at d n k vals here → Numbered s vs at d n (record { values = vals ++ drop n sixteen; next = here })
  going_all k here vals is g es x m r p = go (g.rest es x m r p).them (g.rest es x m r p).many (g.rest es x m r p).rows (g.rest es x m r p).made (g.rest es x m r p).ends
    where
      all : List ℕ
      all = vals ++ drop n sixteen

      beyond : (j : ℕ) → n ≤ j → get_or all j 0 ≡ 0
      beyond j q =
          let l = g.long in
          get_or-append_right vals (drop n sixteen) n j 0 l q ∙ get_or_zeros (drop n sixteen) (zeros_dropped n sixteen zeros) (j - n)

      go : (fs : List Expression) → k + length fs ≡ n → drop here s ≡ row_es fs ++ x → values vs es ≡ table (λ j. get_or vals j 0) 0 k ++ values vs fs →
          here + length (row_es fs) ≡ at + length (row_es es) → NumbersAre s vs at es x (record { values = vals ++ drop n sixteen; next = here })
      go (f ∷ fs) a r b o = absurd (omega arith)
      go [] a r b o =
          let l = g.long in
          let z : k ≡ length es = omega arith in
          let t : table (λ j. get_or vals j 0) 0 k ++ [] ≡ table (λ j. get_or vals j 0) 0 (length es) = append-nil (table (λ j. get_or vals j 0) 0 k) ∙ ap (table (λ j. get_or vals j 0) 0) z in
          let u : table (λ j. get_or vals j 0) 0 (length es) ≡ table (λ j. get_or all j 0) 0 (length es) = table_same (λ j. get_or all j 0) (λ j. get_or vals j 0) 0 (length es) (λ j y w. sym (get_or_append_left vals (drop n sixteen) 0 j (omega arith))) in
          record {
            padded = λ q. ap (pad q) (b ∙ (t ∙ u)) ∙ pad_table (λ j. get_or all j 0) 0 (length es) q (λ j y. beyond j (omega arith));
            rest = r;
            ends = omega arith;
          }

pub ends_of_append : (es : List (Option Endpoint)) (xs ys : List ℕ) → ends_of es (xs ++ ys) ≡ ends_of es xs ++ ends_of es ys
ends_of_append es [] ys = refl
ends_of_append es (x ∷ xs) ys = ap (λ l. end es x ∷ l) (ends_of_append es xs ys)

-- k of the conversations have been gathered
pub record Gathered (cs : List ℕ) (es : List (Option Endpoint)) (k : ℕ) (got : List (Maybe End)) : Type 0 where
  pub long : length got ≡ 16
  pub are : table (λ j. viewed (get_or got j None)) 0 k ≡ ends_of es (take k cs)

pub gathered_more : (cs : List ℕ) (es : List (Option Endpoint)) (k : ℕ) (got : List (Maybe End)) (o : Maybe End) → k < length cs → k < 16 → viewed o ≡ end es (get_or cs k 0) →
    Gathered cs es k got → Gathered cs es (k + 1) (set got k o)
gathered_more cs es k got o there lt is g =
    let G : ℕ → Option Endpoint = λ j. viewed (get_or (set got k o) j None) in
    let F : ℕ → Option Endpoint = λ j. viewed (get_or got j None) in
    let l = g.long in
    let z : 0 + k ≡ k = omega arith in
    let g0 : G (0 + k) ≡ end es (get_or cs k 0) = ap G z ∙ (ap viewed (get_or-set_same got k o None (omega arith)) ∙ is) in
    let t0 : table G 0 (k + 1) ≡ table G 0 (suc k) = ap (table G 0) (add-one k) in
    let t1 = table_snoc G 0 k in
    let t2 : table G 0 k ≡ table F 0 k = table_same F G 0 k (λ j y w. let ne : j ≢ k = omega arith in ap viewed (get_or-set_other got k j o None ne)) in
    let u : take (k + 1) cs ≡ take k cs ++ (get_or cs k 0 ∷ []) = ap (λ n. take n cs) (add-one k) ∙ take-suc cs k 0 there in
    let a = g.are in
    record {
      long = length-set got k o ∙ l;
      are = t0 ∙ (t1 ∙ (ap (λ y. table G 0 k ++ (y ∷ [])) g0 ∙ (ap (λ y. y ++ (end es (get_or cs k 0) ∷ [])) (t2 ∙ a) ∙ (sym (ends_of_append es (take k cs) (get_or cs k 0 ∷ [])) ∙ ap (ends_of es) (sym u)))));
    }

pub gathered_all : (cs : List ℕ) (es : List (Option Endpoint)) (k : ℕ) (got : List (Maybe End)) → k ≡ length cs → Gathered cs es k got → table (λ j. viewed (get_or got j None)) 0 (length cs) ≡ ends_of es cs
gathered_all cs es k got is g = ap (table (λ j. viewed (get_or got j None)) 0) (sym is) ∙ (g.are ∙ ap (ends_of es) (take_all k cs (omega arith)))

-- the first of the numbers and ends that are handed on, and the words from a place on, as parts of lists
pub numbers_part : (r : Numbers) (n : ℕ) → n ≤ length r.values → take n r.values ≡ numbers_in r n
numbers_part r n h = take_table r.values 0 0 0 n (omega arith) ∙ table_same (λ k. get_or r.values k 0) (λ k. get_or r.values (0 + k) 0) 0 n (λ k p q. let z : 0 + k ≡ k = omega arith in ap (λ j. get_or r.values j 0) z)

pub ends_part : (r : Ends) (n : ℕ) → n ≤ length r.ends → map viewed (take n r.ends) ≡ ends_in r n
ends_part r n h =
    ap (map viewed) (take_table r.ends None 0 0 n (omega arith)) ∙ (map_table viewed (λ k. get_or r.ends (0 + k) None) 0 n ∙
    table_same (λ k. viewed (get_or r.ends k None)) (λ k. viewed (get_or r.ends (0 + k) None)) 0 n (λ k p q. let z : 0 + k ≡ k = omega arith in ap (λ j. viewed (get_or r.ends j None)) z))

pub listed_part : (s : List ℕ) (at n : ℕ) → at + n ≤ length s → take n (drop at s) ≡ listed s at n
listed_part s at n h = let z : at + 0 ≡ at = omega arith in ap (λ k. take n (drop k s)) (sym z) ∙ take_table s 0 at 0 n (omega arith)
