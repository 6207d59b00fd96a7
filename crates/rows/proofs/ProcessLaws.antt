-- The process at a place, exactly, from its beginning and the action behind it.
use Rattle.std.proofs.Common.{◌≡◌, ℕ, ◌+◌, ◌-◌, ◌<◌, ◌≤◌, List, ◌∷◌, ◌++◌, length, get_or, take as front, drop, Some, None, Option, sym, refl, ◌∙◌, subst, arith, length-append, length-drop, length-take}
use lib.Seq.{drop-append_seam}
use Rattle.rows.specs.declared.decode.Head.{Head}
use Rattle.rows.specs.Decode.{head_at, HeadWords}
use Rattle.rows.specs.Reading.{Seconds, ActionAt, NoAction, ActionEnd}
use Rattle.rows.specs.Mapped.{HeadIs}
use Rattle.rows.specs.Sections.{ProcessTo, NoProcess, ProcessEnd}
use Rattle.rows.proofs.Places.{word_at, word_here, words_left, rest_at, drop_one, drop_two, drop_list}
use Rattle.model.specs.Program.{Process}
use Rattle.model.specs.Rows.{row_a, row_r}
use Rattle.model.proofs.Writing.{row_r_row}

pub head_made : ℕ → Process → Head
head_made i p = record { talks = i + 1; count = length p.talks; numbers = p.nums; variables = p.vars; body = i + 3 + length p.talks }

module _ (s : List ℕ) (i : ℕ) (p : Process) (x : List ℕ) (h : drop i s ≡ row_r p ++ x) where
  head_row : drop i s ≡ length p.talks ∷ (p.talks ++ (p.nums ∷ p.vars ∷ (row_a p.body ++ x)))
  head_row = h ∙ row_r_row p x

  head_talks : drop (i + 1) s ≡ p.talks ++ (p.nums ∷ p.vars ∷ (row_a p.body ++ x))
  head_talks = rest_at s i 1 head_row

  head_nums : drop (i + 1 + length p.talks) s ≡ p.nums ∷ p.vars ∷ (row_a p.body ++ x)
  head_nums = rest_at s (i + 1) (length p.talks) head_talks ∙ drop-append_seam p.talks (p.nums ∷ p.vars ∷ (row_a p.body ++ x))

  head_body : drop (i + 3 + length p.talks) s ≡ row_a p.body ++ x
  head_body =
      let e : i + 3 + length p.talks ≡ i + 1 + length p.talks + 2 = omega arith in
      rw e (rest_at s (i + 1 + length p.talks) 2 head_nums)

  head_is : HeadIs s i (head_made i p) p x
  unfolding head_made
  head_is = record { count = refl; numbers = refl; variables = refl; talks = head_talks; body = head_body; place = refl }

  pub head_found : head_at s i ≡ Some (head_made i p)
  unfolding head_made
  head_found =
      let a = word_here s i head_row in
      let b = word_here s (i + 1 + length p.talks) head_nums in
      let c = word_at s (i + 1 + length p.talks) 1 head_nums in
      let e : i + 1 + length p.talks + 1 ≡ i + 2 + length p.talks = omega arith in
      let d = subst (λ (k : ℕ). get_or s k 0 ≡ p.vars) e c in
      let n = words_left s i head_row in
      let l = length-append p.talks (p.nums ∷ p.vars ∷ (row_a p.body ++ x)) in
      grind arith

  -- what stands at a place is found there
  pub head_there : (k : Head) → Some k ≡ head_at s i → HeadIs s i k p x
  head_there k is =
      let f = head_found in
      let same : head_made i p ≡ k = cc in
      subst (λ q. HeadIs s i q p x) same head_is

pub process_none : (s : List ℕ) (i : ℕ) → None ≡ head_at s i → NoProcess s i
process_none s i is p x h f =
    let e = head_found s i p x h in
    let z : ◌≡◌ {A = ℕ} 0 1 = cc in
    omega arith

module _ (s : List ℕ) (i : ℕ) (k : Head) (is : Some k ≡ head_at s i) where
  pub process_unfit : (k.count ≤ 16 → k.variables ≤ 16 → k.numbers ≤ k.variables → ⊥) → NoProcess s i
  process_unfit unfit p x h f =
      let a = head_there s i p x h k is in
      let b = f.talks in let c = a.count in let d = f.vars in let e = a.variables in let g = f.nums in let n = a.numbers in
      unfit (omega arith) (omega arith) (omega arith)

  pub process_stuck : NoAction s k.body 256 (16 - k.count) → NoProcess s i
  process_stuck nope p x h f =
      let a = head_there s i p x h k is in let b = f.talks in let c = a.count in
      nope p.body x a.body f.nested (omega arith)

-- the points of the conversations of a process, as its beginning has them
abbrev pub talks_of : List ℕ → Head → List ℕ
talks_of s k = front k.count (drop k.talks s)

pub process_to : (s second : List ℕ) (i j : ℕ) (k : Head) → HeadWords s i k → k.count ≤ 16 → k.variables ≤ 16 → k.numbers ≤ k.variables →
    ActionAt s second k.body 256 (16 - k.count) j → ProcessTo s second i j
process_to s second i j k w few wide loaded a =
    let ts = talks_of s k in
    let long : length ts ≡ k.count = simp (length-take, length-drop) (omega arith) in
    let p : Process = record { talks = ts; nums = k.numbers; vars = k.variables; body = a.it } in
    let o1 : i < length s = omega arith in
    let o2 : i + 1 + k.count + 1 < length s = omega arith in
    let e1 = drop_one s i o1 in
    let e2 = drop_list s (i + 1) k.count in
    let e3 = drop_two s (i + 1 + k.count) o2 in
    let q1 : i + 1 + k.count + 1 ≡ i + 2 + k.count = omega arith in
    let q2 : i + 1 + k.count + 2 ≡ k.body = omega arith in
    let e4 : drop (i + 1 + k.count) s ≡ k.numbers ∷ k.variables ∷ drop k.body s = e3 ∙ cc in
    let e5 : drop i s ≡ length ts ∷ (ts ++ (k.numbers ∷ k.variables ∷ (row_a a.it ++ drop j s))) = cc a.rows in
    let place : k.body ≡ i + 3 + length ts = omega arith in
    let l1 = length-append ts (k.numbers ∷ k.variables ∷ row_a a.it) in
    let a1 = a.ends in let a2 = a.further in let a3 = a.news in
    record {
      it = p;
      fine = record { talks = omega arith; vars = wide; nums = loaded; nested = a.deeps };
      at = record { behind = drop j s; rows = e5 ∙ sym (row_r_row p (drop j s)); seconds = subst (λ (b : ℕ). Seconds second b a.it) place a.seconds };
      behind = refl;
      ends = omega arith;
      further = omega arith;
      within = a.within;
    }

pub process_end : (s second : List ℕ) (i : ℕ) (k : Head) (r : Option ℕ) → Some k ≡ head_at s i → HeadWords s i k → k.count ≤ 16 → k.variables ≤ 16 → k.numbers ≤ k.variables →
    ActionEnd s second k.body 256 (16 - k.count) r → ProcessEnd s second i r
process_end s second i k None is w few wide loaded a = process_stuck s i k is a
process_end s second i k (Some j) is w few wide loaded a = process_to s second i j k w few wide loaded a
