-- Testing every point and every process, and the conversations with which a process begins.
use Rattle.std.proofs.Common.{◌≡◌, ℕ, zero, suc, ◌+◌, ◌<◌, Bool, true, ◌&&◌, eqb, List, [], ◌∷◌, ◌++◌, length, get_or, take, Some, None, Option, is_some, refl, sym, ap, subst, ◌∙◌, add-zero, add-one, arith}
use mathlib.Core.Option.{some}
use Rattle.std.specs.List.{list_all, range_with_len}
use Rattle.rows.specs.declared.decode.Head.{Head}
use Rattle.rows.specs.declared.lookup.Rows.{Rows}
use Rattle.rows.specs.Mapped.{Known}
use Rattle.judging.specs.declared.conversations.Conversations.{Conversations}
use Rattle.judging.specs.Following.{WalkSays}
use Rattle.judging.specs.Judging.{Verdict}
use Rattle.judging.specs.Program.{ProcessKeeps, Begins}
use Rattle.judging.specs.Standing.{stand}
use Rattle.model.specs.Program.{nth, Process, Program}
use Rattle.model.specs.Rows.{Fine, AllFine}
use Rattle.model.specs.Keeps.{then, keeps, begins}

-- A test of all elements by their numbers is one of all numbers that there are.
module _ {A : Type 0} (f : ℕ → A → Bool) (all : ℕ → List A → Bool) (nil : (i : ℕ) → all i [] ≡ true) (cons : (i : ℕ) (x : A) (xs : List A) → all i (x ∷ xs) ≡ f i x && all (suc i) xs) (ys : List A) where
  tested_from : (xs : List A) (i : ℕ) → ((k : ℕ) → nth ys (i + k) ≡ nth xs k) → list_all (λ j. then (nth ys j) (f j)) (range_with_len i (length xs)) ≡ all i xs
  tested_from [] i at = sym (nil i)
  tested_from (x ∷ xs) i at =
      let here : nth ys i ≡ some x = ap (nth ys) (sym (add-zero i)) ∙ at 0 in
      let later : (k : ℕ) → nth ys (i + 1 + k) ≡ nth xs k = λ k. let e : i + 1 + k ≡ i + suc k = omega arith in ap (nth ys) e ∙ at (suc k) in
      let rest = tested_from xs (i + 1) later in
      let next : all (i + 1) xs ≡ all (suc i) xs = ap (λ (j : ℕ). all j xs) (add-one i) in
      ap (λ o. then o (f i) && list_all (λ j. then (nth ys j) (f j)) (range_with_len (i + 1) (length xs))) here ∙ (ap (λ b. f i x && b) (rest ∙ next) ∙ sym (cons i x xs))

  pub tested : list_all (λ j. then (nth ys j) (f j)) (range_with_len 0 (length ys)) ≡ all 0 ys
  tested = tested_from ys 0 (λ k. let e : 0 + k ≡ k = omega arith in ap (nth ys) e)

-- The first k conversations of a process, and one more.
begins_suc : (ts : List ℕ) (k : ℕ) → k < length ts → begins (take (suc k) ts) ≡ begins (take k ts) ++ (some (get_or ts k 0) ∷ [])
begins_suc [] k lt = absurd (omega arith)
begins_suc (t ∷ ts) zero lt = refl
begins_suc (t ∷ ts) (suc k) lt = ap (λ a. some t ∷ a) (begins_suc ts k (omega arith))

pub begins_more : (ts : List ℕ) (k : ℕ) → k < length ts → begins (take (k + 1) ts) ≡ begins (take k ts) ++ (some (get_or ts k 0) ∷ [])
begins_more ts k lt = rw add-one (begins_suc ts k lt)

pub begins_length : (ts : List ℕ) → length (begins ts) ≡ length ts
begins_length [] = refl
begins_length (t ∷ ts) = ap suc (begins_length ts)

fine_nth : (ps : List Process) (i : ℕ) {p : Process} → AllFine ps → nth ps i ≡ some p → Fine p
fine_nth [] i f h = let z : ◌≡◌ {A = ℕ} 0 1 = cc in absurd (omega arith)
fine_nth (q ∷ ps) zero f h = let e : q ≡ _ = cc in subst Fine e f.0
fine_nth (q ∷ ps) (suc i) f h = fine_nth ps i f.1 h

-- A process that was found keeps as its walk says.
module _ {r : Rows} {g : Program} {i : ℕ} {h : Head} {points : List ℕ} (known : Known r.words.now r.map.now g) (b : Begins r g i h points) where
  fine : Fine b.found.it
  fine = fine_nth g.procs i known.reads.fine b.found.is

  pub process_crowded : 16 < length points → ⊥
  process_crowded many = let f = fine.talks in let e = ap length b.talks in omega arith

  -- a verdict, as a test of whether there is one
  given : (s x : List ℕ) (k : Bool) (e : Option ℕ) → Verdict s x k e → is_some e ≡ k
  given s x k None v = sym v
  given s x k (Some j) v = sym v.0

  pub process_says : (c : Conversations) (e : Option ℕ) → stand c ≡ begins points → WalkSays (record { rows = r; variables = h.variables; root = eqb i 0 }) h.body 256 (stand c) e →
      is_some e ≡ then (nth g.procs i) (ProcessKeeps g i)
  process_says c e begun walk =
      let p = b.found.it in
      let f = fine in
      let f1 = f.talks in
      let st : stand c ≡ begins p.talks = begun ∙ ap begins b.talks in
      let l = ap length st ∙ begins_length p.talks in
      let v = walk g known p.body b.found.behind b.found.head.body f.nested (omega arith) in
      given r.words.now b.found.behind (keeps g h.variables (eqb i 0) p.body (stand c)) e v
      ∙ (ap (λ a. keeps g h.variables (eqb i 0) p.body a) st ∙ (ap (λ (n : ℕ). keeps g n (eqb i 0) p.body (begins p.talks)) b.found.head.variables
      ∙ sym (ap (λ o. then o (ProcessKeeps g i)) b.found.is)))
