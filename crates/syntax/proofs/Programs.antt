-- What is written and marked of processes and of a program, from what is written and marked of their parts.
use Rattle.std.proofs.Common.{◌≡◌, ℕ, ◌+◌, ◌<◌, ◌≤◌, List, [], ◌∷◌, ◌++◌, length, get_or, take, vec_items, sym, refl, ap, ◌∙◌, subst, append_assoc, append-nil, arith, length-append}
use Rattle.model.specs.Rows.{row_a, row_ps, row_r, row_rs}
use Rattle.std.proofs.lemmas.List.{take_more, take_all}
use Rattle.syntax.proofs.Added.{append_after, append_after_two}
use Rattle.syntax.proofs.Flat.{program_row}
use Rattle.syntax.specs.Marks.{Wrote, WroteProcess, WroteProcesses, WroteProgram, begins, begins_r, begins_rs, words_of}
use Rattle.syntax.specs.Meaning.{action_of, points_of, process_of, processes_of, program_of}
use Rattle.syntax.specs.declared.tree.Mark.{Mark}
use Rattle.syntax.specs.declared.tree.Point.{Point}
use Rattle.syntax.specs.declared.tree.Process.{Process}

-- one mark more
pub words_snoc : (ms : List Mark) (k : Mark) → words_of (ms ++ (k ∷ [])) ≡ words_of ms ++ (k.word ∷ [])
words_snoc [] k = refl
words_snoc (m ∷ ms) k = ap (λ ws. m.word ∷ ws) (words_snoc ms k)

pub marked : (ms ms' : List Mark) (k : Mark) (n : ℕ) → ms' ≡ ms ++ (k ∷ []) → k.word ≡ n → words_of ms' ≡ words_of ms ++ (n ∷ [])
marked ms ms' k n e f = ap words_of e ∙ (words_snoc ms k ∙ ap (λ w. words_of ms ++ (w ∷ [])) f)

pub wrote_process : (p : Process) (o o1 o2 o3 m m1 : List ℕ) → o1 ≡ o ++ (length (vec_items p.talks) ∷ vec_items p.talks) → o2 ≡ o1 ++ (p.nums ∷ p.vars ∷ []) → Wrote o2 o3 m m1 (action_of p.body) → WroteProcess o o3 m m1 (process_of p)
wrote_process p o o1 o2 o3 m m1 e f w =
    let ts = vec_items p.talks in
    let h = length ts ∷ (ts ++ (p.nums ∷ p.vars ∷ [])) in
    let n : length o2 ≡ length o + length h = ap length (append_after o o1 o2 (length ts ∷ ts) (p.nums ∷ p.vars ∷ []) e f) ∙ length-append o h in
    record { rows = append_after_two o o1 o2 o3 (length ts ∷ ts) (p.nums ∷ p.vars ∷ []) (row_a (action_of p.body)) e f w.rows; marks = subst (λ k. m1 ≡ m ++ begins k (action_of p.body)) n w.marks }

-- one process after others
pub rows_snoc : (xs : List Process) (x : Process) → row_rs (processes_of (xs ++ (x ∷ []))) ≡ row_rs (processes_of xs) ++ row_r (process_of x)
rows_snoc [] x = append-nil (row_r (process_of x))
rows_snoc (y ∷ xs) x = ap (λ r. row_r (process_of y) ++ r) (rows_snoc xs x) ∙ sym (append_assoc (row_r (process_of y)) (row_rs (processes_of xs)) (row_r (process_of x)))

pub begins_snoc : (w : ℕ) (xs : List Process) (x : Process) → begins_rs w (processes_of (xs ++ (x ∷ []))) ≡ begins_rs w (processes_of xs) ++ begins_r (w + length (row_rs (processes_of xs))) (process_of x)
begins_snoc w [] x =
    let z : w ≡ w + 0 = omega arith in
    append-nil (begins_r w (process_of x)) ∙ ap (λ k. begins_r k (process_of x)) z
begins_snoc w (y ∷ xs) x =
    let v = w + length (row_r (process_of y)) in
    let n : v + length (row_rs (processes_of xs)) ≡ w + length (row_r (process_of y) ++ row_rs (processes_of xs)) = omega (arith, length-append (row_r (process_of y)) (row_rs (processes_of xs))) in
    ap (λ r. begins_r w (process_of y) ++ r) (begins_snoc v xs x) ∙ (sym (append_assoc (begins_r w (process_of y)) (begins_rs v (processes_of xs)) (begins_r (v + length (row_rs (processes_of xs))) (process_of x))) ∙ ap (λ k. (begins_r w (process_of y) ++ begins_rs v (processes_of xs)) ++ begins_r k (process_of x)) n)

pub wrote_none : (o m : List ℕ) → WroteProcesses o o m m []
wrote_none o m = record { rows = sym (append-nil o); marks = sym (append-nil m) }

pub wrote_snoc : (ys : List Process) (x : Process) (o o1 o2 m m1 m2 : List ℕ) → WroteProcesses o o1 m m1 (processes_of ys) → WroteProcess o1 o2 m1 m2 (process_of x) → WroteProcesses o o2 m m2 (processes_of (ys ++ (x ∷ [])))
wrote_snoc ys x o o1 o2 m m1 m2 b a =
    let rs = row_rs (processes_of ys) in
    let n : length o1 ≡ length o + length rs = ap length b.rows ∙ length-append o rs in
    let q : m2 ≡ m1 ++ begins_r (length o + length rs) (process_of x) = subst (λ k. m2 ≡ m1 ++ begins_r k (process_of x)) n a.marks in
    record { rows = append_after o o1 o2 rs (row_r (process_of x)) b.rows a.rows ∙ ap (λ z. o ++ z) (sym (rows_snoc ys x)); marks = append_after m m1 m2 (begins_rs (length o) (processes_of ys)) (begins_r (length o + length rs) (process_of x)) b.marks q ∙ ap (λ z. m ++ z) (sym (begins_snoc (length o) ys x)) }

-- a loop's step: the first i processes were written, and then the next
pub wrote_more : (xs : List Process) (i : ℕ) (x d : Process) (o o1 o2 m m1 m2 : List ℕ) → i < length xs → x ≡ get_or xs i d → WroteProcesses o o1 m m1 (processes_of (take i xs)) → WroteProcess o1 o2 m1 m2 (process_of x) → WroteProcesses o o2 m m2 (processes_of (take (i + 1) xs))
wrote_more xs i x d o o1 o2 m m1 m2 l is b a =
    let st : take (i + 1) xs ≡ take i xs ++ (x ∷ []) = take_more xs i d l ∙ ap (λ z. take i xs ++ (z ∷ [])) (sym is) in
    subst (λ zs. WroteProcesses o o2 m m2 (processes_of zs)) (sym st) (wrote_snoc (take i xs) x o o1 o2 m m1 m2 b a)

-- a loop's end
pub wrote_all : (xs : List Process) (i : ℕ) (o o1 m m1 : List ℕ) → length xs ≤ i → WroteProcesses o o1 m m1 (processes_of (take i xs)) → WroteProcesses o o1 m m1 (processes_of xs)
wrote_all xs i o o1 m m1 l w = subst (λ zs. WroteProcesses o o1 m m1 (processes_of zs)) (take_all i xs l) w

pub wrote_program : (ps : List Point) (js : List ℕ) (rs : List Process) (o o1 o2 o3 o4 m m1 : List ℕ) → o1 ≡ o ++ (length ps ∷ []) → o2 ≡ o1 ++ row_ps (points_of ps) → o3 ≡ o2 ++ js → WroteProcesses o3 o4 m m1 (processes_of rs) → WroteProgram o o4 m m1 (program_of ps js rs)
wrote_program ps js rs o o1 o2 o3 o4 m m1 p q r w =
    let h = length ps ∷ (row_ps (points_of ps) ++ js) in
    let n : length o3 ≡ length o + length h = ap length (append_after_two o o1 o2 o3 (length ps ∷ []) (row_ps (points_of ps)) js p q r) ∙ length-append o h in
    record { rows = program_row ps js rs o o1 o2 o3 o4 p q r w.rows; marks = subst (λ k. m1 ≡ m ++ begins_rs k (processes_of rs)) n w.marks }
