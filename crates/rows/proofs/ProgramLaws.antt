-- Processes one after the other up to the end of the rows, and the whole program, exactly.
use Rattle.std.proofs.Common.{◌≡◌, ℕ, suc, ◌+◌, ◌-◌, ◌<◌, ◌≤◌, ◌≢◌, ◌⊎◌, List, [], ◌∷◌, ◌++◌, length, get_or, take as front, drop, set, sym, refl, ap, ◌∙◌, subst, inl, inr, append-nil, arith, length-append, length-drop, length-take, get_or-drop, get_or-set_other, get_or-take, get_or-set_same, drop_at}
use mathlib.Core.Option.{some}
use native.Mathlib.Decide.{dec_le}
use Rattle.rows.specs.Reading.{SameBelow}
use Rattle.rows.specs.declared.map.Map.{Map}
use Rattle.rows.specs.Mapped.{ProcessAt, Mapped}
use Rattle.rows.specs.Sections.{PointsAt, ProcessTo, NoProcess, ProcessesAt, NoProcesses, Filled}
use Rattle.rows.proofs.Places.{rest_at, drop_one, drop_list, nth_get_d}
use Rattle.rows.proofs.Series.{rows_snoc, rows_front}
use Rattle.rows.proofs.Walks.{seconds_same}
use Rattle.model.specs.Program.{nth, Process, Program}
use Rattle.model.specs.Rows.{row_ps, row_a, row_r, row_rs, Fine, AllFine, Reads}
use Rattle.model.proofs.Lists.{nth_below, nth_snoc_split}
use Rattle.model.proofs.Writing.{row_r_prefix, row_ps_prefix}

-- a process stays where it is in tables that agree on its words
process_same : (s m m' : List ℕ) (i : ℕ) (p : Process) → ProcessAt s m i p → SameBelow (i + length (row_r p)) m m' → ProcessAt s m' i p
process_same s m m' i p a same =
    let l = length-append p.talks (p.nums ∷ p.vars ∷ row_a p.body) in
    record { behind = a.behind; rows = a.rows; seconds = seconds_same m m' (i + 3 + length p.talks) p.body (λ k h q. same k (omega arith)) a.seconds }

fine_snoc : (ps : List Process) (p : Process) → AllFine ps → Fine p → AllFine (ps ++ (p ∷ []))
fine_snoc [] p a f = (f, tt)
fine_snoc (q ∷ ps) p a f = (a.0, fine_snoc ps p a.1 f)

fine_rest : (ps qs : List Process) → AllFine (ps ++ qs) → AllFine qs
fine_rest [] qs a = a
fine_rest (p ∷ ps) qs a = fine_rest ps qs a.1

-- k processes stand from place i up to place j
pub record Processed (s places second : List ℕ) (i k j : ℕ) : Type 0 where
  pub them : List Process
  pub many : length them ≡ k
  pub rows : drop i s ≡ row_rs them ++ drop j s
  pub fine : AllFine them
  pub at : (m : ℕ) (p : Process) → nth them m ≡ some p → ProcessAt s second (get_or places m 0) p × (get_or places m 0 + length (row_r p) ≤ j)
  pub few : k ≤ 64
  pub within : j ≤ length s

module _ {s places second : List ℕ} {i k j : ℕ} (a : Processed s places second i k j) where
  processed_on : {second' : List ℕ} {l : ℕ} → k < 64 → k < length places → SameBelow j second second' → ProcessTo s second' j l → Processed s (set places k j) second' i (k + 1) l
  processed_on {second'} {l} lt room same b =
      let p = b.it in
      let e = a.many in
      let t : drop j s ≡ row_r p ++ drop l s = b.at.rows ∙ ap (λ y. row_r p ++ y) b.behind in
      record {
        them = a.them ++ (p ∷ []);
        many = simp length-append (omega arith);
        rows = a.rows ∙ (ap (λ y. row_rs a.them ++ y) t ∙ sym (rows_snoc row_r row_rs refl (λ c cs. refl) a.them p (drop l s)));
        fine = fine_snoc a.them p a.fine b.fine;
        at = λ m q h. go m q (nth_snoc_split a.them p m h);
        few = omega arith;
        within = b.within;
      }
    where
      go : (m : ℕ) (q : Process) → ((nth a.them m ≡ some q) ⊎ ((m ≡ length a.them) × (q ≡ b.it))) →
          ProcessAt s second' (get_or (set places k j) m 0) q × (get_or (set places k j) m 0 + length (row_r q) ≤ l)
      go m q (inl h) =
          let c = nth_below a.them m h in let e = a.many in
          let old = a.at m q h in
          let ne : m ≢ k = omega arith in
          let f = b.further in
          let w = old.1 in
          let same_place = sym (get_or-set_other places k m j 0 ne) in
          let moved : ProcessAt s second' (get_or places m 0) q × (get_or places m 0 + length (row_r q) ≤ l) = (process_same s second second' (get_or places m 0) q old.0 (λ n g. same n (omega arith)), omega arith) in
          subst (λ (n : ℕ). ProcessAt s second' n q × (n + length (row_r q) ≤ l)) same_place moved
      go m q (inr h) =
          let here : m ≡ k = h.0 ∙ a.many in
          let e1 : j ≡ get_or (set places k j) m 0 = sym (ap (λ (n : ℕ). get_or (set places k j) n 0) here ∙ get_or-set_same places k j 0 room) in
          let f = b.ends in
          let new : ProcessAt s second' j b.it × (j + length (row_r b.it) ≤ l) = (b.at, omega arith) in
          let new2 = subst (λ r. ProcessAt s second' j r × (j + length (row_r r) ≤ l)) (sym h.1) new in
          subst (λ (n : ℕ). ProcessAt s second' n q × (n + length (row_r q) ≤ l)) e1 new2

  pub processed_more : {places' second' : List ℕ} {k' l : ℕ} → length places ≡ 64 → (k < 64) × (k' ≡ k + 1) × (places' ≡ set places k j) → SameBelow j second second' → ProcessTo s second' j l → Processed s places' second' i k' l
  processed_more {places'} {second'} {k'} {l} wide add same b =
      subst (λ (n : ℕ). Processed s places' second' i n l) (sym add.1)
      (subst (λ ps. Processed s ps second' i (k + 1) l) (sym add.2) (processed_on add.0 (omega arith) same b))

  -- whatever processes are written from i to the end, one more of them stands here
  pub record OneMore (ps : List Process) : Type 0 where
    pub it : Process
    pub behind : List Process
    pub many : length ps ≡ k + suc (length behind)
    pub rows : drop j s ≡ row_r it ++ row_rs behind
    pub fine : Fine it

  one_more : j < length s → (ps : List Process) → drop i s ≡ row_rs ps → AllFine ps → OneMore ps
  one_more lt ps h f = go (dec_le (length a.them) (length ps))
    where
      left : length (drop j s) ≡ length s - j
      left = length-drop j s

      from_rest : (r : List Process) → ps ≡ a.them ++ r → drop j s ≡ row_rs r ++ [] → OneMore ps
      from_rest [] all here = let e = ap length here in let l = left in absurd (omega arith)
      from_rest (q ∷ qs) all here =
          let fs = fine_rest a.them (q ∷ qs) (subst AllFine all f) in
          record {
            it = q;
            behind = qs;
            many = ap length all ∙ (length-append a.them (q ∷ qs) ∙ ap (λ n. n + suc (length qs)) a.many);
            rows = here ∙ append-nil (row_r q ++ row_rs qs);
            fine = fs.0;
          }

      go : Dec (length a.them ≤ length ps) → OneMore ps
      go (yes le) =
          let r = rows_front row_r row_rs refl (λ c cs. refl) row_r_prefix a.them ps (drop j s) [] le (sym a.rows ∙ (h ∙ sym (append-nil (row_rs ps)))) in
          from_rest r.them r.all r.here
      go (no gt) =
          let le : length ps ≤ length a.them = omega arith in
          let r = rows_front row_r row_rs refl (λ c cs. refl) row_r_prefix ps a.them [] (drop j s) le (append-nil (row_rs ps) ∙ (sym h ∙ a.rows)) in
          let e = ap length r.here in
          let l = left in
          let l2 = length-append (row_rs r.them) (drop j s) in
          absurd (omega arith)

  pub processed_full : j < length s → 64 ≤ k → NoProcesses s i
  processed_full lt full ps few h f = let m = one_more lt ps h f in let n = m.many in omega arith

  pub processed_stuck : j < length s → NoProcess s j → NoProcesses s i
  processed_stuck lt nope ps few h f = let m = one_more lt ps h f in nope m.it (row_rs m.behind) m.rows m.fine

-- The program whose rows these are has its points where they were found, and its processes behind the other sides.
module _ {s table : List ℕ} {n sides : ℕ} (first : get_or s 0 0 ≡ n) (a : PointsAt s table 1 n sides) where
  pub record Behind (g : Program) : Type 0 where
    pub points : g.points ≡ a.them
    pub sides_rows : drop sides s ≡ g.other ++ row_rs g.procs
    pub other : length g.other ≡ n

  pub behind_points : (g : Program) → Reads s g → Behind g
  behind_points g r =
      let e1 : drop 1 s ≡ row_ps g.points ++ (g.other ++ row_rs g.procs) = ap (λ (l : List ℕ). drop 1 l) (sym r.rows) in
      let e2 : length g.points ≡ n = ap (λ (l : List ℕ). get_or l 0 0) r.rows ∙ first in
      let p = row_ps_prefix g.points a.them (g.other ++ row_rs g.procs) (drop sides s) (e2 ∙ sym a.many) (sym e1 ∙ a.rows) in
      record { points = p.0; sides_rows = sym p.1; other = r.sides ∙ e2 }

  pub sides_short : length s - sides < n → (g : Program) → Reads s g → ⊥
  sides_short lt g r =
      let b = behind_points g r in
      let l = ap length b.sides_rows in
      let l1 = length-append g.other (row_rs g.procs) in
      let l2 = length-drop sides s in
      let o = b.other in
      omega arith

  pub no_processes : NoProcesses s (sides + n) → (g : Program) → Reads s g → ⊥
  no_processes nope g r =
      let b = behind_points g r in
      let o = b.other in
      let e : drop (sides + n) s ≡ row_rs g.procs = rest_at s sides n b.sides_rows ∙ drop_at g.other (row_rs g.procs) n o in
      nope g.procs r.procs e r.fine

-- The map that says where the points and the processes are is that of the program.
module _ {s : List ℕ} {n : ℕ} (m : Map) (first : get_or s 0 0 ≡ n) (a : PointsAt s m.points.at 1 n m.sides) (b : ProcessesAt s m.processes.at m.second (m.sides + n) m.processes.count)
    (counted : m.points.count ≡ n) (fit : n ≤ 256) (room : n ≤ length s - m.sides) (some_word : 0 < length s) (short : length s ≤ 16384) where
  abbrev sides_of : List ℕ
  sides_of = front n (drop m.sides s)

  long : length sides_of ≡ n
  long = let w = a.within (omega arith) in simp (length-take, length-drop) (omega arith)

  the_program : Program
  the_program = record { points = a.them; other = sides_of; procs = b.them }

  program_reads : Reads s the_program
  unfolding the_program
  program_reads =
      let e1 : s ≡ get_or s 0 0 ∷ drop 1 s = drop_one s 0 some_word in
      let e2 : drop m.sides s ≡ sides_of ++ drop (m.sides + n) s = drop_list s m.sides n in
      let many = a.many in let l = long in
      record {
        rows = sym (e1 ∙ cc (a.rows, b.rows));
        words = short;
        points = omega arith;
        sides = omega arith;
        procs = let q = b.many in let f = b.few in omega arith;
        fine = b.fine;
      }

  program_mapped : Mapped s the_program m
  unfolding the_program
  program_mapped = record {
    point_count = counted ∙ sym a.many;
    points = a.places;
    sides = λ i h.
        let l = long in
        let lt : i < n = omega arith in
        nth_get_d sides_of i 0 h ∙ ap some (get_or-take n (drop m.sides s) i 0 lt ∙ get_or-drop m.sides s i 0);
    room = let w = a.within (omega arith) in let l = long in omega arith;
    process_count = sym b.many;
    processes = b.at;
  }

  pub program_read : Filled s m
  program_read = record { short = short; program = the_program; known = record { reads = program_reads; mapped = program_mapped } }
