-- The rows of a table, from the words.
use Rattle.std.proofs.Common.{rules, ◌≡◌, ℕ, zero, suc, ◌+◌, ◌<◌, ◌≤◌, Bool, true, false, List, [], ◌∷◌, ◌++◌, length, take as take_first, drop, set as set_at, Some, None, Option as Maybe, sym, refl, ap, ◌∙◌, subst, inl, inr, append-nil, add-one, arith, length-append, length-set}
use mathlib.Core.Option.{Option, some, none}
use Rattle.model.specs.Program.{nth, or, bit, Action, stop, give, take, choose, offer, set, if, show, start, become}
use Rattle.model.specs.Steps.{Endpoint, State, running, stopped, spent, Worker, Configuration, end}
use Rattle.model.specs.Rows.{row_a}
use Rattle.model.specs.Picture.{Holds as HoldsAnEnd}
use Rattle.model.specs.Waiting.{awaits, WaitsAt, WaitsFor, Hops}
use Rattle.records.specs.declared.process.End.{End}
use Rattle.records.specs.Records.{record_at, endpoint, viewed}
use Rattle.queues.specs.Lines.{facing}
use Rattle.turns.specs.Holding.{Holding}
use Rattle.turns.specs.Scheduling.{wish, end_of, waiting}
use Rattle.jams.specs.Told.{WaitsAt as WaitsAtEnd, HoldsEnd, HolderIs, NoneBefore}
use Rattle.engine.specs.Outs.{Same}
use Rattle.model.proofs.Keeping.{or_open}
use Rattle.model.proofs.Lists.{nth_below, nth_there, nth_snoc_split}
use Rattle.queues.specs.Lines.{option}
use Rattle.exploring.specs.declared.answers.Left.{Left}
use Rattle.exploring.specs.Circles.{hop, hops}
use Rattle.exploring.proofs.CircleLaws.{some_inj, first_row, first_row_is, hops_first}
use Rattle.exploring.specs.Table.{if_running, running_at, running_below, all_running, FirstHolder, HeldBy, Row_is, Rows, Told}

no_some : {j : ℕ} → ◌≡◌ {A = Maybe ℕ} None (Some j) → ⊥
no_some e = let z : ◌≡◌ {A = ℕ} 0 1 = cc in omega arith

side_small : (e : End) → (endpoint e).side < 2
side_small e = go e.far
  where
    go : (b : Bool) → bit b < 2
    go true = omega arith
    go false = omega arith

-- the conversation in which one waits, by either name
awaits_is : (t : Action) → awaits t ≡ wish t
awaits_is stop = refl
awaits_is (give c e s) = refl
awaits_is (take c x s) = refl
awaits_is (choose c k s) = refl
awaits_is (offer c s t) = refl
awaits_is (set x e s) = refl
awaits_is (if e s t) = refl
awaits_is (show e s) = refl
awaits_is (start f cs es s) = refl
awaits_is (become f cs es) = refl

waits_at : (ws : List Worker) (i : ℕ) (w : Worker) (e : Endpoint) → nth ws i ≡ some w → w.state ≡ running → waiting w ≡ some e → WaitsAt ws i e
waits_at ws i w e n r z = go (wish w.todo) refl z
  where
    go : (o : Option ℕ) → wish w.todo ≡ o → end_of w.ends o ≡ some e → WaitsAt ws i e
    go none x y = absurd (let z : ◌≡◌ {A = ℕ} 0 1 = cc in omega arith)
    go (some c) x y = (w, c, n, r, awaits_is w.todo ∙ x, or_open (nth w.ends c) e y)

waits_for : (ws : List Worker) (i j : ℕ) (w : Worker) (e : Endpoint) → nth ws i ≡ some w → w.state ≡ running → waiting w ≡ some e → e.side < 2 → HoldsAnEnd ws j (facing e) → WaitsFor ws i j
waits_for ws i j w e n r z small h = record { near = e; far = facing e; line = refl; sides = λ x. omega arith; waits = waits_at ws i w e n r z; holds = h }

module _ (s m : List ℕ) (procs : List (List ℕ)) (count : ℕ) (a : Configuration) (h : Holding s m procs count a) where
  worker : (i : ℕ) → i < count → (w : Worker) × (nth a.workers i ≡ some w)
  worker i lt = let l = h.many in nth_there a.workers i (omega arith)

  -- who holds an end
  holds_one : (j : ℕ) (x : Endpoint) → j < count → HoldsEnd (record_at procs j) x true → HoldsAnEnd a.workers j x
  holds_one j x lt t =
      let w = worker j lt in
      (w.0, w.1, (t.0, or_open (nth w.0.ends t.0) x (ap (λ es. end es t.0) (sym (h.each j w.0 w.1).ends) ∙ t.1)))

  holds_none : (j : ℕ) (x : Endpoint) → HoldsEnd (record_at procs j) x false → HoldsAnEnd a.workers j x → ⊥
  holds_none j x out (w, n, (c, e)) = out c (ap (λ es. end es c) (h.each j w n).ends ∙ ap (or none) e)

  below : (j : ℕ) (x : Endpoint) → HoldsAnEnd a.workers j x → j < count
  below j x (w, n, e) = let l = nth_below a.workers j n in let k = h.many in omega arith

  first_holder : (x : Endpoint) (r : Maybe ℕ) → HolderIs procs count x r → NoneBefore procs x r → FirstHolder a.workers x r
  first_holder x None f n = λ j p. holds_none j x (f j (below j x p)) p
  first_holder x (Some j) f n = (holds_one j x f.0 f.1, λ k l p. holds_none k x (n k l) p)

  module _ (i : ℕ) (lt : i < count) (run : (record_at procs i).state ≡ running) (at : ℕ) (is_at : at ≡ (record_at procs i).place) where
    runs : (worker i lt).0.state ≡ running
    runs = sym (h.each i (worker i lt).0 (worker i lt).1).state ∙ run

    stands : drop at s ≡ row_a (worker i lt).0.todo ++ (h.each i (worker i lt).0 (worker i lt).1).behind
    stands = ap (λ n. drop n s) is_at ∙ (h.each i (worker i lt).0 (worker i lt).1).rows

    pub row_nowhere : (o : Maybe End) → o ≡ None → WaitsAtEnd s (record_at procs i) o → Row_is s a.workers i (record { process = i; place = at; end = o; holder = None })
    row_nowhere o none' z = record {
      worker = (worker i lt).0;
      there = (worker i lt).1;
      runs = runs;
      process = refl;
      behind = (h.each i (worker i lt).0 (worker i lt).1).behind;
      rows = stands;
      waits = z m (worker i lt).0 (h.each i (worker i lt).0 (worker i lt).1);
      held = subst (λ (x : Maybe End). HeldBy a.workers x None) (sym none') refl;
      follows = λ j e. absurd (no_some e);
    }

    pub row_waits : (o : Maybe End) (e : End) → o ≡ Some e → (f : End) (who : Maybe ℕ) → WaitsAtEnd s (record_at procs i) o → endpoint f ≡ facing (endpoint e) → HolderIs procs count (endpoint f) who → NoneBefore procs (endpoint f) who →
        Row_is s a.workers i (record { process = i; place = at; end = o; holder = who })
    row_waits o e some' f who z is t n = record {
      worker = (worker i lt).0;
      there = (worker i lt).1;
      runs = runs;
      process = refl;
      behind = (h.each i (worker i lt).0 (worker i lt).1).behind;
      rows = stands;
      waits = z m (worker i lt).0 (h.each i (worker i lt).0 (worker i lt).1);
      held = subst (λ (x : Maybe End). HeldBy a.workers x who) (sym some') first;
      follows = λ j w.
          waits_for a.workers i j (worker i lt).0 (endpoint e) (worker i lt).1 runs (sym (z m (worker i lt).0 (h.each i (worker i lt).0 (worker i lt).1)) ∙ ap viewed some') (side_small e) (its_holder j who w first);
    }
      where
        first : FirstHolder a.workers (facing (endpoint e)) who
        first = first_holder (facing (endpoint e)) who (subst (λ (x : Endpoint). HolderIs procs count x who) is t) (subst (λ (x : Endpoint). NoneBefore procs x who) is n)

        its_holder : (j : ℕ) (r : Maybe ℕ) → r ≡ Some j → FirstHolder a.workers (facing (endpoint e)) r → HoldsAnEnd a.workers j (facing (endpoint e))
        its_holder j None w f = absurd (no_some w)
        its_holder j (Some k) w f = let z : k ≡ j = cc in subst (λ (o : ℕ). HoldsAnEnd a.workers o (facing (endpoint e))) z f.0

  -- whether a process is one of those that are left
  pub is_left : (i : ℕ) → i < count → (b : Bool) → b ≡ true → Same (record_at procs i).state running b → running_at i (nth a.workers i) ≡ i ∷ []
  is_left i lt true is r =
      let w = worker i lt in
      ap (running_at i) w.1 ∙ ap (if_running i) (sym (h.each i w.0 w.1).state ∙ r)
  is_left i lt false is r = absurd (search rules)

  pub not_left : (i : ℕ) → i < count → (b : Bool) → b ≡ false → Same (record_at procs i).state running b → running_at i (nth a.workers i) ≡ []
  not_left i lt true is r = absurd (search rules)
  not_left i lt false is r =
      let w = worker i lt in
      ap (running_at i) w.1 ∙ out w.0.state (λ z. r ((h.each i w.0 w.1).state ∙ z))
    where
      out : (k : State) → (k ≡ running → ⊥) → if_running i k ≡ []
      out running x = absurd (x refl)
      out stopped x = refl
      out spent x = refl

nth_set_same : {A : Type 0} (xs : List A) (n : ℕ) (x : A) → n < length xs → nth (set_at xs n x) n ≡ some x
nth_set_same [] n x l = absurd (omega arith)
nth_set_same (y ∷ xs) zero x l = refl
nth_set_same (y ∷ xs) (suc n) x l = nth_set_same xs n x (omega arith)

nth_set_other : {A : Type 0} (xs : List A) (n k : ℕ) (x : A) → (k ≡ n → ⊥) → nth (set_at xs n x) k ≡ nth xs k
nth_set_other [] n k x ne = refl
nth_set_other (y ∷ xs) zero zero x ne = absurd (ne refl)
nth_set_other (y ∷ xs) zero (suc k) x ne = refl
nth_set_other (y ∷ xs) (suc n) zero x ne = refl
nth_set_other (y ∷ xs) (suc n) (suc k) x ne = nth_set_other xs n k x (λ z. ne (ap suc z))

module _ (s : List ℕ) (ws : List Worker) (is : List ℕ) (i : ℕ) (old left : List Left) (n : ℕ) (count : n ≡ length is) (t : Rows s ws is old left) where
  -- nobody more is left
  pub rows_same : running_at i (nth ws i) ≡ [] → (n ≡ length (is ++ running_at i (nth ws i))) × Rows s ws (is ++ running_at i (nth ws i)) old left
  rows_same e =
      let z : is ++ running_at i (nth ws i) ≡ is = ap (λ l. is ++ l) e ∙ append-nil is in
      (count ∙ sym (ap length z), subst (λ (l : List ℕ). Rows s ws l old left) (sym z) t)

  more : running_at i (nth ws i) ≡ i ∷ [] → n + 1 ≡ length (is ++ running_at i (nth ws i))
  more e = let l = ap (λ (x : List ℕ). length (is ++ x)) e in let k = length-append is (i ∷ []) in omega arith

  -- one more is, and has a row
  pub rows_one : (row : Left) → running_at i (nth ws i) ≡ i ∷ [] → n < length left → Row_is s ws i row → (n + 1 ≡ length (is ++ running_at i (nth ws i))) × Rows s ws (is ++ running_at i (nth ws i)) old (set_at left n row)
  rows_one row e room r = (more e, subst (λ (l : List ℕ). Rows s ws (is ++ l) old (set_at left n row)) (sym e) (record { long = length-set left n row ∙ t.long; rows = rows'; rest = rest' }))
    where
      rows' : (k j : ℕ) → nth (is ++ (i ∷ [])) k ≡ some j → k < length old → (q : Left) × (nth (set_at left n row) k ≡ some q) × Row_is s ws j q
      rows' k j x l = elim (nth_snoc_split is i k x) [
        | inl y ↦ (let u = t.rows k j y l in let b = nth_below is k y in (u.0, nth_set_other left n k row (λ z. omega arith) ∙ u.1, u.2))
        | inr y ↦ (row, ap (nth (set_at left n row)) (y.0 ∙ sym count) ∙ nth_set_same left n row room, subst (λ (o : ℕ). Row_is s ws o row) (sym y.1) r)
      ]

      rest' : (k : ℕ) → length (is ++ (i ∷ [])) ≤ k → nth (set_at left n row) k ≡ nth old k
      rest' k l = let b = length-append is (i ∷ []) in nth_set_other left n k row (λ z. omega arith) ∙ t.rest k (omega arith)

  -- one more is, and there is no room
  pub rows_full : running_at i (nth ws i) ≡ i ∷ [] → length left ≤ n → (n + 1 ≡ length (is ++ running_at i (nth ws i))) × Rows s ws (is ++ running_at i (nth ws i)) old left
  rows_full e full = (more e, subst (λ (l : List ℕ). Rows s ws (is ++ l) old left) (sym e) (record { long = t.long; rows = rows'; rest = rest' }))
    where
      rows' : (k j : ℕ) → nth (is ++ (i ∷ [])) k ≡ some j → k < length old → (q : Left) × (nth left k ≡ some q) × Row_is s ws j q
      rows' k j x l = elim (nth_snoc_split is i k x) [
        | inl y ↦ t.rows k j y l
        | inr y ↦ absurd (let b = t.long in let c = y.0 in omega arith)
      ]

      rest' : (k : ℕ) → length (is ++ (i ∷ [])) ≤ k → nth left k ≡ nth old k
      rest' k l = let b = length-append is (i ∷ []) in t.rest k (omega arith)

pub below_next : (s : List ℕ) (ws : List Worker) (i n n' : ℕ) (old left left' : List Left) → n' ≡ n → left' ≡ left → (n ≡ length (running_below ws i ++ running_at i (nth ws i))) × Rows s ws (running_below ws i ++ running_at i (nth ws i)) old left →
    (n' ≡ length (running_below ws (i + 1))) × Rows s ws (running_below ws (i + 1)) old left'
below_next s ws i n n' old left left' count same t =
    let z = sym (ap (running_below ws) (add-one i)) in
    (count ∙ (t.0 ∙ ap length z), subst (λ (l : List Left). Rows s ws (running_below ws (i + 1)) old l) (sym same) (subst (λ (k : List ℕ). Rows s ws k old left) z t.1))

-- going from row to row
row_at : {A : Type 0} (xs : List A) (n k : ℕ) {x : A} → nth (take_first n xs) k ≡ some x → (k < n) × (nth xs k ≡ some x)
row_at [] zero k e = absurd (let z : ◌≡◌ {A = ℕ} 0 1 = cc in omega arith)
row_at [] (suc n) k e = absurd (let z : ◌≡◌ {A = ℕ} 0 1 = cc in omega arith)
row_at (x ∷ xs) zero k e = absurd (let z : ◌≡◌ {A = ℕ} 0 1 = cc in omega arith)
row_at (x ∷ xs) (suc n) zero e = (omega arith, e)
row_at (x ∷ xs) (suc n) (suc k) e = let t = row_at xs n k e in let l = t.0 in (omega arith, t.1)

holder_is : (r : Maybe ℕ) (j : ℕ) → option r ≡ some j → r ≡ Some j
holder_is None j e = absurd (let z : ◌≡◌ {A = ℕ} 0 1 = cc in omega arith)
holder_is (Some k) j e = let z : k ≡ j = cc in ap Some z

module _ (s : List ℕ) (ws : List Worker) (is : List ℕ) (old left : List Left) (n : ℕ) (count : n ≡ length is) (t : Rows s ws is old left) where
  row_follows : (k i j : ℕ) (row : Left) → k < n → nth left k ≡ some row → row.process ≡ i → option row.holder ≡ some j → WaitsFor ws i j
  row_follows k i j row l here is_i is_j =
      let len = t.long in
      let b = nth_below left k here in
      let who = nth_there is k (omega arith) in
      follows_as who.0 (t.rows k who.0 who.1 (omega arith))
    where
      follows_as : (o : ℕ) → (q : Left) × (nth left k ≡ some q) × Row_is s ws o q → WaitsFor ws i j
      follows_as o (q, at, r) =
          let same : q ≡ row = some_inj at here in
          let is_o : o ≡ i = sym r.process ∙ (ap (λ (x : Left). x.process) same ∙ is_i) in
          subst (λ (x : ℕ). WaitsFor ws x j) is_o (r.follows j (holder_is q.holder j (ap (λ (x : Left). option x.holder) same ∙ is_j)))

  one_hop : (i j : ℕ) → hop (take_first n left) i ≡ some j → WaitsFor ws i j
  one_hop i j e =
      let f = first_row_is (take_first n left) i j e in
      let at = row_at left n (first_row (take_first n left) i) f.1 in
      row_follows (first_row (take_first n left) i) i j f.0 at.0 at.1 f.2 f.3

  pub all_hops : (m i k : ℕ) → hops (take_first n left) m i ≡ some k → Hops ws m i k
  all_hops zero i k e = some_inj refl e
  all_hops (suc m) i k e = let f = hops_first (take_first n left) m i k e in (f.0, one_hop i f.0 f.1, all_hops m f.0 k f.2)

pub told_all : (s : List ℕ) (ws : List Worker) (count i n : ℕ) (old left : List Left) → length ws ≡ count → i ≡ count → (n ≡ length (running_below ws i)) × Rows s ws (running_below ws i) old left → Told s ws old left n
told_all s ws count i n old left many e t =
    let z : i ≡ length ws = e ∙ sym many in
    let c : n ≡ length (all_running ws) = t.0 ∙ ap (λ (k : ℕ). length (running_below ws k)) z in
    let r : Rows s ws (all_running ws) old left = subst (λ (k : ℕ). Rows s ws (running_below ws k) old left) z t.1 in
    record { count = c; rows = r; walks = all_hops s ws (all_running ws) old left n c r }
