-- One turn of a run, from the turn of the process that was drawn from the queue.
use Rattle.std.proofs.Common.{◌≡◌, ℕ, zero, suc, ◌+◌, ◌*◌, ◌<◌, List, [], ◌∷◌, ◌++◌, length, Ok, Err, get_or, sym, refl, ap, ◌∙◌, subst, inl, inr, append-nil, add-one, arith, length-append}
use mathlib.Core.Option.{some}
use Rattle.model.specs.Program.{nth, Program}
use Rattle.model.specs.Steps.{Configuration, only_first}
use Rattle.rows.specs.declared.map.Map.{Map}
use Rattle.records.proofs.TableLaws.{length_table}
use Rattle.queues.specs.declared.ring.Queue.{Queue}
use Rattle.queues.specs.Slots.{slot}
use Rattle.queues.specs.Rings.{items, taken, Pushed, Gone}
use Rattle.turns.specs.Scheduling.{In, Runs}
use Rattle.turns.specs.declared.turn.Turn.{Turn}
use Rattle.turns.specs.declared.turn.Trouble.{Trouble}
use Rattle.turns.specs.declared.turn.Trouble.TheVariants.{Crowded, Odd}
use Rattle.turns.specs.Turning.{Before, After, Turned, Turns}
use Rattle.model.proofs.Lists.{nth_below}
use Rattle.turns.proofs.Queue.{in_here, in_there, in_split}
use Rattle.turns.proofs.Moves.{scheduled_same}
use Rattle.engine.specs.declared.step.Run.{Run}
use Rattle.engine.specs.Shown.{overlay, counted}
use Rattle.engine.specs.Running.{Once, Running, Went, Breaks}
use Rattle.engine.proofs.QueueLaws.{taken_in, taken_or, taken_not, taken_once, snoc_in, snoc_out, snoc_once, once_length}

length_items : (q : Queue) → length (items q) ≡ q.count
length_items q = length_table (λ k. get_or q.slots.now (slot (length q.slots.now) q.head k) 0) 0 q.count

module _ (s m shown : List ℕ) (r : Run) (g : Program) (a : Configuration) (old : List ℕ) (run : Running s m g old shown r a) where
  went : (shown' : List ℕ) (r' : Run) (q ns : List ℕ) (d : ℕ) → After s m g r.processes.now r'.processes.now r'.lines.now r.count r'.count a q ns d → ((j : ℕ) → In q j → In (items r'.ready) j) → ((j : ℕ) → In (items r'.ready) j → In q j) →
      Once (items r'.ready) → shown' ≡ overlay (a.shown ++ ns) old → r'.total ≡ counted (a.shown ++ ns) → r'.ready.count < r.ready.count + 2 * d → Went s m g old shown' r r' a
  went shown' r' q ns d t to from once written total less = record {
    now = t.now;
    steps = t.steps;
    running = record {
      holding = t.holding;
      scheduled = scheduled_same to from t.scheduled;
      once = once;
      written = written ∙ ap (λ l. overlay l old) (sym t.shown);
      total = total ∙ ap counted (sym t.shown);
    };
    falls = let f = t.falls in omega arith;
  }

  shown_none : shown ≡ overlay (a.shown ++ []) old
  shown_none = run.written ∙ ap (λ l. overlay l old) (sym (append-nil a.shown))

  total_none : r.total ≡ counted (a.shown ++ [])
  total_none = run.total ∙ ap counted (sym (append-nil a.shown))

  -- process i is at place k of the queue
  module _ (k i : ℕ) (who : nth (items r.ready) k ≡ some i) where
    rest : List ℕ
    rest = taken (items r.ready) k

    rest_not : In rest i → ⊥
    unfolding rest
    rest_not p = taken_not (items r.ready) k i run.once who p

    all_in : (j : ℕ) → In (i ∷ rest) j → In (items r.ready) j
    unfolding rest
    all_in j p = elim (in_split i rest j p) [ inl e ↦ (k, who ∙ ap some (sym e)) | inr u ↦ taken_in (items r.ready) k j u ]

    all_or : (j : ℕ) → In (items r.ready) j → In (i ∷ rest) j
    unfolding rest
    all_or j p = elim (taken_or (items r.ready) k i j who p) [ inl e ↦ subst (In (i ∷ rest)) (sym e) (in_here i rest) | inr u ↦ in_there i rest j u ]

    pub before : Before s m g r.processes.now r.lines.now r.count i a (taken (items r.ready) k)
    unfolding rest
    before = record { holding = run.holding; scheduled = scheduled_same all_or all_in run.scheduled; once = rest_not }

    pub who_below : i < r.count
    who_below = let u = run.scheduled.ready i (k, who) in let v = nth_below a.workers i u.there in let w = run.holding.many in omega arith

    module _ (r' : Run) where
      -- it is ready no more
      pub went_off : Gone r.ready r'.ready k → r'.total ≡ r.total → After s m g r.processes.now r'.processes.now r'.lines.now r.count r'.count a (taken (items r.ready) k) [] 0 → Went s m g old shown r r' a
      went_off tk same af =
          went shown r' (taken (items r.ready) k) [] 0 af
          (λ j p. subst (λ l. In l j) (sym tk.rest) p) (λ j p. subst (λ l. In l j) tk.rest p)
          (subst Once (sym tk.rest) (taken_once (items r.ready) k run.once)) shown_none (same ∙ total_none) (let c = tk.count in omega arith)

      -- it goes on
      module _ (same : items r'.ready ≡ items r.ready) (many : r'.ready.count ≡ r.ready.count) where
        pub went_on : (shown' ns : List ℕ) → After s m g r.processes.now r'.processes.now r'.lines.now r.count r'.count a (i ∷ taken (items r.ready) k) ns 1 →
            shown' ≡ overlay (a.shown ++ ns) old → r'.total ≡ counted (a.shown ++ ns) → Went s m g old shown' r r' a
        unfolding rest
        went_on shown' ns af written count =
            went shown' r' (i ∷ taken (items r.ready) k) ns 1 af
            (λ j p. subst (λ l. In l j) (sym same) (all_in j p)) (λ j p. all_or j (subst (λ l. In l j) same p))
            (subst Once (sym same) run.once) written count (omega arith)

        pub went_on_none : r'.total ≡ r.total → After s m g r.processes.now r'.processes.now r'.lines.now r.count r'.count a (i ∷ taken (items r.ready) k) [] 1 → Went s m g old shown r r' a
        went_on_none e af = went_on shown [] af shown_none (e ∙ total_none)

        pub went_shown : (shown' : List ℕ) (v : ℕ) → i ≡ 0 → After s m g r.processes.now r'.processes.now r'.lines.now r.count r'.count a (i ∷ taken (items r.ready) k) (only_first i (v ∷ [])) 1 →
            ((ns before : List ℕ) → shown ≡ overlay ns before → r.total ≡ counted ns → (shown' ≡ overlay (ns ++ (v ∷ [])) before) × (r'.total ≡ counted (ns ++ (v ∷ [])))) → Went s m g old shown' r r' a
        went_shown shown' v zero' af f =
            let w = f a.shown old run.written run.total in
            went_on shown' (v ∷ []) (subst (λ (ns : List ℕ). After s m g r.processes.now r'.processes.now r'.lines.now r.count r'.count a (i ∷ taken (items r.ready) k) ns 1) (ap (λ i. only_first i (v ∷ [])) zero') af) w.0 w.1

        pub went_hidden : (v : ℕ) → (i ≡ 0 → ⊥) → r'.total ≡ r.total → After s m g r.processes.now r'.processes.now r'.lines.now r.count r'.count a (i ∷ taken (items r.ready) k) (only_first i (v ∷ [])) 1 → Went s m g old shown r r' a
        went_hidden v ne e af =
            went_on_none e (subst (λ (ns : List ℕ). After s m g r.processes.now r'.processes.now r'.lines.now r.count r'.count a (i ∷ taken (items r.ready) k) ns 1) (hidden i ne) af)
          where
            hidden : (i : ℕ) → (i ≡ 0 → ⊥) → only_first i (v ∷ []) ≡ []
            hidden zero x = absurd (x refl)
            hidden (suc i) x = refl

    -- it goes on and so does another
    pub room_for : (count j : ℕ) (b : Configuration) → (In (i ∷ taken (items r.ready) k) j → ⊥) → length b.workers ≡ count →
        ((l : ℕ) → In (j ∷ i ∷ taken (items r.ready) k) l → Runs b.workers l) → r.ready.count < count
    unfolding rest
    room_for count j b out many runs =
        let l = once_length count (items r.ready ++ (j ∷ [])) (snoc_once (items r.ready) j run.once (λ p. out (all_or j p))) (λ l p. low l (both l (snoc_out (items r.ready) j l p))) in
        let l1 = length-append (items r.ready) (j ∷ []) in
        let l2 = length_items r.ready in
        omega arith
      where
        both : (l : ℕ) → In (j ∷ items r.ready) l → In (j ∷ i ∷ taken (items r.ready) k) l
        both l p = elim (in_split j (items r.ready) l p) [
          | inl e ↦ subst (In (j ∷ i ∷ taken (items r.ready) k)) (sym e) (in_here j (i ∷ taken (items r.ready) k))
          | inr u ↦ in_there j (i ∷ taken (items r.ready) k) l (all_or l u)
        ]

        low : (l : ℕ) → In (j ∷ i ∷ taken (items r.ready) k) l → l < count
        low l p = let u = runs l p in let v = nth_below b.workers l u.there in omega arith

    module _ (j : ℕ) (r' : Run) (pd : Pushed r.ready r'.ready j) (out : In (i ∷ taken (items r.ready) k) j → ⊥) where
      pub went_both : r'.total ≡ r.total → After s m g r.processes.now r'.processes.now r'.lines.now r.count r'.count a (j ∷ i ∷ taken (items r.ready) k) [] 1 → Went s m g old shown r r' a
      unfolding rest
      went_both e af =
          went shown r' (j ∷ i ∷ taken (items r.ready) k) [] 1 af
          (λ l p. subst (λ x. In x l) (sym pd.items) (snoc_in (items r.ready) j l (to l p)))
          (λ l p. from l (snoc_out (items r.ready) j l (subst (λ x. In x l) pd.items p)))
          (subst Once (sym pd.items) (snoc_once (items r.ready) j run.once (λ p. out (all_or j p)))) shown_none (e ∙ total_none)
          (let d = pd.count in omega arith)
        where
          to : (l : ℕ) → In (j ∷ i ∷ taken (items r.ready) k) l → In (j ∷ items r.ready) l
          to l p = elim (in_split j (i ∷ taken (items r.ready) k) l p) [
            | inl e ↦ subst (In (j ∷ items r.ready)) (sym e) (in_here j (items r.ready))
            | inr u ↦ in_there j (items r.ready) l (all_in l u)
          ]

          from : (l : ℕ) → In (j ∷ items r.ready) l → In (j ∷ i ∷ taken (items r.ready) k) l
          from l p = elim (in_split j (items r.ready) l p) [
            | inl e ↦ subst (In (j ∷ i ∷ taken (items r.ready) k)) (sym e) (in_here j (i ∷ taken (items r.ready) k))
            | inr u ↦ in_there j (i ∷ taken (items r.ready) k) l (all_or l u)
          ]

    -- what a turn answers, once it is known which it is
    pub turn_is : (procs' lines' : List (List ℕ)) (t u : Turn) → t ≡ u → Turned s m g r.processes.now procs' lines' (length r.processes.now) r.count i a (taken (items r.ready) k) (Ok t) →
        Turned s m g r.processes.now procs' lines' (length r.processes.now) r.count i a (taken (items r.ready) k) (Ok u)
    turn_is procs' lines' t u e = subst (λ (t : Turn). Turned s m g r.processes.now procs' lines' (length r.processes.now) r.count i a (taken (items r.ready) k) (Ok t)) e

    -- a process that is new is in no queue
    pub new_not : In (i ∷ taken (items r.ready) k) r.count → ⊥
    unfolding rest
    new_not p = let u = run.scheduled.ready r.count (all_in r.count p) in let v = nth_below a.workers r.count u.there in let w = run.holding.many in omega arith

    pub one_more : (procs' lines' : List (List ℕ)) → After s m g r.processes.now procs' lines' r.count (suc r.count) a (r.count ∷ i ∷ taken (items r.ready) k) [] 1 →
        After s m g r.processes.now procs' lines' r.count (r.count + 1) a (r.count ∷ i ∷ taken (items r.ready) k) [] 1
    one_more procs' lines' af = subst (λ (n : ℕ). After s m g r.processes.now procs' lines' r.count n a (r.count ∷ i ∷ taken (items r.ready) k) [] 1) (sym (add-one r.count)) af

-- what a turn that cannot be taken says of the run
pub breaks : (s : List ℕ) (m : Map) (shown : List ℕ) (r : Run) (k i : ℕ) → nth (items r.ready) k ≡ some i → (procs' lines' : List (List ℕ)) (e : Trouble) →
    Turns s m r.processes.now r.lines.now procs' lines' (length r.processes.now) r.count i (Err e) → Breaks s m shown r e
breaks s m shown r k i who procs' lines' Crowded t = λ g a old reads mapped run. t g a (taken (items r.ready) k) reads mapped (before s m.second shown r g a old run k i who)
breaks s m shown r k i who procs' lines' Odd t = λ g a old reads mapped run. t g a (taken (items r.ready) k) reads mapped (before s m.second shown r g a old run k i who)
