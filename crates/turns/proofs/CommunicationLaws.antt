-- A turn of a process that waits in a conversation.
use Rattle.std.proofs.Common.{◌≡◌, ℕ, ◌-◌, ◌<◌, true, ◌⊎◌, List, [], ◌∷◌, length, sym, refl, ap, ◌∙◌, subst, inl, inr, append-nil, arith}
use mathlib.Core.Option.{Option, some, none}
use Rattle.model.specs.Program.{nth, put, Program}
use Rattle.model.specs.Steps.{Endpoint, running, Worker, Configuration, end, Alone, Facing, Together, together, here, more, after_together}
use Rattle.records.specs.Records.{record_at}
use Rattle.queues.specs.Lines.{waiter_at, Noted, facing}
use Rattle.turns.specs.Holding.{Below, Holding, potential, weight}
use Rattle.turns.specs.Scheduling.{wish, end_of, waiting, In, Waits, Runs}
use Rattle.turns.specs.Meeting.{Apart, Meets}
use Rattle.turns.specs.Turning.{Oddness, shared, Before, After, Parked}
use Rattle.model.proofs.Lists.{same?, nth_below, nth_put_same, nth_put_other}
use Rattle.turns.proofs.Queue.{in_here, in_there, in_split}
use Rattle.turns.proofs.Potential.{potential_drop}
use Rattle.turns.proofs.HoldingLaws.{holding_two, below_as}
use Rattle.turns.proofs.Moves.{scheduled_on, Leaves, scheduled_off, alone_wish, together_facing}

-- two options that hold something hold the same where they are equal
some_inj : {A : Type 0} {x y : A} {o : Option A} → o ≡ some x → o ≡ some y → x ≡ y
some_inj e f = cc

some_none : {A : Type 0} {x : A} {o : Option A} → o ≡ some x → o ≡ none → ⊥
some_none e f = let z : ◌≡◌ {A = ℕ} 0 1 = cc in omega arith

-- ends with one line and different sides face each other
pub facing_is : (e d : Endpoint) → e.side < 2 → d.side < 2 → e.line ≡ d.line → (e.side ≡ d.side → ⊥) → d ≡ facing e
facing_is e d x y l s =
    let z : d.side ≡ 1 - e.side = omega arith in
    ap (λ n. record { line = n; side = d.side }) (sym l) ∙ ap (λ n. record { line = e.line; side = n }) z

pub facing_facing : (e : Endpoint) → e.side < 2 → facing (facing e) ≡ e
facing_facing e h = let z : 1 - (1 - e.side) ≡ e.side = omega arith in ap (λ n. record { line = e.line; side = n }) z

same_end? : (e d : Endpoint) → (e ≡ d) ⊎ (e ≡ d → ⊥)
same_end? e d = elim (same? e.line d.line) [
  | inr ne ↦ inr (λ z. ne (ap (λ (o : Endpoint). o.line) z))
  | inl l ↦ elim (same? e.side d.side) [
    | inr ne ↦ inr (λ z. ne (ap (λ (o : Endpoint). o.side) z))
    | inl s ↦ inl (ap (λ n. record { line = n; side = e.side }) l ∙ ap (λ n. record { line = d.line; side = n }) s)
  ]
]

-- the end at which a worker waits is one that it has
pub waiting_side : (n : ℕ) (v : Worker) (y : Endpoint) → Below n v.ends → waiting v ≡ some y → y.side < 2
waiting_side n v y b z = go (wish v.todo) z
  where
    go : (o : Option ℕ) → end_of v.ends o ≡ some y → y.side < 2
    go none z = absurd (some_none z refl)
    go (some d) z = (b d y z).1

module _ (s m : List ℕ) (procs lines : List (List ℕ)) (count i : ℕ) (g : Program) (a : Configuration) (q : List ℕ) (b : Before s m g procs lines count i a q) (w : Worker) (n : nth a.workers i ≡ some w) (r : w.state ≡ running) where
  -- nothing is done, and the process is ready no more
  pub stays : (procs' lines' : List (List ℕ)) → procs' ≡ procs → Leaves g a.workers (waiter_at lines) (waiter_at lines') (In (i ∷ q)) i w → After s m g procs procs' lines' count count a q [] 0
  stays procs' lines' e l = record {
    now = a;
    steps = here;
    holding = subst (λ (p : List (List ℕ)). Holding s m p count a) (sym e) b.holding;
    scheduled = scheduled_off a.workers (In q) i w b.scheduled (in_here i q) b.once (λ k p. in_split i q k p) (λ k p. in_there i q k p) n (λ k ne. refl) l;
    shown = sym (append-nil a.shown);
    falls = let z = ap (λ (p : List (List ℕ)). potential s p count) e in omega arith;
  }

  module _ (c : ℕ) (wishes : wish w.todo ≡ some c) where
    waits_in : waiting w ≡ end w.ends c
    waits_in = ap (end_of w.ends) wishes

    not_alone : (line : ℕ) (w' : Worker) (ws : List Worker) (ns : List ℕ) → w.state ≡ running → Alone g line w w' ws ns → ⊥
    not_alone line w' ws ns x y = some_none wishes (alone_wish y)

    pub no_end : (procs' lines' : List (List ℕ)) → procs' ≡ procs → lines' ≡ lines → none ≡ end (record_at procs i).ends c → After s m g procs procs' lines' count count a q [] 0
    no_end procs' lines' e f z =
        let nowhere : waiting w ≡ none = waits_in ∙ (ap (λ es. end es c) (sym (b.holding.each i w n).ends) ∙ sym z) in
        stays procs' lines' e (record {
          noted = λ d x y o. absurd (some_none o nowhere);
          lone = not_alone;
          first = λ j v w' v' x y t u o. some_none (together_facing o).is_a nowhere;
          second = λ j v w' v' x y t u o. some_none (together_facing o).is_b nowhere;
          from = λ d k x o. inl (sym (ap (λ (l : List (List ℕ)). waiter_at l d) f) ∙ o);
          keeps = λ d k x y o. ap (λ (l : List (List ℕ)). waiter_at l d) f ∙ o;
        })

    module _ (e : Endpoint) (is : some e ≡ end (record_at procs i).ends c) where
      pub at_end : waiting w ≡ some e
      at_end = waits_in ∙ (ap (λ es. end es c) (sym (b.holding.each i w n).ends) ∙ sym is)

      pub end_below : (e.line < a.next) × (e.side < 2)
      end_below = b.holding.ends i w n c e (ap (λ es. end es c) (sym (b.holding.each i w n).ends) ∙ sym is)

      pub line_below : e.line < count
      line_below = let x = end_below.0 in let y = b.holding.lines in omega arith

      -- somebody else waits at this end already
      pub taken_end : (k : ℕ) → waiter_at lines e ≡ some k → Oddness g a
      taken_end k o =
          let v = b.scheduled.waits e k end_below.1 o in
          shared i k w v.worker e (λ z. v.idle (subst (In (i ∷ q)) z (in_here i q))) n v.there r v.runs at_end v.at

      -- whoever waits at the facing end can take no step together with this process
      pub parked : (procs' lines' : List (List ℕ)) → procs' ≡ procs → Parked lines lines' e i true →
          ((j : ℕ) (v w' v' : Worker) → waiter_at lines (facing e) ≡ some j → nth a.workers j ≡ some v → Together w v w' v' → ⊥) →
          ((j : ℕ) (v w' v' : Worker) → waiter_at lines (facing e) ≡ some j → nth a.workers j ≡ some v → Together v w v' w' → ⊥) → After s m g procs procs' lines' count count a q [] 0
      parked procs' lines' same pk one two = stays procs' lines' same (record {
        noted = λ d x y o. ap (waiter_at lines') (some_inj o at_end) ∙ pk.1.at;
        lone = not_alone;
        first = λ j v w' v' x y t u o. (let f = together_facing o in one j v w' v' (there j v y t u f.a f.b f.is_a f.is_b f.line f.sides) y o);
        second = λ j v w' v' x y t u o. (let f = together_facing o in two j v w' v' (there j v y t u f.b f.a f.is_b f.is_a (sym f.line) (λ z. f.sides (sym z))) y o);
        from = λ d k x o. elim (same_end? d e) [
          | inl z ↦ inr (some_inj o (ap (waiter_at lines') z ∙ pk.1.at), r, at_end ∙ ap some (sym z))
          | inr ne ↦ inl (sym (pk.1.others d x ne) ∙ o)
        ];
        keeps = λ d k x y o. pk.1.others d x (λ z. some_none o (ap (waiter_at lines) z ∙ pk.0)) ∙ o;
      })
        where
          there : (j : ℕ) (v : Worker) → nth a.workers j ≡ some v → v.state ≡ running → (In (i ∷ q) j → ⊥) → (x y : Endpoint) → waiting w ≡ some x → waiting v ≡ some y → x.line ≡ y.line → (x.side ≡ y.side → ⊥) →
              waiter_at lines (facing e) ≡ some j
          there j v t k u x y is_x is_y l sd =
              let ex : x ≡ e = some_inj is_x at_end in
              let sy = waiting_side a.next v y (b.holding.ends j v t) is_y in
              let fy : y ≡ facing e = facing_is e y end_below.1 sy (sym (ap (λ (o : Endpoint). o.line) ex) ∙ l) (λ z. sd (ap (λ (o : Endpoint). o.side) ex ∙ z)) in
              ap (waiter_at lines) (sym fy) ∙ b.scheduled.noted j v y t k u sy is_y

      -- the one that waits at the facing end
      module _ (j : ℕ) (o : waiter_at lines (facing e) ≡ some j) where
        facing_small : (facing e).side < 2
        facing_small = omega arith

        pub other : Waits a.workers (In (i ∷ q)) (facing e) j
        other = b.scheduled.waits (facing e) j facing_small o

        pub other_below : j < count
        other_below = let x = nth_below a.workers j other.there in let y = b.holding.many in omega arith

        pub other_not : In (i ∷ q) j → ⊥
        other_not = other.idle

        pub not_itself : i ≡ j → ⊥
        not_itself z = other.idle (subst (In (i ∷ q)) z (in_here i q))

        pub facing_first : Facing (waiting w) (waiting other.worker)
        facing_first = let sd = end_below.1 in record { a = e; b = facing e; is_a = at_end; is_b = other.at; line = refl; sides = λ z. omega arith }

        pub facing_second : Facing (waiting other.worker) (waiting w)
        facing_second = let sd = end_below.1 in record { a = facing e; b = e; is_a = other.at; is_b = at_end; line = refl; sides = λ z. omega arith }

        -- Processes x and y, which are i and j in one order or the other, have taken a step together.
        module _ (procs' lines' : List (List ℕ)) (clear : Noted lines lines' (facing e) none) (x y : ℕ) (wx wy : Worker) (ne : x ≡ y → ⊥) (nx : nth a.workers x ≡ some wx) (ny : nth a.workers y ≡ some wy)
            (rx : wx.state ≡ running) (ry : wy.state ≡ running) (f : Facing (waiting wx) (waiting wy)) (in_x : In (j ∷ i ∷ q) x) (in_y : In (j ∷ i ∷ q) y)
            (apart : Apart procs procs' x y) (t : Meets s m procs procs' x y wx wy) where
          works' : List Worker
          works' = put (put a.workers x t.first) y t.second'

          nth_x : nth works' x ≡ some t.first
          unfolding works'
          nth_x = nth_put_other (put a.workers x t.first) y x t.second' (λ z. ne (sym z)) ∙ nth_put_same a.workers x t.first nx

          nth_y : nth works' y ≡ some t.second'
          unfolding works'
          nth_y = nth_put_same (put a.workers x t.first) y t.second' (nth_put_other a.workers x y t.first ne ∙ ny)

          nth_k : (k : ℕ) → (k ≡ x → ⊥) → (k ≡ y → ⊥) → nth works' k ≡ nth a.workers k
          unfolding works'
          nth_k k p r = nth_put_other (put a.workers x t.first) y k t.second' (λ z. r (sym z)) ∙ nth_put_other a.workers x k t.first (λ z. p (sym z))

          runs_k : (k : ℕ) → In (j ∷ i ∷ q) k → Runs works' k
          runs_k k p = elim (same? k x) [
            | inl z ↦ record { worker = t.first; there = ap (nth works') z ∙ nth_x; runs = t.first_runs }
            | inr kx ↦ elim (same? k y) [
              | inl z ↦ record { worker = t.second'; there = ap (nth works') z ∙ nth_y; runs = t.second_runs }
              | inr ky ↦ elim (in_split j (i ∷ q) k p) [
                | inl z ↦ record { worker = other.worker; there = nth_k k kx ky ∙ (ap (nth a.workers) z ∙ other.there); runs = other.runs }
                | inr p' ↦ (let u = b.scheduled.ready k p' in record { worker = u.worker; there = nth_k k kx ky ∙ u.there; runs = u.runs })
              ]
            ]
          ]

          met_from : (d : Endpoint) (k : ℕ) → d.side < 2 → waiter_at lines' d ≡ some k → (waiter_at lines d ≡ some k) × (In (j ∷ i ∷ q) k → ⊥)
          met_from d k l z =
              let nd : d ≡ facing e → ⊥ = λ u. some_none z (ap (waiter_at lines') u ∙ clear.at) in
              let z' : waiter_at lines d ≡ some k = sym (clear.others d l nd) ∙ z in
              let u = b.scheduled.waits d k l z' in (
                z',
                λ p. elim (in_split j (i ∷ q) k p) [
                  | inl kj ↦ nd (some_inj (sym (ap waiting (some_inj u.there (ap (nth a.workers) kj ∙ other.there))) ∙ u.at) other.at)
                  | inr p' ↦ u.idle p'
                ],
              )

          pub met : After s m g procs procs' lines' count count a (j ∷ i ∷ q) [] 1
          unfolding works'
          met = record {
            now = after_together a x y t.first t.second';
            steps = more here (together x y wx wy t.first t.second' ne nx ny rx ry (t.together f));
            holding = holding_two s m procs procs' count a (after_together a x y t.first t.second') b.holding x y t.first t.second' ne apart t.first_holds t.second_holds
                (below_as (omega arith) t.first_ends (b.holding.ends x wx nx)) (below_as (omega arith) t.second_ends (b.holding.ends y wy ny)) refl refl;
            scheduled = scheduled_on b.scheduled (λ k p. in_there j (i ∷ q) k p) runs_k
                (λ k p. nth_k k (λ z. p (subst (In (j ∷ i ∷ q)) (sym z) in_x)) (λ z. p (subst (In (j ∷ i ∷ q)) (sym z) in_y)))
                (λ d k l p z. clear.others d l (λ u. p (subst (In (j ∷ i ∷ q)) (some_inj o (sym (ap (waiter_at lines) u) ∙ z)) (in_here j (i ∷ q)))) ∙ z)
                met_from;
            shown = sym (append-nil a.shown);
            falls = potential_drop s procs procs' count x 1 (let u = nth_below a.workers x nx in let v = b.holding.many in omega arith)
                (λ k lt p. elim (same? k y) [
                  | inl z ↦ (let u = t.second_less in let e1 = ap (λ l. weight (length s) (record_at procs' l)) z in let e2 = ap (λ l. weight (length s) (record_at procs l)) z in omega arith)
                  | inr r ↦ (let e1 = ap (weight (length s)) (apart.others k p r) in omega arith)
                ])
                (let u = t.first_less in omega arith);
          }
