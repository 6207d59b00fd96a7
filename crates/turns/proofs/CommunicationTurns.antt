-- The ways that a turn in a conversation can go, one lemma for each.
use Rattle.std.proofs.Common.{◌≡◌, ℕ, ◌<◌, true, false, List, [], ◌∷◌, sym, refl, ap, ◌∙◌, subst, inl, inr, arith}
use mathlib.Core.Option.{some, none}
use Rattle.model.specs.Program.{nth, Program}
use Rattle.model.specs.Steps.{Endpoint, Worker, Configuration, end}
use Rattle.records.specs.Records.{record_at}
use Rattle.queues.specs.Lines.{waiter_at, Noted, facing}
use Rattle.turns.specs.Holding.{Holds}
use Rattle.turns.specs.Scheduling.{wish, In, Waits, Runs}
use Rattle.turns.specs.Meeting.{Met, Exchanged}
use Rattle.turns.specs.Turning.{Oddness, Before, After, Parked}
use Rattle.turns.proofs.Queue.{in_here, in_there}
use Rattle.turns.proofs.CommunicationLaws.{no_end, line_below, taken_end, parked, other, other_below, other_not, not_itself, facing_first, facing_second, met}

module _ (s m : List ℕ) (procs lines : List (List ℕ)) (count i c : ℕ) (g : Program) (a : Configuration) (q : List ℕ) (b : Before s m g procs lines count i a q)
    (wishes : (w : Worker) → nth a.workers i ≡ some w → wish w.todo ≡ some c) where
  pub turn_nowhere : none ≡ end (record_at procs i).ends c → After s m g procs procs lines count count a q [] 0
  turn_nowhere z = let u = b.scheduled.ready i (in_here i q) in no_end s m procs lines count i g a q b u.worker u.there u.runs c (wishes u.worker u.there) procs lines refl refl z

  module _ (e : Endpoint) (is : some e ≡ end (record_at procs i).ends c) where
    pub turn_line : e.line < count
    turn_line = let u = b.scheduled.ready i (in_here i q) in line_below s m procs lines count i g a q b u.worker u.there u.runs c (wishes u.worker u.there) e is

    pub turn_odd : (lines' : List (List ℕ)) → Parked lines lines' e i false → Oddness g a
    turn_odd lines' k = let u = b.scheduled.ready i (in_here i q) in taken_end s m procs lines count i g a q b u.worker u.there u.runs c (wishes u.worker u.there) e is k.0 k.1

    module _ (d : Endpoint) (is_d : d ≡ facing e) where
      pub turn_first : (lines' : List (List ℕ)) → none ≡ waiter_at lines d → Parked lines lines' e i true → After s m g procs procs lines' count count a q [] 0
      turn_first lines' z pk =
          let u = b.scheduled.ready i (in_here i q) in
          let no : (j : ℕ) → waiter_at lines (facing e) ≡ some j → ⊥ = λ j o. (let y : ◌≡◌ {A = ℕ} 0 1 = cc (ap (waiter_at lines) is_d) in omega arith) in
          parked s m procs lines count i g a q b u.worker u.there u.runs c (wishes u.worker u.there) e is procs lines' refl pk (λ j v w' v' o t f. no j o) (λ j v w' v' o t f. no j o)

      module _ (j : ℕ) (o : some j ≡ waiter_at lines d) where
        there : waiter_at lines (facing e) ≡ some j
        there = sym (o ∙ ap (waiter_at lines) is_d)

        own : Runs a.workers i
        own = b.scheduled.ready i (in_here i q)

        its_wish : wish own.worker.todo ≡ some c
        its_wish = wishes own.worker own.there

        pub turn_other : j < count
        turn_other = other_below s m procs lines count i g a q b own.worker own.there own.runs c its_wish e is j there

        waits : Waits a.workers (In (i ∷ q)) (facing e) j
        waits = other s m procs lines count i g a q b own.worker own.there own.runs c its_wish e is j there

        ne : i ≡ j → ⊥
        ne = not_itself s m procs lines count i g a q b own.worker own.there own.runs c its_wish e is j there

        pub turn_not : In (i ∷ q) j → ⊥
        turn_not = other_not s m procs lines count i g a q b own.worker own.there own.runs c its_wish e is j there

        its_holds : Holds s m (record_at procs i) own.worker
        its_holds = b.holding.each i own.worker own.there

        other_holds : Holds s m (record_at procs j) waits.worker
        other_holds = b.holding.each j waits.worker waits.there

        turn_met_first : (procs' lines' : List (List ℕ)) → Met s m procs procs' i j true → Noted lines lines' d none → After s m g procs procs' lines' count count a (j ∷ i ∷ q) [] 1 × (In (i ∷ q) j → ⊥)
        unfolding waits
        turn_met_first procs' lines' mt clear =
            let t = mt ne in (
              met s m procs lines count i g a q b own.worker own.there own.runs c its_wish e is j there procs' lines' (subst (λ x. Noted lines lines' x none) is_d clear)
                  i j own.worker waits.worker ne own.there waits.there own.runs waits.runs
                  (facing_first s m procs lines count i g a q b own.worker own.there own.runs c its_wish e is j there) (in_there j (i ∷ q) i (in_here i q)) (in_here j (i ∷ q))
                  t.0 (t.1 own.worker waits.worker its_holds other_holds own.runs waits.runs),
              turn_not,
            )

        turn_met_other : (procs' lines' : List (List ℕ)) → Met s m procs procs' j i true → Noted lines lines' d none → After s m g procs procs' lines' count count a (j ∷ i ∷ q) [] 1 × (In (i ∷ q) j → ⊥)
        unfolding waits
        turn_met_other procs' lines' mt clear =
            let ne' : j ≡ i → ⊥ = λ z. ne (sym z) in
            let t = mt ne' in (
              met s m procs lines count i g a q b own.worker own.there own.runs c its_wish e is j there procs' lines' (subst (λ x. Noted lines lines' x none) is_d clear)
                  j i waits.worker own.worker ne' waits.there own.there waits.runs own.runs
                  (facing_second s m procs lines count i g a q b own.worker own.there own.runs c its_wish e is j there) (in_here j (i ∷ q)) (in_there j (i ∷ q) i (in_here i q))
                  t.0 (t.1 waits.worker own.worker other_holds its_holds waits.runs own.runs),
              turn_not,
            )

        pub turn_met : (procs' lines' : List (List ℕ)) → Exchanged s m procs procs' i j true → Noted lines lines' d none → After s m g procs procs' lines' count count a (j ∷ i ∷ q) [] 1 × (In (i ∷ q) j → ⊥)
        turn_met procs' lines' x clear = elim x [ inl t ↦ turn_met_first procs' lines' t clear | inr t ↦ turn_met_other procs' lines' t clear ]

        -- the other is not at what fits
        pub turn_unmet : (procs' lines' : List (List ℕ)) → Exchanged s m procs procs' i j false → Parked lines lines' e i true → After s m g procs procs' lines' count count a q [] 0
        turn_unmet procs' lines' x pk =
            parked s m procs lines count i g a q b own.worker own.there own.runs c its_wish e is procs' lines' x.0.0 pk
            (λ k v w' v' z n t. x.0.1 own.worker v w' v' its_holds (its k v z n) t)
            (λ k v w' v' z n t. x.1.1 v own.worker v' w' (its k v z n) its_holds t)
          where
            its : (k : ℕ) (v : Worker) → waiter_at lines (facing e) ≡ some k → nth a.workers k ≡ some v → Holds s m (record_at procs j) v
            its k v z n = let kj : k ≡ j = cc (there) in b.holding.each j v (subst (λ l. nth a.workers l ≡ some v) kj n)
