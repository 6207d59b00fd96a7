-- Two moves keep the schedule, and every turn is one of them: some ready processes become others and more are ready;
-- or one that was ready is so no more. Where nobody is ready, no step is possible.
use Rattle.std.proofs.Common.{◌≡◌, ℕ, ◌<◌, ◌⊎◌, List, [], sym, ap, ◌∙◌, subst, inl, inr, arith}
use mathlib.Core.Option.{Option, some, none}
use Rattle.model.specs.Program.{nth, Program}
use Rattle.model.specs.Steps.{Endpoint, running, Worker, Configuration, end, Alone, stops, sets, ifs, shows, starts, becomes, starts_spent, becomes_spent, Together, passes, agrees, Facing, alone, together}
use Rattle.model.specs.Theorems.{Still}
use Rattle.turns.specs.Scheduling.{wish, end_of, waiting, In, Waits, Runs, Scheduled}
use Rattle.model.proofs.Lists.{same?}

-- a schedule is one of those that are ready, not of a list of them
pub scheduled_same : {g : Program} {works : List Worker} {waiter : Endpoint → Option ℕ} {P Q : ℕ → Type 0} → ((i : ℕ) → P i → Q i) → ((i : ℕ) → Q i → P i) → Scheduled g works waiter P → Scheduled g works waiter Q
scheduled_same f h c = record {
  ready = λ i q. c.ready i (h i q);
  noted = λ i w e n r x l y. c.noted i w e n r (λ p. x (f i p)) l y;
  waits = λ e i l o. let k = c.waits e i l o in record { worker = k.worker; there = k.there; runs = k.runs; idle = λ q. k.idle (h i q); at = k.at };
  lone = λ i line w w' ws ns n r x. c.lone i line w w' ws ns n r (λ p. x (f i p));
  pair = λ i j w v w' v' ne n m r t x y. c.pair i j w v w' v' ne n m r t (λ p. x (f i p)) (λ p. y (f j p));
}

-- Whoever is not ready then was not ready before, is as it was, and is noted as before.
pub scheduled_on : {g : Program} {works works' : List Worker} {waiter waiter' : Endpoint → Option ℕ} {P Q : ℕ → Type 0} → Scheduled g works waiter P →
    ((i : ℕ) → P i → Q i) → ((i : ℕ) → Q i → Runs works' i) → ((i : ℕ) → (Q i → ⊥) → nth works' i ≡ nth works i) →
    ((e : Endpoint) (i : ℕ) → e.side < 2 → (Q i → ⊥) → waiter e ≡ some i → waiter' e ≡ some i) → ((e : Endpoint) (i : ℕ) → e.side < 2 → waiter' e ≡ some i → (waiter e ≡ some i) × (Q i → ⊥)) →
    Scheduled g works' waiter' Q
scheduled_on c more runs same keeps from = record {
  ready = runs;
  noted = λ i w e n r x l y. keeps e i l x (c.noted i w e (sym (same i x) ∙ n) r (λ p. x (more i p)) l y);
  waits = λ e i l o. let k = c.waits e i l (from e i l o).0 in let x = (from e i l o).1 in
      record { worker = k.worker; there = same i x ∙ k.there; runs = k.runs; idle = x; at = k.at };
  lone = λ i line w w' ws ns n r x. c.lone i line w w' ws ns (sym (same i x) ∙ n) r (λ p. x (more i p));
  pair = λ i j w v w' v' ne n m r t x y. c.pair i j w v w' v' ne (sym (same i x) ∙ n) (sym (same j y) ∙ m) r t (λ p. x (more i p)) (λ p. y (more j p));
}

-- Process i, now w, is ready no more: it takes no step by itself, none with another that is not ready, and where it
-- waits it is noted.
pub record Leaves (g : Program) (works : List Worker) (waiter waiter' : Endpoint → Option ℕ) (P : ℕ → Type 0) (i : ℕ) (w : Worker) : Type 0 where
  pub noted : (e : Endpoint) → w.state ≡ running → e.side < 2 → waiting w ≡ some e → waiter' e ≡ some i
  pub lone : (line : ℕ) (w' : Worker) (ws : List Worker) (ns : List ℕ) → w.state ≡ running → Alone g line w w' ws ns → ⊥
  pub first : (j : ℕ) (v w' v' : Worker) → w.state ≡ running → nth works j ≡ some v → v.state ≡ running → (P j → ⊥) → Together w v w' v' → ⊥
  pub second : (j : ℕ) (v w' v' : Worker) → w.state ≡ running → nth works j ≡ some v → v.state ≡ running → (P j → ⊥) → Together v w v' w' → ⊥
  pub from : (e : Endpoint) (k : ℕ) → e.side < 2 → waiter' e ≡ some k → (waiter e ≡ some k) ⊎ ((k ≡ i) × (w.state ≡ running) × (waiting w ≡ some e))
  pub keeps : (e : Endpoint) (k : ℕ) → e.side < 2 → (k ≡ i → ⊥) → waiter e ≡ some k → waiter' e ≡ some k

module _ {g : Program} {works : List Worker} {waiter waiter' : Endpoint → Option ℕ} {P : ℕ → Type 0} (works' : List Worker) (Q : ℕ → Type 0) (i : ℕ) (w : Worker) (c : Scheduled g works waiter P)
    (was : P i) (out : Q i → ⊥) (split : (k : ℕ) → P k → (k ≡ i) ⊎ Q k) (less : (k : ℕ) → Q k → P k) (now : nth works' i ≡ some w)
    (same : (k : ℕ) → (k ≡ i → ⊥) → nth works' k ≡ nth works k) (l : Leaves g works waiter waiter' P i w) where
  not_ready : (k : ℕ) → (k ≡ i → ⊥) → (Q k → ⊥) → P k → ⊥
  not_ready k ne x p = elim (split k p) [ inl e ↦ ne e | inr q ↦ x q ]

  is : (k : ℕ) (v : Worker) → k ≡ i → nth works' k ≡ some v → v ≡ w
  is k v e n = let n' : nth works' i ≡ some v = subst (λ j. nth works' j ≡ some v) e n in cc

  off_noted : (k : ℕ) (v : Worker) (e : Endpoint) → nth works' k ≡ some v → v.state ≡ running → (Q k → ⊥) → e.side < 2 → waiting v ≡ some e → waiter' e ≡ some k
  off_noted k v e n r x s y = elim (same? k i) [
    | inl z ↦ subst (λ j. waiter' e ≡ some j) (sym z) (l.noted e (subst (λ (u : Worker). u.state ≡ running) (is k v z n) r) s (subst (λ (u : Worker). waiting u ≡ some e) (is k v z n) y))
    | inr ne ↦ l.keeps e k s ne (c.noted k v e (sym (same k ne) ∙ n) r (not_ready k ne x) s y)
  ]

  off_waits : (e : Endpoint) (k : ℕ) → e.side < 2 → waiter' e ≡ some k → Waits works' Q e k
  off_waits e k h o = elim (l.from e k h o) [
    | inl o' ↦ (let b = c.waits e k h o' in
        let ne : k ≡ i → ⊥ = λ z. b.idle (subst P (sym z) was) in
        record { worker = b.worker; there = same k ne ∙ b.there; runs = b.runs; idle = λ q. b.idle (less k q); at = b.at })
    | inr t ↦ record { worker = w; there = ap (nth works') t.0 ∙ now; runs = t.1; idle = λ q. out (subst Q t.0 q); at = t.2 }
  ]

  off_lone : (k line : ℕ) (v w' : Worker) (ws : List Worker) (ns : List ℕ) → nth works' k ≡ some v → v.state ≡ running → (Q k → ⊥) → Alone g line v w' ws ns → ⊥
  off_lone k line v w' ws ns n r x s = elim (same? k i) [
    | inl z ↦ l.lone line w' ws ns (subst (λ (u : Worker). u.state ≡ running) (is k v z n) r) (subst (λ (u : Worker). Alone g line u w' ws ns) (is k v z n) s)
    | inr ne ↦ c.lone k line v w' ws ns (sym (same k ne) ∙ n) r (not_ready k ne x) s
  ]

  off_pair : (k j : ℕ) (v u v' u' : Worker) → (k ≡ j → ⊥) → nth works' k ≡ some v → nth works' j ≡ some u → v.state ≡ running → u.state ≡ running →
      (Q k → ⊥) → (Q j → ⊥) → Together v u v' u' → ⊥
  off_pair k j v u v' u' ne n m r t x y s = elim (same? k i) [
    | inl z ↦ (let nj : j ≡ i → ⊥ = λ y. ne (z ∙ sym y) in
        l.first j u v' u' (subst (λ (o : Worker). o.state ≡ running) (is k v z n) r) (sym (same j nj) ∙ m) t (not_ready j nj y) (subst (λ (o : Worker). Together o u v' u') (is k v z n) s))
    | inr nk ↦ elim (same? j i) [
      | inl z ↦ l.second k v u' v' (subst (λ (o : Worker). o.state ≡ running) (is j u z m) t) (sym (same k nk) ∙ n) r (not_ready k nk x) (subst (λ (o : Worker). Together v o v' u') (is j u z m) s)
      | inr nj ↦ c.pair k j v u v' u' ne (sym (same k nk) ∙ n) (sym (same j nj) ∙ m) r t (not_ready k nk x) (not_ready j nj y) s
    ]
  ]

  off_ready : (k : ℕ) → Q k → Runs works' k
  off_ready k q =
      let b = c.ready k (less k q) in
      let ne : k ≡ i → ⊥ = λ z. out (subst Q z q) in
      record { worker = b.worker; there = same k ne ∙ b.there; runs = b.runs }

  pub scheduled_off : Scheduled g works' waiter' Q
  scheduled_off = record { ready = off_ready; noted = off_noted; waits = off_waits; lone = off_lone; pair = off_pair }

-- Who acts alone waits for nobody; two that act together wait at two ends of one line.
pub alone_wish : {g : Program} {line : ℕ} {w w' : Worker} {ws : List Worker} {ns : List ℕ} → Alone g line w w' ws ns → wish w.todo ≡ none
alone_wish (stops e) = ap wish e
alone_wish (sets x v s e) = ap wish e
alone_wish (ifs v s t e) = ap wish e
alone_wish (shows v s e) = ap wish e
alone_wish (starts f cs es s p l e n m) = ap wish e
alone_wish (becomes f cs es p l e n m) = ap wish e
alone_wish (starts_spent f cs es s e m) = ap wish e
alone_wish (becomes_spent f cs es e m) = ap wish e

pub together_facing : {w v w' v' : Worker} → Together w v w' v' → Facing (waiting w) (waiting v)
together_facing {w} {v} (passes c d x e s t a b f) =
    subst (λ o. Facing o (waiting v)) (sym (ap (λ k. end_of w.ends (wish k)) a)) (subst (λ o. Facing (end w.ends c) o) (sym (ap (λ k. end_of v.ends (wish k)) b)) f)
together_facing {w} {v} (agrees c d k s t u a b f) =
    subst (λ o. Facing o (waiting v)) (sym (ap (λ k. end_of w.ends (wish k)) a)) (subst (λ o. Facing (end w.ends c) o) (sym (ap (λ k. end_of v.ends (wish k)) b)) f)

-- Where nobody is ready, the configuration is still.
pub still : (g : Program) (a : Configuration) (waiter : Endpoint → Option ℕ) → Scheduled g a.workers waiter (In []) → Still g a
still g a waiter c b (alone i w w' ws ns n r s) = c.lone i a.next w w' ws ns n r (λ k. none_in k.1) s
  where
    none_in : {i : ℕ} → none ≡ some i → ⊥
    none_in e = let z : ◌≡◌ {A = ℕ} 0 1 = cc in omega arith
still g a waiter c b (together i j w v w' v' ne n m r t s) = c.pair i j w v w' v' ne n m r t (λ k. none_in k.1) (λ k. none_in k.1) s
  where
    none_in : {i : ℕ} → none ≡ some i → ⊥
    none_in e = let z : ◌≡◌ {A = ℕ} 0 1 = cc in omega arith
