-- Where all who are running count as ready, nobody has to be noted anywhere.
use Rattle.std.proofs.Common.{◌≡◌, ℕ, zero, suc, ◌<◌, ◌⊎◌, List, [], ◌∷◌, length, sym, refl, ap, ◌∙◌, subst, inl, inr, arith}
use mathlib.Core.Option.{Option, some, none}
use Rattle.model.specs.Program.{nth, Program}
use Rattle.model.specs.Steps.{State, running, stopped, spent, Worker, Configuration}
use Rattle.turns.specs.Holding.{Holding}
use Rattle.turns.specs.Scheduling.{In, Runs}
use Rattle.turns.specs.Turning.{Before}
use Rattle.model.proofs.Lists.{same?, nth_below}
use Rattle.turns.proofs.Queue.{in_here, in_there, in_split, in_none}

with_state : ℕ → State → List ℕ → List ℕ
with_state n running q = n ∷ q
with_state n stopped q = q
with_state n spent q = q

with_one : (n i : ℕ) → Option Worker → (n ≡ i) ⊎ (n ≡ i → ⊥) → List ℕ → List ℕ
with_one n i none d q = q
with_one n i (some w) (inl e) q = q
with_one n i (some w) (inr ne) q = with_state n w.state q

-- all processes below n but i that are running
others : List Worker → ℕ → ℕ → List ℕ
others ws i zero = []
others ws i (suc n) = with_one n i (nth ws n) (same? n i) (others ws i n)

state_in : (n : ℕ) (k : State) (q : List ℕ) (j : ℕ) → In (with_state n k q) j → ((j ≡ n) × (k ≡ running)) ⊎ In q j
unfolding with_state
state_in n running q j p = elim (in_split n q j p) [ inl e ↦ inl (e, refl) | inr u ↦ inr u ]
state_in n stopped q j p = inr p
state_in n spent q j p = inr p

state_old : (n : ℕ) (k : State) (q : List ℕ) (j : ℕ) → In q j → In (with_state n k q) j
unfolding with_state
state_old n running q j p = in_there n q j p
state_old n stopped q j p = p
state_old n spent q j p = p

state_new : (n : ℕ) (k : State) (q : List ℕ) → k ≡ running → In (with_state n k q) n
unfolding with_state
state_new n running q e = in_here n q
state_new n stopped q e = absurd (let z : ◌≡◌ {A = ℕ} 0 1 = cc in omega arith)
state_new n spent q e = absurd (let z : ◌≡◌ {A = ℕ} 0 1 = cc in omega arith)

one_in : (n i : ℕ) (o : Option Worker) (d : (n ≡ i) ⊎ (n ≡ i → ⊥)) (q : List ℕ) (j : ℕ) → In (with_one n i o d q) j → ((j ≡ n) × (n ≡ i → ⊥) × ((w : Worker) × (o ≡ some w) × (w.state ≡ running))) ⊎ In q j
unfolding with_one
one_in n i none d q j p = inr p
one_in n i (some w) (inl e) q j p = inr p
one_in n i (some w) (inr ne) q j p = elim (state_in n w.state q j p) [ inl e ↦ inl (e.0, ne, (w, refl, e.1)) | inr u ↦ inr u ]

one_old : (n i : ℕ) (o : Option Worker) (d : (n ≡ i) ⊎ (n ≡ i → ⊥)) (q : List ℕ) (j : ℕ) → In q j → In (with_one n i o d q) j
unfolding with_one
one_old n i none d q j p = p
one_old n i (some w) (inl e) q j p = p
one_old n i (some w) (inr ne) q j p = state_old n w.state q j p

one_new : (n i : ℕ) (o : Option Worker) (d : (n ≡ i) ⊎ (n ≡ i → ⊥)) (q : List ℕ) (w : Worker) → (n ≡ i → ⊥) → o ≡ some w → w.state ≡ running → In (with_one n i o d q) n
unfolding with_one
one_new n i none d q w ne e r = absurd (let z : ◌≡◌ {A = ℕ} 0 1 = cc in omega arith)
one_new n i (some v) (inl x) q w ne e r = absurd (ne x)
one_new n i (some v) (inr x) q w ne e r = let z : v ≡ w = cc in state_new n v.state q (ap (λ (u : Worker). u.state) z ∙ r)

others_run : (ws : List Worker) (i n j : ℕ) → In (others ws i n) j → Runs ws j × (j ≡ i → ⊥)
unfolding others
others_run ws i zero j p = absurd (in_none j p)
others_run ws i (suc n) j p = elim (one_in n i (nth ws n) (same? n i) (others ws i n) j p) [
  | inl e ↦ (record { worker = e.2.0; there = ap (nth ws) e.0 ∙ e.2.1; runs = e.2.2 }, λ z. e.1 (sym e.0 ∙ z))
  | inr u ↦ others_run ws i n j u
]

others_has : (ws : List Worker) (i n j : ℕ) (w : Worker) → j < n → (j ≡ i → ⊥) → nth ws j ≡ some w → w.state ≡ running → In (others ws i n) j
unfolding others
others_has ws i zero j w l ne e r = absurd (omega arith)
others_has ws i (suc n) j w l ne e r = elim (same? j n) [
  | inl z ↦ subst (In (with_one n i (nth ws n) (same? n i) (others ws i n))) (sym z) (one_new n i (nth ws n) (same? n i) (others ws i n) w (λ x. ne (z ∙ x)) (ap (nth ws) (sym z) ∙ e) r)
  | inr nz ↦ one_old n i (nth ws n) (same? n i) (others ws i n) j (others_has ws i n j w (omega arith) ne e r)
]

none_some : {j : ℕ} → none ≡ some j → ⊥
none_some e = let z : ◌≡◌ {A = ℕ} 0 1 = cc in omega arith

module _ (s m : List ℕ) (g : Program) (procs : List (List ℕ)) (count i : ℕ) (a : Configuration) (h : Holding s m procs count a) (w : Worker) (n : nth a.workers i ≡ some w) (r : w.state ≡ running) where
  pub all_others : List ℕ
  all_others = others a.workers i (length a.workers)

  ready_all : (j : ℕ) (v : Worker) → nth a.workers j ≡ some v → v.state ≡ running → In (i ∷ all_others) j
  unfolding all_others
  ready_all j v e x = elim (same? j i) [
    | inl z ↦ subst (In (i ∷ others a.workers i (length a.workers))) (sym z) (in_here i (others a.workers i (length a.workers)))
    | inr ne ↦ in_there i (others a.workers i (length a.workers)) j (others_has a.workers i (length a.workers) j v (nth_below a.workers j e) ne e x)
  ]

  ready_runs : (j : ℕ) → In (i ∷ all_others) j → Runs a.workers j
  unfolding all_others
  ready_runs j p = elim (in_split i (others a.workers i (length a.workers)) j p) [
    | inl z ↦ record { worker = w; there = ap (nth a.workers) z ∙ n; runs = r }
    | inr u ↦ (others_run a.workers i (length a.workers) j u).0
  ]

  pub before_all : Before s m g procs [] count i a all_others
  unfolding all_others
  before_all = record {
    holding = h;
    scheduled = record {
      ready = ready_runs;
      noted = λ j v e t x out l y. absurd (out (ready_all j v t x));
      waits = λ e j l o. absurd (none_some o);
      lone = λ j line v v' ws ns t x out al. out (ready_all j v t x);
      pair = λ j k v u v' u' ne t y x z out out2 tg. out (ready_all j v t x);
    };
    once = λ p. (others_run a.workers i (length a.workers) i p).1 refl;
  }
