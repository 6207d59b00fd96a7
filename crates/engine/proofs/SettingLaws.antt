-- The configuration in which a run begins is held by the words.
use Rattle.std.proofs.Common.{◌≡◌, ℕ, zero, suc, ◌<◌, ◌≤◌, List, [], ◌∷◌, length, get_or, take, set, sym, refl, ap, ◌∙◌, subst, arith, length-set, get_or-set_same}
use mathlib.Core.Option.{Option, some, none}
use Rattle.rows.specs.declared.decode.Head.{Head}
use Rattle.model.specs.Program.{nth, Program, Process}
use Rattle.model.specs.Steps.{Endpoint, running, Worker, Configuration, begun, first_worker, begin, pad, end}
use Rattle.records.specs.Records.{record_at}
use Rattle.queues.specs.Lines.{who_of, waiter_at}
use Rattle.queues.specs.Slots.{queue}
use Rattle.queues.specs.Rings.{items}
use Rattle.queues.proofs.RingLaws.{slot_none}
use Rattle.evaluation.proofs.HandingLaws.{sixteen, zeros, Zeros, none as no_zeros, more as more_zeros}
use Rattle.turns.specs.Holding.{Holds}
use Rattle.turns.specs.Scheduling.{In, Runs, Scheduled}
use Rattle.turns.proofs.MeetingLaws.{holds_as}
use Rattle.starting.specs.Heads.{HeadIs}
use Rattle.starting.specs.Beginning.{begun_with}
use Rattle.engine.specs.declared.step.Run.{Run}
use Rattle.engine.specs.Running.{Once, Running}

none_some : {A : Type 0} {x : A} {o : Option A} → o ≡ none → o ≡ some x → ⊥
none_some e f = let z : ◌≡◌ {A = ℕ} 0 1 = cc in omega arith

-- lines at whose ends nobody waits
abbrev pub Clear : List (List ℕ) → Type 0
Clear lines = (k : ℕ) → k < length lines → get_or lines k [] ≡ 0 ∷ 0 ∷ []

abbrev two : List ℕ
two = 0 ∷ 0 ∷ []

no_word : (j : ℕ) → get_or two j 0 ≡ 0
no_word zero = refl
no_word (suc zero) = refl
no_word (suc (suc j)) = refl

all_clear : (lines : List (List ℕ)) → Clear lines → (k j : ℕ) → get_or (get_or lines k []) j 0 ≡ 0
all_clear [] h k j = refl
all_clear (l ∷ ls) h zero j = ap (λ w. get_or w j 0) (h 0 (omega arith)) ∙ no_word j
all_clear (l ∷ ls) h (suc k) j = all_clear ls (λ i p. h (suc i) (omega arith)) k j

nobody : (lines : List (List ℕ)) → Clear lines → (e : Endpoint) → waiter_at lines e ≡ none
nobody lines z e = ap who_of (all_clear lines z e.line e.side)

module _ (w : Worker) where
  only : (i : ℕ) (v : Worker) → nth (w ∷ []) i ≡ some v → (i ≡ 0) × (v ≡ w)
  only zero v e = (refl, cc)
  only (suc i) v e = absurd (let z : ◌≡◌ {A = ℕ} 0 1 = cc in omega arith)

  first_in : (i : ℕ) → i ≡ 0 → In (0 ∷ []) i
  first_in i e = (0, ap some (sym e))

  first_runs : (i : ℕ) → w.state ≡ running → In (0 ∷ []) i → Runs (w ∷ []) i
  first_runs i r (zero, e) = let z : i ≡ 0 = cc in record { worker = w; there = ap (nth (w ∷ [])) z; runs = r }
  first_runs i r (suc k, e) = absurd (let z : ◌≡◌ {A = ℕ} 0 1 = cc in omega arith)

  begins_scheduled : (g : Program) (lines : List (List ℕ)) → Clear lines → w.state ≡ running → Scheduled g (w ∷ []) (waiter_at lines) (In (0 ∷ []))
  begins_scheduled g lines z r = record {
    ready = λ i p. first_runs i r p;
    noted = λ i v e n x out l y. absurd (out (first_in i (only i v n).0));
    waits = λ e i l o. absurd (none_some (nobody lines z e) o);
    lone = λ i line v v' ws ns n x out al. out (first_in i (only i v n).0);
    pair = λ i j v u v' u' ne n k x y out out2 t. out (first_in i (only i v n).0);
  }

once_one : (q : List ℕ) → q ≡ 0 ∷ [] → Once q
once_one q e = subst Once (sym e) go
  where
    go : Once (0 ∷ [])
    go zero zero i a b = refl
    go zero (suc l) i a b = absurd (let z : ◌≡◌ {A = ℕ} 0 1 = cc in omega arith)
    go (suc k) l i a b = absurd (let z : ◌≡◌ {A = ℕ} 0 1 = cc in omega arith)

zeros_pad : (n : ℕ) (l : List ℕ) → Zeros l → n ≤ length l → take n l ≡ pad n []
zeros_pad zero l z h = refl
zeros_pad (suc n) l no_zeros h = absurd (omega arith)
zeros_pad (suc n) l (more_zeros z) h = ap (λ t. 0 ∷ t) (zeros_pad n _ z (omega arith))

pub ready_is : (slots : List ℕ) → 0 < length slots → queue (set slots 0 0) 0 1 ≡ 0 ∷ []
ready_is slots some_slot =
    let l = length-set slots 0 0 in
    ap (λ j. get_or (set slots 0 0) j 0 ∷ []) (slot_none (length (set slots 0 0)) 0 (omega arith)) ∙ ap (λ n. n ∷ []) (get_or-set_same slots 0 0 0 some_slot)

-- a run whose one process begins
module _ (s m shown : List ℕ) (turns : ℕ) (g : Program) (head : Head) (h : HeadIs s m g 0 head) (r : Run)
    (first : record_at r.processes.now 0 ≡ begun_with head.body turns [] (take head.variables sixteen)) (clear : Clear r.lines.now) (ready : items r.ready ≡ 0 ∷ []) (count : r.count ≡ 1) (total : r.total ≡ 0) where
  vars_are : take head.variables sixteen ≡ pad h.process.vars []
  vars_are =
      let few = h.few in
      ap (λ n. take n sixteen) h.vars ∙ zeros_pad h.process.vars sixteen zeros (omega arith)

  first_holds : Holds s m (record_at r.processes.now 0) (begun h.process [] [] turns)
  first_holds = holds_as first (record { behind = h.behind; rows = h.rows; seconds = h.seconds; nested = h.nested; vars = vars_are; ends = refl; left = refl; state = refl })

  one : Configuration
  one = record { workers = begun h.process [] [] turns ∷ []; next = 0; shown = [] }

  begin_is : begin g turns ≡ one
  unfolding one
  begin_is = ap (λ (o : Option Process). record { workers = first_worker o turns; next = 0; shown = [] }) h.is

  pub begins_running : Running s m g shown shown r (begin g turns)
  unfolding one
  begins_running = subst (λ (c : Configuration). Running s m g shown shown r c) (sym begin_is) (record {
    holding = record {
      many = sym count;
      lines = omega arith;
      each = λ i w n. (let u = only (begun h.process [] [] turns) i w n in subst (λ (v : Worker). Holds s m (record_at r.processes.now i) v) (sym u.1) (subst (λ (j : ℕ). Holds s m (record_at r.processes.now j) (begun h.process [] [] turns)) (sym u.0) first_holds));
      ends = λ i w n c e x. (let u = only (begun h.process [] [] turns) i w n in absurd (none_some refl (ap (λ (v : Worker). end v.ends c) (sym u.1) ∙ x)));
    };
    scheduled = subst (λ q. Scheduled g (begun h.process [] [] turns ∷ []) (waiter_at r.lines.now) (In q)) (sym ready) (begins_scheduled (begun h.process [] [] turns) g r.lines.now clear refl);
    once = once_one (items r.ready) ready;
    written = refl;
    total = total;
  })
