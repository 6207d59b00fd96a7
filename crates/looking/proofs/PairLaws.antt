-- A step of two processes together, and where they take none.
use Rattle.std.proofs.Common.{◌≡◌, ℕ, ◌+◌, ◌-◌, ◌<◌, Bool, true, false, List, [], length, None, sym, refl, ap, ◌∙◌, subst, inl, inr, append-nil, arith, below_more}
use mathlib.Core.Option.{Option, some, none}
use Rattle.rows.specs.Decode.{instruction_at}
use Rattle.rows.proofs.Instructions.{instruction_found}
use Rattle.model.specs.Program.{nth, Program}
use Rattle.model.specs.Steps.{Endpoint, running, Worker, Configuration, Facing, together, here, more, after_together}
use Rattle.rows.specs.declared.map.Map.{Map}
use Rattle.records.specs.Records.{record_at}
use Rattle.queues.specs.Slots.{slot}
use Rattle.turns.specs.Holding.{Holds, Holding, weight}
use Rattle.turns.specs.Scheduling.{waiting}
use Rattle.turns.specs.Meeting.{Apart, Meets, Met, Exchanged}
use Rattle.model.proofs.Lists.{same?, below?, nth_below}
use Rattle.turns.proofs.Moves.{together_facing}
use Rattle.turns.proofs.HoldingLaws.{holding_two, below_as}
use Rattle.turns.proofs.Potential.{potential_drop}
use Rattle.looking.specs.Moving.{Moved, Each}
use Rattle.looking.specs.Pairing.{Faces, NoMeeting, Paired, Unmet, MetOne}
use Rattle.looking.proofs.MovingLaws.{worker_at}

-- every place comes up as one looks around
pub slot_back : (n from j : ℕ) → from < n → j < n → (k : ℕ) × (k < n) × (slot n from k ≡ j)
slot_back n from j p q = elim (below? j from) [
  | inl l ↦ (j + n - from, omega arith, let e : from + (j + n - from) ≡ j + n = omega arith in grind arith)
  | inr g ↦ (j - from, omega arith, let e : from + (j - from) ≡ j = omega arith in grind arith)
]

pub around_all : (P : ℕ → Type 0) (n from : ℕ) → from < n → ((k : ℕ) → k < n → P (slot n from k)) → (j : ℕ) → j < n → P j
around_all P n from p f j q = let b = slot_back n from j p q in subst P b.2 (f b.0 b.1)

clash : {A : Type 0} {x : A} {o : Option A} → o ≡ none → o ≡ some x → ⊥
clash e f = let z : ◌≡◌ {A = ℕ} 0 1 = cc in omega arith

other_way : {o p : Option Endpoint} → Facing o p → Facing p o
other_way f = record { a = f.b; b = f.a; is_a = f.is_b; is_b = f.is_a; line = sym f.line; sides = λ z. f.sides (sym z) }

module _ (s m : List ℕ) (procs : List (List ℕ)) (i j : ℕ) where
  not_facing : ((w v : Worker) → Holds s m (record_at procs i) w → Holds s m (record_at procs j) v → Facing (waiting w) (waiting v) → ⊥) → NoMeeting s m procs i j
  not_facing f w v w' v' hw hv = ((λ t. f w v hw hv (together_facing t)), (λ t. f w v hw hv (other_way (together_facing t))))

  pub first_nowhere : ((n : List ℕ) (w : Worker) → Holds s n (record_at procs i) w → none ≡ waiting w) → NoMeeting s m procs i j
  first_nowhere z = not_facing (λ w v hw hv f. clash (sym (z m w hw)) f.is_a)

  pub second_nowhere : ((n : List ℕ) (v : Worker) → Holds s n (record_at procs j) v → none ≡ waiting v) → NoMeeting s m procs i j
  second_nowhere z = not_facing (λ w v hw hv f. clash (sym (z m v hv)) f.is_b)

  module _ (e d : Endpoint) (at_e : (n : List ℕ) (w : Worker) → Holds s n (record_at procs i) w → some e ≡ waiting w) (at_d : (n : List ℕ) (v : Worker) → Holds s n (record_at procs j) v → some d ≡ waiting v) where
    pub ends_apart : Faces e d false → NoMeeting s m procs i j
    ends_apart no_face = not_facing (λ w v hw hv f. apart (at_e m w hw) (at_d m v hv) f.a f.b f.is_a f.is_b f.line f.sides)
      where
        apart : {o p : Option Endpoint} → some e ≡ o → some d ≡ p → (a b : Endpoint) → o ≡ some a → p ≡ some b → a.line ≡ b.line → (a.side ≡ b.side → ⊥) → ⊥
        apart x y a b is_a is_b l sd =
            let ea : e ≡ a = cc in
            let db : d ≡ b = cc in
            no_face (ap (λ (u : Endpoint). u.line) ea ∙ (l ∙ sym (ap (λ (u : Endpoint). u.line) db))) (λ z. sd (sym (ap (λ (u : Endpoint). u.side) ea) ∙ (z ∙ ap (λ (u : Endpoint). u.side) db)))

    pub nothing_apart : ((n : List ℕ) (w : Worker) → Holds s n (record_at procs i) w → ⊥) → NoMeeting s m procs i j
    nothing_apart z w v w' v' hw hv = absurd (z m w hw)

    pub exchanged : (procs' : List (List ℕ)) (b : Bool) → Faces e d true → Exchanged s m procs procs' i j b → Paired s m procs procs' i j b
    exchanged procs' true f x = (x, λ w v hw hv. record { a = e; b = d; is_a = sym (at_e m w hw); is_b = sym (at_d m v hv); line = f.0; sides = f.1 })
    exchanged procs' false f x = (x.0.0, λ w v w' v' hw hv. ((λ t. x.0.1 w v w' v' hw hv t), (λ t. x.1.1 v w v' w' hv hw t)))

  -- a worker stands at an instruction
  pub something : (n : List ℕ) (w : Worker) → Holds s n (record_at procs i) w → (at : ℕ) → at ≡ (record_at procs i).place → None ≡ instruction_at s at → ⊥
  something n w h at is_at none' =
      let f = instruction_found s (record_at procs i).place w.todo h.behind h.rows in
      let e = f.is in
      let n' : None ≡ instruction_at s (record_at procs i).place = none' ∙ ap (instruction_at s) is_at in
      let z : ◌≡◌ {A = ℕ} 0 1 = cc in omega arith

  pub met_one : (procs' : List (List ℕ)) (b : Bool) → (j ≡ i → ⊥) → (record_at procs j).state ≡ running → Paired s m procs procs' i j b → MetOne s m procs procs' i j b
  met_one procs' true ne r x = (ne, r, x)
  met_one procs' false ne r x = (x.0, λ y z. x.1)

-- Processes x and y have taken a step together.
module _ (s m : List ℕ) (g : Program) (procs procs' : List (List ℕ)) (count : ℕ) (a : Configuration) (h : Holding s m procs count a) (x y : ℕ) (wx wy : Worker) (ne : x ≡ y → ⊥)
    (nx : nth a.workers x ≡ some wx) (ny : nth a.workers y ≡ some wy) (rx : wx.state ≡ running) (ry : wy.state ≡ running) (f : Facing (waiting wx) (waiting wy)) (mt : Met s m procs procs' x y true) where
  apart : Apart procs procs' x y
  apart = (mt ne).0

  t : Meets s m procs procs' x y wx wy
  t = (mt ne).1 wx wy (h.each x wx nx) (h.each y wy ny) rx ry

  pub moved_two : Moved s m g procs procs' count count a []
  moved_two = record {
    now = after_together a x y t.first t.second';
    steps = more here (together x y wx wy t.first t.second' ne nx ny rx ry (t.together f));
    holding = holding_two s m procs procs' count a (after_together a x y t.first t.second') h x y t.first t.second' ne apart t.first_holds t.second_holds
        (below_as (omega arith) t.first_ends (h.ends x wx nx)) (below_as (omega arith) t.second_ends (h.ends y wy ny)) refl refl;
    shown = sym (append-nil a.shown);
    falls =
        let d = potential_drop s procs procs' count x 1 (let u = nth_below a.workers x nx in let v = h.many in omega arith)
        (λ k lt p. elim (same? k y) [
          | inl z ↦ (let u = t.second_less in let e1 = ap (λ l. weight (length s) (record_at procs' l)) z in let e2 = ap (λ l. weight (length s) (record_at procs l)) z in omega arith)
          | inr r ↦ (let e1 = ap (weight (length s)) (apart.others k p r) in omega arith)
        ])
        (let u = t.first_less in omega arith) in
        omega arith;
  }

pub met_moves : (s : List ℕ) (m : Map) (procs procs' : List (List ℕ)) (count i j : ℕ) → i < count → j < count → (record_at procs i).state ≡ running → MetOne s m.second procs procs' i j true →
    Each s m procs count (λ g a. Moved s m.second g procs procs' count count a [])
met_moves s m procs procs' count i j li lj ri met g a reads mapped h =
    let w = worker_at s m.second procs count i a h li ri in
    let v = worker_at s m.second procs count j a h lj met.1 in
    let f = met.2.1 w.worker v.worker (h.each i w.worker w.there) (h.each j v.worker v.there) in
    elim met.2.0 [
      | inl t ↦ moved_two s m.second g procs procs' count a h i j w.worker v.worker (λ z. met.0 (sym z)) w.there v.there w.runs v.runs f t
      | inr t ↦ moved_two s m.second g procs procs' count a h j i v.worker w.worker met.0 v.there w.there v.runs w.runs (other_way f) t
    ]

-- One after the other is looked at, and the words stay as they were.
module _ (s : List ℕ) (m : Map) (old procs procs' : List (List ℕ)) (same : procs ≡ old) where
  pub met_moves_from : (count i j : ℕ) → i < count → j < count → (record_at old i).state ≡ running → MetOne s m.second procs procs' i j true → Each s m old count (λ g a. Moved s m.second g old procs' count count a [])
  met_moves_from count i j li lj ri met = met_moves s m old procs' count i j li lj ri (subst (λ (p : List (List ℕ)). MetOne s m.second p procs' i j true) same met)

  pub unmet_more : (n from i k j : ℕ) → j ≡ slot n from k → MetOne s m.second procs procs' i j false → ((l : ℕ) → l < k → Unmet s m.second old i (slot n from l)) →
      (procs' ≡ old) × ((l : ℕ) → l < k + 1 → Unmet s m.second old i (slot n from l))
  unmet_more n from i k j is met inv = (
    met.0 ∙ same,
    below_more (λ (l : ℕ). Unmet s m.second old i (slot n from l)) k inv
        (subst (λ (l : ℕ). Unmet s m.second old i l) is (subst (λ (p : List (List ℕ)). Unmet s m.second p i j) same met.1)),
  )
