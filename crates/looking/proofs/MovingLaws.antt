-- One step of a process by itself, from the turn in which it takes it.
use Rattle.std.proofs.Common.{◌≡◌, ℕ, zero, suc, ◌+◌, ◌-◌, ◌<◌, ◌≤◌, Bool, true, false, cond, eqb, ltb, List, [], ◌∷◌, ◌++◌, length, Option, Some, Result, Ok, Err, sym, refl, ap, ◌∙◌, subst, inl, inr, append-nil, add-zero, arith}
use mathlib.Core.Option.{some, none}
use Rattle.rows.specs.declared.map.Map.{Map}
use Rattle.rows.specs.Mapped.{Mapped}
use Rattle.rows.specs.declared.decode.Call.{Call}
use Rattle.model.specs.Program.{nth, put, Program}
use Rattle.model.specs.Steps.{State, running, stopped, spent, Worker, Configuration, halted, Alone, alone, here, more, after_alone, only_first}
use Rattle.model.specs.Rows.{Reads}
use Rattle.records.specs.Records.{record_at, Kept, ended}
use Rattle.turns.specs.declared.turn.Turn.{Turn}
use Rattle.turns.specs.declared.turn.Turn.TheVariants.{On as TurnOn, Shown as TurnShown, Both, Started as TurnStarted, Off}
use Rattle.turns.specs.declared.turn.Trouble.{Trouble}
use Rattle.turns.specs.declared.turn.Trouble.TheVariants.{Crowded, Odd}
use Rattle.turns.specs.Holding.{Holds, Holding, weight, weight_in, bank}
use Rattle.turns.specs.Turning.{Before, After, Turned, Goes, Acts}
use Rattle.turns.proofs.MeetingLaws.{place_below}
use Rattle.turns.proofs.Potential.{potential_drop}
use Rattle.turns.proofs.HoldingLaws.{holding_one}
use Rattle.turns.proofs.AloneLaws.{only_first_none}
use Rattle.model.proofs.Lists.{nth_below, nth_there}
use Rattle.starting.specs.Begins.{Begins, Settles}
use Rattle.looking.specs.declared.advance.Progress.{Progress}
use Rattle.looking.specs.declared.advance.Progress.TheVariants.{On, Shown, Started}
use Rattle.looking.specs.Moving.{Moved, told, Fails, Advanced}
use Rattle.looking.proofs.ReadyLaws.{all_others, before_all}

clash : {A : Type 0} → ◌≡◌ {A = ℕ} 0 1 → A
clash z = absurd (omega arith)

-- a turn that has lowered the potential is a move
pub moved_after : {s m : List ℕ} {g : Program} {procs procs' lines' : List (List ℕ)} {count count' : ℕ} {a : Configuration} {q ns : List ℕ} → After s m g procs procs' lines' count count' a q ns 1 → Moved s m g procs procs' count count' a ns
moved_after t = record { now = t.now; steps = t.steps; holding = t.holding; shown = t.shown; falls = let f = t.falls in omega arith }

moved_shown : {s m : List ℕ} {g : Program} {procs procs' : List (List ℕ)} {count count' : ℕ} {a : Configuration} {ns ms : List ℕ} → ns ≡ ms → Moved s m g procs procs' count count' a ns → Moved s m g procs procs' count count' a ms
moved_shown {s} {m} {g} {procs} {procs'} {count} {count'} {a} e t = subst (λ (l : List ℕ). Moved s m g procs procs' count count' a l) e t

-- the worker of a record that is running
pub record WorkerAt (a : Configuration) (i : ℕ) : Type 0 where
  pub worker : Worker
  pub there : nth a.workers i ≡ some worker
  pub runs : worker.state ≡ running

pub worker_at : (s m : List ℕ) (procs : List (List ℕ)) (count i : ℕ) (a : Configuration) → Holding s m procs count a → i < count → (record_at procs i).state ≡ running → WorkerAt a i
worker_at s m procs count i a h lt r =
    let l = h.many in
    let w = nth_there a.workers i (omega arith) in
    record { worker = w.0; there = w.1; runs = sym (h.each i w.0 w.1).state ∙ r }

-- a process that takes no further step weighs nothing
weight_out : (k : State) (n : ℕ) → (k ≡ running → ⊥) → weight_in k n ≡ 0
weight_out running n ne = absurd (ne refl)
weight_out stopped n ne = refl
weight_out spent n ne = refl

module _ (s m : List ℕ) (procs procs' : List (List ℕ)) (count i : ℕ) (g : Program) (a : Configuration) (h : Holding s m procs count a) (w : Worker) (n : nth a.workers i ≡ some w) (r : w.state ≡ running)
    (k : State) (out : k ≡ running → ⊥) (kept : Kept procs procs' i (ended (record_at procs i) k)) (al : Alone g a.next w (halted w k) [] []) where
  held : Holds s m (record_at procs i) w
  held = h.each i w n

  held_now : Holds s m (ended (record_at procs i) k) (halted w k)
  held_now = record { behind = held.behind; rows = held.rows; seconds = held.seconds; nested = held.nested; vars = held.vars; ends = held.ends; left = held.left; state = refl }

  less : weight (length s) (record_at procs' i) + 1 ≤ weight (length s) (record_at procs i)
  less =
      let z : weight (length s) (record_at procs' i) ≡ 0 = ap (weight (length s)) kept.at ∙ weight_out k ((length s - (record_at procs i).place) + bank (length s) (record_at procs i).left) out in
      let run : (record_at procs i).state ≡ running = held.state ∙ r in
      let e : weight (length s) (record_at procs i) ≡ (length s - (record_at procs i).place) + bank (length s) (record_at procs i).left = ap (λ x. weight_in x ((length s - (record_at procs i).place) + bank (length s) (record_at procs i).left)) run in
      let below = place_below held in
      omega arith

  pub halts : Moved s m g procs procs' count count a []
  halts = record {
    now = after_alone a i (halted w k) [] [];
    steps = more here (alone i w (halted w k) [] [] n r al);
    holding = holding_one s m procs procs' count a (after_alone a i (halted w k) [] []) h i (halted w k) (ended (record_at procs i) k) kept held_now (h.ends i w n) (append-nil (put a.workers i (halted w k))) (add-zero a.next);
    shown = ap (λ l. a.shown ++ l) (only_first_none i);
    falls =
        let u = nth_below a.workers i n in
        let v = h.many in
        let d = potential_drop s procs procs' count i 1 (omega arith) (λ j lt ne. let e = ap (weight (length s)) (kept.others j ne) in omega arith) less in
        omega arith;
  }

-- What is said of all schedules is said of the one in which everybody is ready.
module _ (s : List ℕ) (m : Map) (procs procs' : List (List ℕ)) (most count i : ℕ) (K : Type 0) (there : i < count) (run : (record_at procs i).state ≡ running) where
  abbrev pub TurnsAll : Result Turn Trouble → Type 0
  TurnsAll t = (lines : List (List ℕ)) (g : Program) (a : Configuration) (q : List ℕ) → Reads s g → Mapped s g m → Before s m.second g procs lines count i a q → Turned s m.second g procs procs' lines most count i a q t

  abbrev TurnedOnce : Result Turn Trouble → Type 0
  TurnedOnce t = (g : Program) (a : Configuration) → Reads s g → Mapped s g m → Holding s m.second procs count a → (q : List ℕ) × Turned s m.second g procs procs' [] most count i a q t

  once : (t : Result Turn Trouble) → TurnsAll t → TurnedOnce t
  once t f g a reads mapped h =
      let w = worker_at s m.second procs count i a h there run in (
        all_others s m.second g procs count i a h w.worker w.there w.runs,
        f [] g a (all_others s m.second g procs count i a h w.worker w.there w.runs) reads mapped
            (before_all s m.second g procs count i a h w.worker w.there w.runs),
      )

  first_shows : (v : ℕ) (b : Bool) → eqb i 0 ≡ b → TurnedOnce (Ok (TurnShown v)) → Advanced s m procs procs' most count K (Ok (Some (cond b (Shown v) On)))
  first_shows v true e f = λ g a reads mapped h. let t = f g a reads mapped h in moved_shown (shows i e) (moved_after t.1)
    where
      shows : (k : ℕ) → eqb k 0 ≡ true → only_first k (v ∷ []) ≡ v ∷ []
      shows zero x = refl
      shows (suc k) x = absurd (grind arith)
  first_shows v false e f = λ g a reads mapped h. let t = f g a reads mapped h in moved_shown (hides i e) (moved_after t.1)
    where
      hides : (k : ℕ) → eqb k 0 ≡ false → only_first k (v ∷ []) ≡ []
      hides zero x = absurd (grind arith)
      hides (suc k) x = refl

  starts_one : (b : Bool) → ltb count most ≡ b → TurnedOnce (Ok TurnStarted) → Advanced s m procs procs' most count K (cond b (Ok (Some Started)) (Err Crowded))
  starts_one true e f = (let l : count < most = grind arith in l, λ g a reads mapped h. moved_after (f g a reads mapped h).1.0)
  starts_one false e f = λ g a reads mapped h. (let l = (f g a reads mapped h).1.1 in absurd (grind arith))

  pub as_told : (t : Turn) (r : Result (Option Progress) Trouble) → r ≡ told i most count t → TurnsAll (Ok t) → (t ≡ Off → ⊥) → Advanced s m procs procs' most count K r
  as_told t r e f off = subst (Advanced s m procs procs' most count K) (sym e) (go t (once (Ok t) f) off)
    where
      go : (t : Turn) → TurnedOnce (Ok t) → (t ≡ Off → ⊥) → Advanced s m procs procs' most count K (told i most count t)
      go TurnOn f off = λ g a reads mapped h. moved_after (f g a reads mapped h).1
      go (TurnShown v) f off = first_shows v (eqb i 0) refl f
      go (Both j) f off = λ g a reads mapped h. moved_after (f g a reads mapped h).1.0
      go TurnStarted f off = starts_one (ltb count most) refl f
      go Off f off = absurd (off refl)

  -- a turn that goes on by itself
  pub goes_told : (t : Turn) (r : Result (Option Progress) Trouble) → r ≡ told i most count t → Acts s m procs procs' count i t → Goes t → Advanced s m procs procs' most count K r
  goes_told t r e f x = as_told t r e (λ lines g a q reads mapped b. f most lines g a q b) (not_off t x)
    where
      not_off : (t : Turn) → Goes t → t ≡ Off → ⊥
      not_off TurnOn x z = clash cc
      not_off (TurnShown v) x z = clash cc
      not_off (Both j) x z = x
      not_off TurnStarted x z = x
      not_off Off x z = x

  -- a start or become, by one who has a turn left, of a process that is there
  pub begins_told : (t : Turn) (r : Result (Option Progress) Trouble) (call : Call) → r ≡ told i most count t → Begins s m procs procs' most count i (Ok t) → Settles s m procs i call (Ok t) → ((record_at procs i).left ≡ 0 → ⊥) →
      (((g : Program) → Reads s g → Mapped s g m → nth g.procs call.process ≡ none) → ⊥) → Advanced s m procs procs' most count K r
  begins_told t r call e f x left is = as_told t r e f (not_off t x)
    where
      not_off : (t : Turn) → Settles s m procs i call (Ok t) → t ≡ Off → ⊥
      not_off TurnOn x z = clash cc
      not_off (TurnShown v) x z = clash cc
      not_off (Both j) x z = clash cc
      not_off TurnStarted x z = clash cc
      not_off Off x z = elim x [ inl y ↦ left y | inr y ↦ is y ]

  -- one that cannot be taken
  pub begins_fails : (e : Trouble) (call : Call) → Begins s m procs procs' most count i (Err e) → Settles s m procs i call (Err e) → Fails s m procs most count e
  begins_fails Crowded call f x = λ g a reads mapped h. (once (Err Crowded) f g a reads mapped h).1
  begins_fails Odd call f x = λ g a reads mapped h.
      let w = worker_at s m.second procs count i a h there run in
      record { process = i; worker = w.worker; there = w.there; runs = w.runs; crammed = x g w.worker reads mapped (h.each i w.worker w.there) }
