-- The ways that a step of a process by itself can go, one lemma for each.
use Rattle.std.proofs.Common.{◌≡◌, ℕ, ◌<◌, List, [], Some, None, sym, refl, ap, ◌∙◌, subst, arith}
use mathlib.Core.Option.{none}
use Rattle.rows.specs.declared.map.Map.{Map}
use Rattle.rows.specs.Mapped.{Mapped}
use Rattle.rows.specs.declared.decode.Call.{Call}
use Rattle.rows.specs.declared.decode.Head.{Head}
use Rattle.rows.specs.declared.decode.Instruction.{Instruction}
use Rattle.rows.specs.declared.decode.Instruction.TheVariants.{Stop, Set, If, Show, Start, Become}
use Rattle.rows.specs.Decode.{instruction_at, Words}
use Rattle.rows.proofs.Instructions.{Standing, at_stop, at_give, at_take, at_choose, at_offer, at_set, at_if, at_show, at_start, at_become, instruction_found}
use Rattle.model.specs.Program.{nth, Program, Action, stop}
use Rattle.model.specs.Steps.{running, stopped, spent, Worker, stops, starts_spent, becomes_spent}
use Rattle.model.specs.Rows.{Reads}
use Rattle.records.specs.Records.{record_at, Kept, ended}
use Rattle.turns.specs.Holding.{Holds}
use Rattle.turns.specs.Scheduling.{wish}
use Rattle.turns.specs.Meeting.{Doing}
use Rattle.turns.proofs.Found.{standing}
use Rattle.turns.proofs.Moves.{alone_wish}
use Rattle.starting.proofs.StartTurns.{StartIs, BecomeIs, start_is, become_is, lone_start, lone_become}
use Rattle.starting.specs.Heads.{HeadIs}
use Rattle.engine.specs.Whole.{Readable}
use Rattle.looking.specs.Moving.{Moved, Each, NotAlone}
use Rattle.looking.proofs.MovingLaws.{worker_at, halts}

pub no_stopped : stopped ≡ running → ⊥
no_stopped e = let z : ◌≡◌ {A = ℕ} 0 1 = cc in omega arith

pub no_spent : spent ≡ running → ⊥
no_spent e = let z : ◌≡◌ {A = ℕ} 0 1 = cc in omega arith

-- the two readings of a place agree
pub doing_at : (s : List ℕ) (procs : List (List ℕ)) (i at : ℕ) (k l : Instruction) → at ≡ (record_at procs i).place → Some k ≡ instruction_at s at → k ≡ l → Words s at k → Doing s procs i l
doing_at s procs i at k l e is kind words = record {
  is = ap Some (sym kind) ∙ (is ∙ ap (instruction_at s) e);
  words = subst (λ (p : ℕ). Words s p l) e (subst (Words s at) kind words);
}

-- a process whose beginning was found is there
pub head_there : (s : List ℕ) (m : Map) (f : ℕ) (head : Head) → Readable s m → ((g : Program) → Reads s g → Mapped s g m → HeadIs s m.second g f head) → ((g : Program) → Reads s g → Mapped s g m → nth g.procs f ≡ none) → ⊥
head_there s m f head r is none' =
    let x = (is r.program r.reads r.mapped).is in
    let y = none' r.program r.reads r.mapped in
    let z : ◌≡◌ {A = ℕ} 0 1 = cc in omega arith

module _ (s : List ℕ) (m : Map) (procs : List (List ℕ)) (i : ℕ) where
  starting_at : (call : Call) (w : Worker) (h : Holds s m.second (record_at procs i) w) → Doing s procs i (Start call) → StartIs s call w h.behind
  starting_at call w h d = start_is s (record_at procs i).place h.behind call w w.todo refl (standing h (record_at procs i).place (Start call) (Start call) refl d.is refl)

  becoming_at : (call : Call) (w : Worker) (h : Holds s m.second (record_at procs i) w) → Doing s procs i (Become call) → BecomeIs s call w h.behind
  becoming_at call w h d = become_is s (record_at procs i).place h.behind call w w.todo refl (standing h (record_at procs i).place (Become call) (Become call) refl d.is refl)

  module _ (procs' : List (List ℕ)) (count : ℕ) (there : i < count) (run : (record_at procs i).state ≡ running) where
    -- it stops, or is out of turns
    pub stop_moves : Doing s procs i Stop → Kept procs procs' i (ended (record_at procs i) stopped) → Each s m procs count (λ g a. Moved s m.second g procs procs' count count a [])
    stop_moves d k g a reads mapped h =
        let w = worker_at s m.second procs count i a h there run in
        let held = h.each i w.worker w.there in
        halts s m.second procs procs' count i g a h w.worker w.there w.runs stopped no_stopped k (stops (stop_is w.worker.todo (standing held (record_at procs i).place Stop Stop refl d.is refl)))
      where
        stop_is : {x : List ℕ} (t : Action) → Standing s (record_at procs i).place x Stop t → t ≡ stop
        stop_is t (at_stop r) = refl

    pub start_spends : (call : Call) → Doing s procs i (Start call) → (record_at procs i).left ≡ 0 → Kept procs procs' i (ended (record_at procs i) spent) → Each s m procs count (λ g a. Moved s m.second g procs procs' count count a [])
    start_spends call d z k g a reads mapped h =
        let w = worker_at s m.second procs count i a h there run in
        let held = h.each i w.worker w.there in
        let it = starting_at call w.worker held d in
        halts s m.second procs procs' count i g a h w.worker w.there w.runs spent no_spent k (starts_spent call.process it.cs it.es it.rest it.todo (sym held.left ∙ z))

    pub become_spends : (call : Call) → Doing s procs i (Become call) → (record_at procs i).left ≡ 0 → Kept procs procs' i (ended (record_at procs i) spent) → Each s m procs count (λ g a. Moved s m.second g procs procs' count count a [])
    become_spends call d z k g a reads mapped h =
        let w = worker_at s m.second procs count i a h there run in
        let held = h.each i w.worker w.there in
        let it = becoming_at call w.worker held d in
        halts s m.second procs procs' count i g a h w.worker w.there w.runs spent no_spent k (becomes_spent call.process it.cs it.es it.todo (sym held.left ∙ z))

  -- it would start or become a process that is not there
  pub start_stuck : (call : Call) → Doing s procs i (Start call) → ((record_at procs i).left ≡ 0 → ⊥) → ((g : Program) → Reads s g → Mapped s g m → nth g.procs call.process ≡ none) → NotAlone s m procs i
  start_stuck call d left none' g w reads mapped h line w' ws ns al =
      let it = starting_at call w h d in
      lone_start call.process it.cs it.es it.rest it.todo (none' g reads mapped) (λ z. left (h.left ∙ z)) al

  pub become_stuck : (call : Call) → Doing s procs i (Become call) → ((record_at procs i).left ≡ 0 → ⊥) → ((g : Program) → Reads s g → Mapped s g m → nth g.procs call.process ≡ none) → NotAlone s m procs i
  become_stuck call d left none' g w reads mapped h line w' ws ns al =
      let it = becoming_at call w h d in
      lone_become call.process it.cs it.es it.todo (none' g reads mapped) (λ z. left (h.left ∙ z)) al

  -- it waits for another
  module _ (at : ℕ) (is_at : at ≡ (record_at procs i).place) where
    pub nothing_stuck : None ≡ instruction_at s at → NotAlone s m procs i
    nothing_stuck n g w reads mapped h line w' ws ns al =
        let f = instruction_found s (record_at procs i).place w.todo h.behind h.rows in
        let e = f.is in
        let n' : None ≡ instruction_at s (record_at procs i).place = n ∙ ap (instruction_at s) is_at in
        let z : ◌≡◌ {A = ℕ} 0 1 = cc in omega arith

    pub waits_stuck : (k : Instruction) → Some k ≡ instruction_at s at → (k ≡ Stop → ⊥) → ((x v : ℕ) → k ≡ Set x v → ⊥) → ((c : ℕ) → k ≡ If c → ⊥) → ((v : ℕ) → k ≡ Show v → ⊥) →
        ((call : Call) → k ≡ Start call → ⊥) → ((call : Call) → k ≡ Become call → ⊥) → NotAlone s m procs i
    waits_stuck k is no_stop no_set no_if no_show no_start no_become g w reads mapped h line w' ws ns al = go w.todo k refl (standing h at k k is_at is refl) (alone_wish al)
      where
        go : {x : List ℕ} (t : Action) (l : Instruction) → k ≡ l → Standing s at x l t → wish t ≡ none → ⊥
        go t l e (at_stop r) z = no_stop e
        go t l e (at_give r) z = let y : ◌≡◌ {A = ℕ} 0 1 = cc in omega arith
        go t l e (at_take r) z = let y : ◌≡◌ {A = ℕ} 0 1 = cc in omega arith
        go t l e (at_choose r) z = let y : ◌≡◌ {A = ℕ} 0 1 = cc in omega arith
        go t l e (at_offer r) z = let y : ◌≡◌ {A = ℕ} 0 1 = cc in omega arith
        go t l e (at_set {y = y} {v = v} r) z = no_set y v e
        go t l e (at_if {v = v} r) z = no_if v e
        go t l e (at_show {v = v} r) z = no_show v e
        go t l e (at_start {k = c} r) z = no_start c e
        go t l e (at_become {k = c} r) z = no_become c e
