-- A run of a program that keeps: what does not happen, and what its end comes to.
use Rattle.std.proofs.Common.{◌≡◌, ℕ, Bool, true, false, List, ap, subst, arith}
use mathlib.Core.Option.{Option, some, none}
use Rattle.turns.specs.Scheduling.{wish, end_of, waiting}
use Rattle.turns.specs.Turning.{Crammed, starting, becoming, Oddness, shared, crammed}
use Rattle.engine.specs.Whole.{SomeWorker, AtRest}
use Rattle.talks.specs.Once.{Finished}
use Rattle.model.specs.Program.{nth, Program}
use Rattle.model.specs.Steps.{Endpoint, Worker, Configuration, spent, Steps, begin}
use Rattle.model.specs.Keeps.{kept}
use Rattle.model.specs.Rows.{new, Reads}
use Rattle.model.specs.Picture.{Has, places, KeepsOn}
use Rattle.model.proofs.Keeping.{or_open, good}
use Rattle.model.proofs.Room.{fine_nth, start_fits, become_fits, reached_room}
use Rattle.model.proofs.Sound.{Sound, reached_sound}

-- who waits at an end holds it
waits_holds : (w : Worker) (e : Endpoint) → waiting w ≡ some e → Has w.ends e
waits_holds w e h = go (wish w.todo) h
  where
    go : (o : Option ℕ) → end_of w.ends o ≡ some e → Has w.ends e
    go none h = grind arith
    go (some c) h = (c, or_open (nth w.ends c) e h)

module _ (s : List ℕ) (g : Program) (reads : Reads s g) (keeps : kept g ≡ true) (turns : ℕ) (a : Configuration) (run : Steps g (begin g turns) a) where
  sound : Sound g a.workers a.next
  sound = reached_sound g (good g reads.sides keeps) turns a run

  keeps_on : (i : ℕ) (w : Worker) → nth a.workers i ≡ some w → KeepsOn g w.todo (places sound.point w.ends)
  keeps_on = sound.inv.kept

  not_crammed : (i : ℕ) (w : Worker) → nth a.workers i ≡ some w → Crammed g w → ⊥
  not_crammed i w h (starting f cs es t p todo is over) =
      let at = places sound.point w.ends in
      let fits = start_fits g at f cs es t (subst (λ x. KeepsOn g x at) todo (keeps_on i w h)) p is in
      let fine = fine_nth g.procs f reads.fine is in
      let room = reached_room s g reads keeps turns a run i w h in
      let n = ap new todo in
      let f1 = fits.talks in let f2 = fits.numbers in let k1 = fine.talks in let k2 = fine.vars in let k3 = fine.nums in
      omega arith
  not_crammed i w h (becoming f cs es p todo is over) =
      let at = places sound.point w.ends in
      let fits = become_fits g at f cs es (subst (λ x. KeepsOn g x at) todo (keeps_on i w h)) p is in
      let fine = fine_nth g.procs f reads.fine is in
      let f1 = fits.talks in let f2 = fits.numbers in let k1 = fine.talks in let k2 = fine.vars in let k3 = fine.nums in
      omega arith

  -- nothing odd is ever met
  pub nothing_odd : Oddness g a → ⊥
  nothing_odd (shared i j w v e ne h k rw rv ww wv) = ne (sound.inv.holder i j e (w, h, waits_holds w e ww) (v, k, waits_holds v e wv))
  nothing_odd (crammed i w h r c) = not_crammed i w h c

-- what is said of a flag that is true, or false
by_flag : {A B : Type 0} (b : Bool) (P : Bool → Type 0) → P b → (P true → A) → (P false → B) → (b ≡ true → A) × (b ≡ false → B)
by_flag true P p f g = ((λ e. f p), (λ e. let z : ◌≡◌ {A = ℕ} 0 1 = cc in absurd (omega arith)))
by_flag false P p f g = ((λ e. let z : ◌≡◌ {A = ℕ} 0 1 = cc in absurd (omega arith)), (λ e. g p))

pub finished : (g : Program) (most turns count total : ℕ) (old shown : List ℕ) (out waits : Bool) → AtRest g most turns old shown count total out waits → Finished g most turns old shown total out
finished g most turns count total old shown out waits f =
    let k = f.many in let l = f.few in
    let q = by_flag out (SomeWorker f.now spent) f.spent_is (λ x. x) (λ x y. x y.0 y.1 y.2 y.3) in
    record { end = f.now; steps = f.steps; still = f.still; few = omega arith; written = f.written; total_is = f.total_is; spent_is = q.0; not_spent = q.1 }
