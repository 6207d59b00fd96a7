-- A run of a program that keeps does not jam, and nobody ever has too much.
use Rattle.std.proofs.Common.{◌≡◌, ℕ, Bool, true, false, List, refl, ap, subst, inl, inr, arith}
use mathlib.Core.Option.{some}
use Rattle.model.specs.Program.{nth, Program}
use Rattle.model.specs.Steps.{State, running, stopped, Worker, Configuration, Steps, begin}
use Rattle.model.specs.Keeps.{kept}
use Rattle.model.specs.Rows.{new, Reads}
use Rattle.model.specs.Picture.{places, KeepsOn}
use Rattle.model.specs.Theorems.{Still, Out}
use Rattle.turns.specs.Turning.{Crammed, starting, becoming}
use Rattle.engine.specs.Whole.{SomeWorker}
use Rattle.model.proofs.Keeping.{good}
use Rattle.model.proofs.NeverJams.{never_jams}
use Rattle.model.proofs.Room.{fine_nth, start_fits, become_fits, reached_room}
use Rattle.model.proofs.Sound.{Sound, reached_sound}
use Rattle.looking.specs.Moving.{TooWide}

pub not_kept : (b : Bool) → (b ≡ true → ⊥) → b ≡ false
not_kept true h = absurd (h refl)
not_kept false h = refl

module _ (s : List ℕ) (g : Program) (reads : Reads s g) (keeps : kept g ≡ true) (turns : ℕ) (a : Configuration) (run : Steps g (begin g turns) a) where
  pub kept_jams : Still g a → (Out a → ⊥) → SomeWorker a running true → ⊥
  kept_jams still not_out some' = elim (never_jams s g turns a reads keeps run still) [
    | inl all ↦ clash some'.3 (all some'.0 some'.1 some'.2)
    | inr out ↦ not_out out
  ]
    where
      clash : {k : State} → k ≡ running → k ≡ stopped → ⊥
      clash e f = let z : ◌≡◌ {A = ℕ} 0 1 = cc in omega arith

  sound : Sound g a.workers a.next
  sound = reached_sound g (good g reads.sides keeps) turns a run

  not_crammed : (i : ℕ) (w : Worker) → nth a.workers i ≡ some w → Crammed g w → ⊥
  not_crammed i w h (starting f cs es t p todo is over) =
      let at = places sound.point w.ends in
      let fits = start_fits g at f cs es t (subst (λ x. KeepsOn g x at) todo (sound.inv.kept i w h)) p is in
      let fine = fine_nth g.procs f reads.fine is in
      let room = reached_room s g reads keeps turns a run i w h in
      let n = ap new todo in
      let f1 = fits.talks in let f2 = fits.numbers in let k1 = fine.talks in let k2 = fine.vars in let k3 = fine.nums in
      omega arith
  not_crammed i w h (becoming f cs es p todo is over) =
      let at = places sound.point w.ends in
      let fits = become_fits g at f cs es (subst (λ x. KeepsOn g x at) todo (sound.inv.kept i w h)) p is in
      let fine = fine_nth g.procs f reads.fine is in
      let f1 = fits.talks in let f2 = fits.numbers in let k1 = fine.talks in let k2 = fine.vars in let k3 = fine.nums in
      omega arith

  pub kept_wide : TooWide g a → ⊥
  kept_wide x = not_crammed x.process x.worker x.there x.crammed
