-- Whether there is a next step is decided, so that an end can be reached from every configuration on the way.
use mathlib.Core.Path.{◌≡◌, refl, ap, ◌∙◌}
use mathlib.Core.Logic.{◌⊎◌, inl, inr}
use mathlib.Core.List.{List}
use mathlib.Core.Option.{some, none}
use Prim.Native.Nat.{ℕ, zero, suc, ◌<◌}
use native.Mathlib.Omega.{arith}
use lib.ListN.{length}
use Rattle.model.specs.Program.{nth, Program}
use Rattle.model.specs.Steps.{Endpoint, State, running, stopped, spent, Worker, Configuration, Step, alone, together, Steps, here, more, begin}
use Rattle.model.specs.Picture.{Holds}
use Rattle.model.specs.Waiting.{awaits, WaitsAt, NotWaiting}
use Rattle.model.specs.Theorems.{Still, HasEnd, Confluent}
use Rattle.model.proofs.Lists.{look, same?, nth_below}
use Rattle.model.proofs.Patch.{end?}
use Rattle.model.proofs.Keeping.{Good, good}
use Rattle.model.proofs.Ends.{potential, step_lowers}
use Rattle.model.proofs.Sound.{Sound, step_sound, reached_sound}
use Rattle.model.proofs.Progress.{across, across_is, waits_once, waits_not, hop, meeting, acts_or_waits}
use Rattle.model.proofs.NeverJams.{meeting_step, free_step}
use Rattle.model.proofs.Determined.{alone_free, between}
use Rattle.model.proofs.Orders.{steps_run, run_steps, same_end_ahead}

-- process i has no part in a step: it is not at an action that needs no other, and nobody waits across from it
record Stuck (ws : List Worker) (i : ℕ) : Type 0 where
  free : (w : Worker) → nth ws i ≡ some w → w.state ≡ running → awaits w.todo ≡ none → ⊥
  met : (j : ℕ) (e d : Endpoint) → WaitsAt ws i e → WaitsAt ws j d → d ≡ across e → ⊥

module _ (g : Program) (gd : Good g) (a : Configuration) (sound : Sound g a.workers a.next) where
  stuck_not_running : (i : ℕ) (w : Worker) → nth a.workers i ≡ some w → (w.state ≡ running → ⊥) → Stuck a.workers i
  stuck_not_running i w h n = record { free = λ v k r x. n (rw (same v k) r); met = λ j e d x y q. n (rw (same x.0 x.2) x.3) }
    where
      same : (v : Worker) → nth a.workers i ≡ some v → w ≡ v
      same v k = cc

  -- a process that waits meets the one across, or nobody
  waiting_part : (i : ℕ) (e : Endpoint) → WaitsAt a.workers i e → ((b : Configuration) × Step g a b) ⊎ Stuck a.workers i
  waiting_part i e h = go (hop g gd a.workers a.next sound i e h)
    where
      not_free : (w : Worker) → nth a.workers i ≡ some w → w.state ≡ running → awaits w.todo ≡ none → ⊥
      not_free w k r x = waits_not a.workers i e h (w, k, inr (r, x))

      go : (j : ℕ) × Holds a.workers j (across e) × (NotWaiting a.workers j ⊎ ((x : Endpoint) × WaitsAt a.workers j x)) → ((b : Configuration) × Step g a b) ⊎ Stuck a.workers i
      go p = two p.2
        where
          -- who waits across from i is the one who holds that end
          across_waits : (j : ℕ) (e' d : Endpoint) → WaitsAt a.workers i e' → WaitsAt a.workers j d → d ≡ across e' → WaitsAt a.workers p.0 (across e)
          across_waits j e' d x y q =
              let ee : e' ≡ e = waits_once a.workers i e' e x h in
              let de : d ≡ across e = q ∙ ap across ee in
              let y' : WaitsAt a.workers j (across e) = rw de at y in
              let jp : j ≡ p.0 = sound.inv.holder j p.0 (across e) (y'.0, y'.2, (y'.1, y'.5)) p.1 in
              rw jp at y'

          two : NotWaiting a.workers p.0 ⊎ ((x : Endpoint) × WaitsAt a.workers p.0 x) → ((b : Configuration) × Step g a b) ⊎ Stuck a.workers i
          two (inl n) = inr (record { free = not_free; met = λ j e' d x y q. waits_not a.workers p.0 (across e) (across_waits j e' d x y q) n })
          two (inr k) = three (end? k.0 (across e))
            where
              three : (k.0 ≡ across e) ⊎ (k.0 ≡ across e → ⊥) → ((b : Configuration) × Step g a b) ⊎ Stuck a.workers i
              three (inl q) = inl (meeting_step g gd a sound i p.0 (meeting g gd a.workers a.next sound i p.0 e k.0 h k.1 q))
              three (inr n) = inr (record { free = not_free; met = λ j e' d x y q. n (waits_once a.workers p.0 k.0 (across e) k.1 (across_waits j e' d x y q)) })

  part : (i : ℕ) (w : Worker) → nth a.workers i ≡ some w → ((b : Configuration) × Step g a b) ⊎ Stuck a.workers i
  part i w h = go w.state refl
    where
      two : w.state ≡ running → (awaits w.todo ≡ none) ⊎ ((e : Endpoint) × WaitsAt a.workers i e) → ((b : Configuration) × Step g a b) ⊎ Stuck a.workers i
      two r (inl n) = inl (free_step g gd a sound i w h r n)
      two r (inr x) = waiting_part i x.0 x.1

      go : (s : State) → w.state ≡ s → ((b : Configuration) × Step g a b) ⊎ Stuck a.workers i
      go running r = two r (acts_or_waits g gd a.workers a.next sound i w h r)
      go stopped r = inr (stuck_not_running i w h (λ z. grind arith))
      go spent r = inr (stuck_not_running i w h (λ z. grind arith))

  -- some process has a part in a step, or none has
  parts : (n : ℕ) → ((b : Configuration) × Step g a b) ⊎ ((i : ℕ) (w : Worker) → i < n → nth a.workers i ≡ some w → Stuck a.workers i)
  parts zero = inr (λ i w b h. absurd (omega arith))
  parts (suc n) = go (parts n) (look a.workers n)
    where
      go : ((b : Configuration) × Step g a b) ⊎ ((i : ℕ) (w : Worker) → i < n → nth a.workers i ≡ some w → Stuck a.workers i) → (nth a.workers n ≡ none) ⊎ ((w : Worker) × (nth a.workers n ≡ some w)) →
          ((b : Configuration) × Step g a b) ⊎ ((i : ℕ) (w : Worker) → i < suc n → nth a.workers i ≡ some w → Stuck a.workers i)
      go (inl st) _ = inl st
      go (inr all) (inl z) = inr (λ i w b h. each i w b h (same? i n))
        where
          each : (i : ℕ) (w : Worker) → i < suc n → nth a.workers i ≡ some w → (i ≡ n) ⊎ (i ≡ n → ⊥) → Stuck a.workers i
          each i w b h (inl e) = let x = ap (nth a.workers) e in absurd (grind arith)
          each i w b h (inr d) = all i w (omega arith) h
      go (inr all) (inr x) = two (part n x.0 x.1)
        where
          each : Stuck a.workers n → (i : ℕ) (w : Worker) → i < suc n → nth a.workers i ≡ some w → (i ≡ n) ⊎ (i ≡ n → ⊥) → Stuck a.workers i
          each s i w b h (inl e) = rw e s
          each s i w b h (inr d) = all i w (omega arith) h

          two : ((b : Configuration) × Step g a b) ⊎ Stuck a.workers n → ((b : Configuration) × Step g a b) ⊎ ((i : ℕ) (w : Worker) → i < suc n → nth a.workers i ≡ some w → Stuck a.workers i)
          two (inl st) = inl st
          two (inr s) = inr (λ i w b h. each s i w b h (same? i n))

  stuck_still : ((i : ℕ) (w : Worker) → i < length a.workers → nth a.workers i ≡ some w → Stuck a.workers i) → Still g a
  stuck_still all b (alone i w w' ws ns h r st) = (all i w (nth_below a.workers i h) h).free w h r (alone_free g a.next w w' ws ns st)
  stuck_still all b (together i j w v w' v' d h k r q st) =
      let x = between w v w' v' st in
      let mi = sound.inv.made i x.near (w, h, (x.c, x.is_near)) in
      let mj = sound.inv.made j x.far (v, k, (x.d, x.is_far)) in
      (all i w (nth_below a.workers i h) h).met j x.near x.far (w, x.c, h, r, x.near_awaited, x.is_near) (v, x.d, k, q, x.far_awaited, x.is_far) (across_is x.near x.far x.lines x.sides mi.1 mj.1)

  pub decided : ((b : Configuration) × Step g a b) ⊎ Still g a
  decided = go (parts (length a.workers))
    where
      go : ((b : Configuration) × Step g a b) ⊎ ((i : ℕ) (w : Worker) → i < length a.workers → nth a.workers i ≡ some w → Stuck a.workers i) → ((b : Configuration) × Step g a b) ⊎ Still g a
      go (inl st) = inl st
      go (inr all) = inr (stuck_still all)

-- going on as long as there is a step comes to an end
pub goes_to_end : (g : Program) → Good g → (fuel : ℕ) (begun a : Configuration) → Steps g begun a → Sound g a.workers a.next → potential g a < fuel → (b : Configuration) × Steps g begun b × Still g b
goes_to_end g gd zero begun a st sound low = absurd (omega arith)
goes_to_end g gd (suc fuel) begun a st sound low = go (decided g gd a sound) (λ b s l. goes_to_end g gd fuel begun b (more st s) (step_sound g gd a b sound s) l)
  where
    go : ((b : Configuration) × Step g a b) ⊎ Still g a → ((b : Configuration) → Step g a b → potential g b < fuel → (c : Configuration) × Steps g begun c × Still g c) → (b : Configuration) × Steps g begun b × Still g b
    go (inr still) ih = (a, st, still)
    go (inl x) ih = let l = step_lowers g a x.0 x.1 in ih x.0 x.1 (omega arith)

pub has_end : HasEnd
has_end s g turns a reads keeps st = let gd = good g reads.sides keeps in goes_to_end g gd (suc (potential g a)) a a here (reached_sound g gd turns a st) (omega arith)

pub confluent : Confluent
confluent s g turns a b reads keeps st st' =
    let x = has_end s g turns a reads keeps st in
    let r = steps_run g a x.0 x.1 in
    let y = same_end_ahead s g turns b x.0 reads keeps st' (run_steps g r.0 (begin g turns) a x.0 st r.1) x.2 in
    (x.0, y.0, x.1, y.1, y.3)
