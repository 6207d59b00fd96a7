-- A run from turn to turn, and what holds when it ends.
use Rattle.std.proofs.Common.{◌≡◌, ℕ, ◌≤◌, List, length, Err, sym, refl, ap, ◌∙◌, subst, arith}
use Rattle.model.specs.Program.{Program}
use Rattle.model.specs.Steps.{Configuration, Steps, here, more}
use Rattle.model.specs.Rows.{Reads}
use Rattle.rows.specs.declared.map.Map.{Map}
use Rattle.rows.specs.Mapped.{Mapped}
use Rattle.turns.specs.declared.turn.Trouble.{Trouble}
use Rattle.turns.specs.declared.turn.Trouble.TheVariants.{Crowded, Odd}
use Rattle.queues.specs.Lines.{waiter_at}
use Rattle.queues.specs.Slots.{queue}
use Rattle.turns.specs.Holding.{Holding}
use Rattle.turns.specs.Scheduling.{In, Scheduled}
use Rattle.turns.specs.Turning.{Oddness, OneMore}
use Rattle.turns.proofs.Moves.{still}
use Rattle.engine.specs.declared.step.Run.{Run}
use Rattle.engine.specs.Running.{InPlace, Went, Alike, Breaks, Leaves}
use Rattle.engine.specs.Ending.{Reached, Finished, TooMany, Strange, Midway, Written, Ending, Telling}

pub in_place : (r : Run) → InPlace r r
in_place r = record { processes = refl; lines = refl; slots = refl; records = refl; sides = refl; places = refl }

pub in_place_on : (r r' r'' : Run) → InPlace r r' → InPlace r' r'' → InPlace r r''
in_place_on r r' r'' a b = record {
  processes = b.processes ∙ a.processes;
  lines = b.lines ∙ a.lines;
  slots = b.slots ∙ a.slots;
  records = b.records ∙ a.records;
  sides = b.sides ∙ a.sides;
  places = b.places ∙ a.places;
}

pub steps_then : {g : Program} {a b c : Configuration} → Steps g a b → Steps g b c → Steps g a c
steps_then x here = x
steps_then x (more y s) = more (steps_then x y) s

module _ (s m : List ℕ) (g : Program) (old shown : List ℕ) (r : Run) (a : Configuration) (d : Reached s m g old shown r a) where
  pub reached_on : (shown' : List ℕ) (r' : Run) → Went s m g old shown' r r' d.now → Reached s m g old shown' r' a
  reached_on shown' r' w = record { now = w.now; steps = steps_then d.steps w.steps; running = w.running }

  pub reached_still : r.count ≤ length r.processes.now → r.ready.count ≤ 0 → Finished s m g (length r.processes.now) old r.processes.now shown r.count r.total a
  reached_still few h =
      let z : r.ready.count ≡ 0 = omega arith in
      record {
        now = d.now;
        steps = d.steps;
        still = still g d.now (waiter_at r.lines.now) (subst (λ n. Scheduled g d.now.workers (waiter_at r.lines.now) (In (queue r.ready.slots.now r.ready.head n))) z d.running.scheduled);
        holding = d.running.holding;
        few = few;
        written = d.running.written;
        total_is = d.running.total;
      }

  pub reached_crowded : (most : ℕ) → OneMore g d.now r.count × (most ≤ r.count) → TooMany g most a
  reached_crowded most o = let k = o.0.many in let l = o.1 in record { now = o.0.now; steps = more d.steps o.0.step; many = omega arith }

  pub reached_odd : Oddness g d.now → Strange g a
  reached_odd o = record { now = d.now; steps = d.steps; odd = o }

  pub tells_crowded : (shown' : List ℕ) → shown' ≡ shown → Written g old shown' a
  tells_crowded shown' same = record { now = d.now; steps = d.steps; written = same ∙ d.running.written }

  pub tells_odd : (r' : Run) (shown' : List ℕ) → r.count ≤ length r.processes.now → Oddness g d.now → Alike r r' × (shown' ≡ shown) →
      (x : Midway s m g (length r'.processes.now) old r'.processes.now shown' r'.count r'.total a) × Oddness g x.now
  tells_odd r' shown' few o same = (
    record {
      now = d.now;
      steps = d.steps;
      holding = subst (λ (n : ℕ). Holding s m r'.processes.now n d.now) (sym same.0.count) (subst (λ (p : List (List ℕ)). Holding s m p r.count d.now) (sym same.0.processes) d.running.holding);
      few = let p = ap length same.0.processes in let n = same.0.count in omega arith;
      written = same.1 ∙ d.running.written;
      total_is = same.0.total ∙ d.running.total;
    },
    o,
  )

-- what is said and told where a turn cannot be taken
module _ (s : List ℕ) (m : Map) (g : Program) (old shown : List ℕ) (r : Run) (a : Configuration) (d : Reached s m.second g old shown r a) (reads : Reads s g) (mapped : Mapped s g m)
    (shown' : List ℕ) (r' : Run) where
  pub ends_err : length r'.processes.now ≡ length r.processes.now → (e : Trouble) → Breaks s m shown r e → Ending s m.second g old shown' a r' (Err e)
  ends_err same Crowded b = reached_crowded s m.second g old shown r a d (length r'.processes.now) (let o = b g d.now old reads mapped d.running in let n = o.1 in (o.0, omega arith))
  ends_err same Odd b = reached_odd s m.second g old shown r a d (b g d.now old reads mapped d.running)

  pub tells_err : (e : Trouble) → Breaks s m shown r e → Leaves s m shown shown' r r' (Err e) → Telling s m.second g old shown' a r' (Err e)
  tells_err Crowded b l = tells_crowded s m.second g old shown r a d shown' (l g d.now old reads mapped d.running)
  tells_err Odd b l = tells_odd s m.second g old shown r a d r' shown' r.fits (b g d.now old reads mapped d.running) (l g d.now old reads mapped d.running)
