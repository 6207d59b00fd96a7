-- A run in which each step is looked for, from step to step.
use Rattle.std.proofs.Common.{◌≡◌, ℕ, suc, ◌+◌, ◌<◌, ◌≤◌, List, [], ◌∷◌, ◌++◌, length, Bool, true, false, Option, Ok, Err, sym, ap, ◌∙◌, subst, append-nil, add-one, arith}
use Rattle.model.specs.Program.{Program}
use Rattle.model.specs.Steps.{Configuration, more}
use Rattle.model.specs.Theorems.{Still}
use Rattle.turns.specs.Holding.{Holding, potential}
use Rattle.model.specs.Rows.{Reads}
use Rattle.rows.specs.declared.map.Map.{Map}
use Rattle.rows.specs.Mapped.{Mapped}
use Rattle.turns.specs.declared.turn.Trouble.{Trouble}
use Rattle.turns.specs.declared.turn.Trouble.TheVariants.{Crowded, Odd}
use Rattle.turns.specs.Turning.{OneMore}
use Rattle.engine.specs.Shown.{overlay, counted}
use Rattle.engine.specs.Ending.{Midway, Finished, TooMany, Written}
use Rattle.engine.proofs.EndingLaws.{steps_then}
use Rattle.looking.specs.declared.advance.Progress.{Progress}
use Rattle.looking.specs.Moving.{Moved, TooWide, Fails, Advanced}
use Rattle.looking.specs.Looking.{Widens, Breaks, Standing, EachRun, Rests, StepsOn, ComesTo}
use Rattle.looking.specs.declared.run.Look.{Look}

module _ (s m : List ℕ) (g : Program) (most : ℕ) (old : List ℕ) (procs : List (List ℕ)) (shown : List ℕ) (count total : ℕ) (a : Configuration) (d : Midway s m g most old procs shown count total a) where
  pub written_here : Written g old shown a
  written_here = record { now = d.now; steps = d.steps; written = d.written }

  pub midway_on : (procs' : List (List ℕ)) (shown' ns : List ℕ) (count' total' : ℕ) → Moved s m g procs procs' count count' d.now ns → count' ≤ most → shown' ≡ overlay (d.now.shown ++ ns) old → total' ≡ counted (d.now.shown ++ ns) →
      Midway s m g most old procs' shown' count' total' a × (potential s procs' count' < potential s procs count)
  midway_on procs' shown' ns count' total' t few w n = (
    record {
      now = t.now;
      steps = steps_then d.steps t.steps;
      holding = t.holding;
      few = few;
      written = w ∙ ap (λ l. overlay l old) (sym t.shown);
      total_is = n ∙ ap counted (sym t.shown);
    },
    t.falls,
  )

  pub midway_quiet : (procs' : List (List ℕ)) (count' : ℕ) → Moved s m g procs procs' count count' d.now [] → count' ≤ most → Midway s m g most old procs' shown count' total a × (potential s procs' count' < potential s procs count)
  midway_quiet procs' count' t few =
      midway_on procs' shown [] count' total t few (d.written ∙ ap (λ l. overlay l old) (sym (append-nil d.now.shown))) (d.total_is ∙ ap counted (sym (append-nil d.now.shown)))

  pub midway_one : (procs' : List (List ℕ)) → Moved s m g procs procs' count (suc count) d.now [] → count < most → Midway s m g most old procs' shown (count + 1) total a × (potential s procs' (count + 1) < potential s procs count)
  midway_one procs' t less =
      subst (λ (n : ℕ). Midway s m g most old procs' shown n total a × (potential s procs' n < potential s procs count)) (sym (add-one count)) (midway_quiet procs' (suc count) t (omega arith))

  pub midway_shows : (procs' : List (List ℕ)) (shown' : List ℕ) (v total' : ℕ) → Moved s m g procs procs' count count d.now (v ∷ []) →
      ((ns before : List ℕ) → shown ≡ overlay ns before → total ≡ counted ns → (shown' ≡ overlay (ns ++ (v ∷ [])) before) × (total' ≡ counted (ns ++ (v ∷ [])))) →
      Midway s m g most old procs' shown' count total' a × (potential s procs' count < potential s procs count)
  midway_shows procs' shown' v total' t f = let w = f d.now.shown old d.written d.total_is in midway_on procs' shown' (v ∷ []) count total' t d.few w.0 w.1

  pub midway_still : (procs' : List (List ℕ)) → procs' ≡ procs → Still g d.now → Finished s m g most old procs' shown count total a
  midway_still procs' e x = record {
    now = d.now;
    steps = d.steps;
    still = x;
    holding = subst (λ (p : List (List ℕ)). Holding s m p count d.now) (sym e) d.holding;
    few = d.few;
    written = d.written;
    total_is = d.total_is;
  }

  pub midway_crowded : OneMore g d.now count × (most ≤ count) → TooMany g most a × Written g old shown a
  midway_crowded o = let k = o.0.many in let l = o.1 in (record { now = o.0.now; steps = more d.steps o.0.step; many = omega arith }, written_here)

  pub midway_wide : TooWide g d.now → Widens g a × Written g old shown a
  midway_wide x = (record { now = d.now; steps = d.steps; wide = x }, written_here)

  pub midway_fails : (m' : Map) → m'.second ≡ m → Reads s g → Mapped s g m' → (e : Trouble) → Fails s m' procs most count e → Breaks g most old shown a e
  midway_fails m' is reads mapped Crowded f = midway_crowded (f g d.now reads mapped (subst (λ (n : List ℕ). Holding s n procs count d.now) (sym is) d.holding))
  midway_fails m' is reads mapped Odd f = midway_wide (f g d.now reads mapped (subst (λ (n : List ℕ). Holding s n procs count d.now) (sym is) d.holding))

-- what a step answers, once it is known which it is
pub step_is : (s : List ℕ) (m : Map) (procs procs' : List (List ℕ)) (most count : ℕ) (K : Type 0) (o p : Option Progress) → o ≡ p → Advanced s m procs procs' most count K (Ok o) → Advanced s m procs procs' most count K (Ok p)
step_is s m procs procs' most count K o p e = subst (λ (o : Option Progress). Advanced s m procs procs' most count K (Ok o)) e

-- a run that has come so far goes on; there is as much room as at first
module _ (s : List ℕ) (m : Map) (procs0 procs procs' : List (List ℕ)) (first shown shown' : List ℕ) (k0 k k' : Look) (same : length procs ≡ length procs0) (here : EachRun s m procs0 first k0 (λ g a old. Standing s m.second g (length procs0) old procs shown k a)) where
  on : (P : ℕ → Program → Configuration → List ℕ → Type 0) → EachRun s m procs shown k (P (length procs)) → EachRun s m procs0 first k0 (P (length procs0))
  on P x g a old reads mapped d =
      subst (λ (n : ℕ). P n g a old) same (x g a old reads mapped (subst (λ (n : ℕ). Standing s m.second g n old procs shown k a) (sym same) (here g a old reads mapped d)))

  pub goes_on : (b : Bool) → b ≡ true → StepsOn s m procs procs' shown shown' k k' (Ok b) → (0 < k'.count) × (k'.count ≤ length procs0) ×
      EachRun s m procs0 first k0 (λ g a old. Standing s m.second g (length procs0) old procs' shown' k' a × (potential s procs' k'.count < potential s procs k.count))
  goes_on false e x = let z : ◌≡◌ {A = ℕ} 0 1 = cc in absurd (omega arith)
  goes_on true e x = (x.0, let f = x.1 in omega arith, on (λ n g a old. Standing s m.second g n old procs' shown' k' a × (potential s procs' k'.count < potential s procs k.count)) x.2)

  pub comes_end : (b : Bool) → b ≡ false → StepsOn s m procs procs' shown shown' k k' (Ok b) → ComesTo s m procs0 procs' first shown' k0 (Ok k')
  comes_end true e x = let z : ◌≡◌ {A = ℕ} 0 1 = cc in absurd (omega arith)
  comes_end false e x = on (λ n g a old. Rests s m.second g n old procs' shown' k' a) x

  pub comes_err : (e : Trouble) → StepsOn s m procs procs' shown shown' k k' (Err e) → ComesTo s m procs0 procs' first shown' k0 (Err e)
  comes_err e x = on (λ n g a old. Breaks g n old shown' a e) x
