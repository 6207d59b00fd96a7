-- What is said of a run, from how it ended.
use Rattle.std.proofs.Common.{◌≡◌, ℕ, ◌+◌, ◌*◌, ◌<◌, ◌≤◌, true, false, List, [], length, sym, refl, ◌∙◌, subst, arith}
use Rattle.model.specs.Program.{Program}
use Rattle.model.specs.Steps.{State, running, stopped, spent, Configuration, here, begin}
use Rattle.model.specs.Keeps.{kept}
use Rattle.model.specs.Rows.{Reads}
use Rattle.rows.specs.declared.lookup.Rows.{Rows}
use Rattle.rows.specs.Mapped.{Mapped}
use Rattle.rows.specs.Sections.{RowsOf}
use Rattle.turns.specs.Holding.{Holding}
use Rattle.turns.specs.Turning.{Oddness, shared, crammed}
use Rattle.engine.specs.Outs.{SomeAt}
use Rattle.engine.specs.Ending.{Midway, Finished}
use Rattle.engine.proofs.WholeLaws.{some_worker, at_rest_empty, at_once}
use Rattle.model.proofs.Lists.{nth_below}
use Rattle.exploring.specs.declared.answers.Explored.{Explored}
use Rattle.exploring.specs.declared.answers.Explored.TheVariants.{Stopped, Spent, Jammed, Crowded, Wide, Unread, Few}
use Rattle.exploring.specs.declared.answers.Left.{Left}
use Rattle.exploring.specs.Table.{Told}
use Rattle.exploring.proofs.KeptLaws.{not_kept, kept_jams, kept_wide}
use Rattle.exploring.specs.Exploring.{RunSays, RunsOut, ExploreSays, ExplorePost, TellsOf, Tells}

module _ (s m : List ℕ) (procs : List (List ℕ)) (count total : ℕ) (before : List Left) (a : Configuration) (h : Holding s m procs count a) where
  pub tells_spent : SomeAt procs count spent true → TellsOf s a total before before (Spent total)
  tells_spent t = (refl, some_worker s m procs count a h spent true t, refl)

  pub tells_jammed : (left : List Left) (n : ℕ) → SomeAt procs count spent false → SomeAt procs count running true → Told s a.workers before left n → TellsOf s a total before left (Jammed total n)
  tells_jammed left n out some' t = (
    refl,
    record {
      not_out = λ o. some_worker s m procs count a h spent false out o.0 o.1 o.2 o.3;
      someone = some_worker s m procs count a h running true some';
      told = t;
    },
  )

  pub tells_stopped : SomeAt procs count spent false → SomeAt procs count running false → TellsOf s a total before before (Stopped total)
  tells_stopped out none' = (refl, (λ i w n. stands w.state (some_worker s m procs count a h spent false out i w n) (some_worker s m procs count a h running false none' i w n)), refl)
    where
      stands : (k : State) → (k ≡ spent → ⊥) → (k ≡ running → ⊥) → k ≡ stopped
      stands running x y = absurd (y refl)
      stands stopped x y = refl
      stands spent x y = absurd (x refl)

module _ (s m : List ℕ) (g : Program) (most : ℕ) (old : List ℕ) (procs : List (List ℕ)) (shown : List ℕ) (count total : ℕ) (a : Configuration) (before left : List Left) where
  pub told_end : (r : Explored) → Finished s m g most old procs shown count total a → Tells s procs count total before left r → RunSays s g most old shown before left a r
  told_end r f t = go r (t m f.now f.holding)
    where
      few : length f.now.workers ≤ most
      few = let x = f.few in let y = f.holding.many in omega arith

      go : (r : Explored) → TellsOf s f.now total before left r → RunSays s g most old shown before left a r
      go (Stopped n) x = (record { end = f.now; steps = f.steps; still = f.still; few = few; written = f.written; count = x.0 ∙ f.total_is; says = x.1 }, x.2)
      go (Spent n) x = (record { end = f.now; steps = f.steps; still = f.still; few = few; written = f.written; count = x.0 ∙ f.total_is; says = x.1 }, x.2)
      go (Jammed n l) x = record { end = f.now; steps = f.steps; still = f.still; few = few; written = f.written; count = x.0 ∙ f.total_is; says = x.1 }
      go Crowded x = absurd x
      go Wide x = absurd x
      go Unread x = absurd x
      go Few x = absurd x

-- where something is odd, there is somebody
module _ (s m : List ℕ) (g : Program) (most : ℕ) (old : List ℕ) (procs : List (List ℕ)) (shown : List ℕ) (count total : ℕ) (a : Configuration) where
  pub some_there : (d : Midway s m g most old procs shown count total a) → Oddness g d.now → 0 < count
  some_there d (shared i j w v e ne n k r t x y) = let l = nth_below d.now.workers i n in let z = d.holding.many in omega arith
  some_there d (crammed i w n r c) = let l = nth_below d.now.workers i n in let z = d.holding.many in omega arith

pub at_begin : (s : List ℕ) (g : Program) (most turns : ℕ) (old : List ℕ) (before : List Left) → most < length (begin g turns).workers → RunSays s g most old old before before (begin g turns) Crowded
at_begin s g most turns old before h = (at_once g most turns h, record { now = begin g turns; steps = here; written = refl }, refl)

pub no_process : (s : List ℕ) (g : Program) (most turns : ℕ) (old : List ℕ) (before : List Left) → (begin g turns).workers ≡ [] → RunSays s g most old old before before (begin g turns) (Stopped 0)
no_process s g most turns old before e =
    let t = at_rest_empty g most turns old e in
    let none : length t.now.workers ≡ 0 = t.many in (
      record {
        end = t.now;
        steps = t.steps;
        still = t.still;
        few = omega arith;
        written = t.written;
        count = t.total_is;
        says = λ i w n. (let l = nth_below t.now.workers i n in absurd (omega arith));
      },
      refl,
    )

-- one program, and what is said of it
module _ (s : List ℕ) (most turns : ℕ) (old : List ℕ) (before : List Left) (words : ℕ) where
  pub explored_few : words < 4096 + 128 * most → ExplorePost s most turns old old before before words Few
  explored_few h = record { says = (refl, refl); few = ((λ x. refl), (λ x. h)) }

  pub explored_unread : (words < 4096 + 128 * most → ⊥) → ((g : Program) → Reads s g → ⊥) → ExplorePost s most turns old old before before words Unread
  explored_unread h n = record { says = (n, refl, refl); few = ((λ x. absurd (h x)), (λ x. (let z : ◌≡◌ {A = ℕ} 0 1 = cc in absurd (omega arith)))) }

  pub explored : (shown : List ℕ) (left : List Left) (r : Explored) → (words < 4096 + 128 * most → ⊥) → (g : Program) → Reads s g → RunSays s g most old shown before left (begin g turns) r → ExplorePost s most turns old shown before left words r
  explored shown left r h g reads t = record { says = says r t; few = ((λ x. absurd (h x)), (λ x. absurd (not_few r t x))) }
    where
      says : (r : Explored) → RunSays s g most old shown before left (begin g turns) r → ExploreSays s most turns old shown before left r
      says (Stopped k) x = (g, reads, x)
      says (Spent k) x = (g, reads, x)
      says (Jammed k n) x = (g, reads, not_kept (kept g) (λ e. kept_jams s g reads e turns x.end x.steps x.still x.says.not_out x.says.someone), x)
      says Crowded x = (g, reads, x)
      says Wide x = (g, reads, not_kept (kept g) (λ e. kept_wide s g reads e turns x.0.now x.0.steps x.0.wide), x)
      says Unread x = absurd x
      says Few x = absurd x

      not_few : (r : Explored) → RunSays s g most old shown before left (begin g turns) r → r ≡ Few → ⊥
      not_few (Stopped k) x e = let z : ◌≡◌ {A = ℕ} 0 1 = cc in omega arith
      not_few (Spent k) x e = let z : ◌≡◌ {A = ℕ} 0 1 = cc in omega arith
      not_few (Jammed k n) x e = let z : ◌≡◌ {A = ℕ} 0 1 = cc in omega arith
      not_few Crowded x e = let z : ◌≡◌ {A = ℕ} 0 1 = cc in omega arith
      not_few Wide x e = let z : ◌≡◌ {A = ℕ} 0 1 = cc in omega arith
      not_few Unread x e = x
      not_few Few x e = x

  pub explored_rows : (shown : List ℕ) (left : List Left) (r : Explored) → (words < 4096 + 128 * most → ⊥) → (rows : Rows) → RowsOf s rows → RunsOut rows.words.now rows.map.now most turns old shown before left r →
      ExplorePost s most turns old shown before left words r
  explored_rows shown left r h rows is t =
      let g = is.program in
      let back = sym is.words in
      let says = t g (subst (λ (x : List ℕ). Reads x g) back is.known.reads) (subst (λ (x : List ℕ). Mapped x g rows.map.now) back is.known.mapped) in
      explored shown left r h g is.known.reads (subst (λ (x : List ℕ). RunSays x g most old shown before left (begin g turns) r) is.words says)
