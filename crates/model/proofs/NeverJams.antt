-- A program that keeps never jams.
use mathlib.Core.Path.{◌≡◌, refl, sym}
use mathlib.Core.Logic.{◌⊎◌, inl, inr}
use mathlib.Core.List.{List, [], ◌∷◌}
use mathlib.Core.Option.{some, none}
use Prim.Native.Nat.{ℕ, zero, suc}
use native.Mathlib.Omega.{arith}
use Rattle.model.specs.Program.{nth, Program}
use Rattle.model.specs.Steps.{Endpoint, State, running, stopped, spent, Worker, Configuration, Step, alone, together}
use Rattle.model.specs.Waiting.{awaits, WaitsAt, NotWaiting, Hops, FitsWith, Meeting}
use Rattle.model.specs.Theorems.{AllStopped, Out, NeverJams, WaitingEnds, TwoThatWait}
use Rattle.model.proofs.Keeping.{Good, good}
use Rattle.model.proofs.Sound.{Sound, reached_sound}
use Rattle.model.proofs.Progress.{waits_not, ComesTo, comes_to, free_acts, acts_or_waits}
use Rattle.model.proofs.Circle.{two_holders}

-- all have stopped, or some process has not
find : (ws : List Worker) → ((i : ℕ) (w : Worker) → nth ws i ≡ some w → w.state ≡ stopped) ⊎ ((i : ℕ) × (w : Worker) × (nth ws i ≡ some w) × ((w.state ≡ running) ⊎ (w.state ≡ spent)))
find [] = inl (λ i w h. grind arith)
find (w ∷ ws) = go w.state refl (find ws)
  where
    go : (s : State) → w.state ≡ s → ((i : ℕ) (v : Worker) → nth ws i ≡ some v → v.state ≡ stopped) ⊎ ((i : ℕ) × (v : Worker) × (nth ws i ≡ some v) × ((v.state ≡ running) ⊎ (v.state ≡ spent))) →
        ((i : ℕ) (v : Worker) → nth (w ∷ ws) i ≡ some v → v.state ≡ stopped) ⊎ ((i : ℕ) × (v : Worker) × (nth (w ∷ ws) i ≡ some v) × ((v.state ≡ running) ⊎ (v.state ≡ spent)))
    go running e x = inr (0, w, refl, inl e)
    go spent e x = inr (0, w, refl, inr e)
    go stopped e (inl all) = inl (λ i v h. each i v h)
      where
        each : (i : ℕ) (v : Worker) → nth (w ∷ ws) i ≡ some v → v.state ≡ stopped
        each zero v h = let q : v ≡ w = cc in rw q e
        each (suc i) v h = all i v h
    go stopped e (inr x) = inr (suc x.0, x.1, x.2, x.3)

module _ (g : Program) (gd : Good g) (a : Configuration) (sound : Sound g a.workers a.next) where
  fits_step : (i j : ℕ) → (i ≡ j → ⊥) → FitsWith a.workers i j → (b : Configuration) × Step g a b
  fits_step i j n f = (_, together i j f.0 f.1 f.2 f.3 n f.4 f.5 f.6 f.7 f.8)

  -- two that meet are two
  apart : (i j : ℕ) → Meeting a.workers i j → i ≡ j → ⊥
  apart i j m = two_holders a.workers sound.inv.forest m.near.line i j (record {
    near = m.near;
    far = m.far;
    near_line = refl;
    far_line = sym m.line;
    sides = m.sides;
    holds_near = (m.this.0, m.this.2, (m.this.1, m.this.5));
    holds_far = (m.that.0, m.that.2, (m.that.1, m.that.5));
  })

  pub meeting_step : (i j : ℕ) → Meeting a.workers i j → (b : Configuration) × Step g a b
  meeting_step i j m = go m.fits
    where
      go : FitsWith a.workers i j ⊎ FitsWith a.workers j i → (b : Configuration) × Step g a b
      go (inl f) = fits_step i j (apart i j m) f
      go (inr f) = fits_step j i (λ e. apart i j m (sym e)) f

  pub free_step : (i : ℕ) (w : Worker) → nth a.workers i ≡ some w → w.state ≡ running → awaits w.todo ≡ none → (b : Configuration) × Step g a b
  free_step i w h r n = let f = free_acts g gd a.workers a.next sound i w h n in (_, alone i w f.0 f.1 f.2 h r f.3)

  -- who does not wait is out of turns or can take a step
  not_waiting : (i : ℕ) → NotWaiting a.workers i → Out a ⊎ ((b : Configuration) × Step g a b)
  not_waiting i n = go n.2
    where
      go : (n.0.state ≡ spent) ⊎ ((n.0.state ≡ running) × (awaits n.0.todo ≡ none)) → Out a ⊎ ((b : Configuration) × Step g a b)
      go (inl s) = inl (i, n.0, n.1, s)
      go (inr r) = inr (free_step i n.0 n.1 r.0 r.1)

  -- all have stopped, some process is out of turns, or there is a next step
  pub progress : AllStopped a ⊎ (Out a ⊎ ((b : Configuration) × Step g a b))
  progress = go (find a.workers)
    where
      ends_in : (i : ℕ) → ComesTo g gd a.workers a.next sound i → Out a ⊎ ((b : Configuration) × Step g a b)
      ends_in i r = two r.3
        where
          two : NotWaiting a.workers r.1 ⊎ ((j : ℕ) × Meeting a.workers r.1 j) → Out a ⊎ ((b : Configuration) × Step g a b)
          two (inl n) = not_waiting r.1 n
          two (inr m) = inr (meeting_step r.1 m.0 m.1)

      goes : (i : ℕ) (w : Worker) → nth a.workers i ≡ some w → w.state ≡ running → (awaits w.todo ≡ none) ⊎ ((e : Endpoint) × WaitsAt a.workers i e) → Out a ⊎ ((b : Configuration) × Step g a b)
      goes i w h r (inl n) = inr (free_step i w h r n)
      goes i w h r (inr x) = ends_in i (comes_to g gd a.workers a.next sound i x.0 x.1)

      go : AllStopped a ⊎ ((i : ℕ) × (w : Worker) × (nth a.workers i ≡ some w) × ((w.state ≡ running) ⊎ (w.state ≡ spent))) → AllStopped a ⊎ (Out a ⊎ ((b : Configuration) × Step g a b))
      go (inl all) = inl all
      go (inr x) = inr (state_of x.3)
        where
          state_of : (x.1.state ≡ running) ⊎ (x.1.state ≡ spent) → Out a ⊎ ((b : Configuration) × Step g a b)
          state_of (inl r) = goes x.0 x.1 x.2 r (acts_or_waits g gd a.workers a.next sound x.0 x.1 x.2 r)
          state_of (inr s) = inl (x.0, x.1, x.2, s)

pub never_jams : NeverJams
never_jams s g turns a reads keeps st still = go (progress g gd a (reached_sound g gd turns a st))
  where
    gd : Good g
    gd = good g reads.sides keeps

    go : AllStopped a ⊎ (Out a ⊎ ((b : Configuration) × Step g a b)) → AllStopped a ⊎ Out a
    go (inl all) = inl all
    go (inr (inl out)) = inr out
    go (inr (inr x)) = absurd (still x.0 x.1)

pub waiting_ends : WaitingEnds
waiting_ends s g turns a reads keeps st i e h = let gd = good g reads.sides keeps in comes_to g gd a.workers a.next (reached_sound g gd turns a st) i e h

pub two_that_wait : TwoThatWait
two_that_wait s g turns a reads keeps st i e h others = go r.3
  where
    r : (n : ℕ) × (k : ℕ) × Hops a.workers n i k × (NotWaiting a.workers k ⊎ ((j : ℕ) × Meeting a.workers k j))
    r = waiting_ends s g turns a reads keeps st i e h

    go : NotWaiting a.workers r.1 ⊎ ((j : ℕ) × Meeting a.workers r.1 j) → (j : ℕ) × (k : ℕ) × Meeting a.workers j k
    go (inr m) = (r.1, m.0, m.1)
    go (inl n) = absurd (two n.2 (others r.1 n.0 n.1))
      where
        two : (n.0.state ≡ spent) ⊎ ((n.0.state ≡ running) × (awaits n.0.todo ≡ none)) → (n.0.state ≡ stopped) ⊎ ((d : Endpoint) × WaitsAt a.workers r.1 d) → ⊥
        two (inl x) (inl y) = grind arith
        two (inr x) (inl y) = let z = x.0 in grind arith
        two x (inr y) = waits_not a.workers r.1 y.0 y.1 n
