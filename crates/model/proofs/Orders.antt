-- All orders come to the same: from the diamond, over runs that are counted.
use mathlib.Core.Path.{◌≡◌, refl, sym, ap, ◌∙◌}
use mathlib.Core.Logic.{inl, inr}
use mathlib.Core.List.{List, [], ◌++◌, append-nil, append_assoc}
use Prim.Native.Nat.{ℕ, zero, suc, ◌+◌, ◌≤◌}
use native.Mathlib.Omega.{arith}
use lib.ListN.{length, length-append}
use Rattle.model.specs.Program.{put, Program}
use Rattle.model.specs.Steps.{Configuration, only_first, Step, alone, together, Steps, here, more, begin}
use Rattle.model.specs.Same.{renamed, Same}
use Rattle.model.specs.Theorems.{Still, Out, Counted, AnyOrder, EitherOrder, SameEnd, SameSteps, SameEndAhead, CrowdedAlike}
use Rattle.model.proofs.Lists.{length_put}
use Rattle.model.proofs.Keeping.{Good, good}
use Rattle.model.proofs.Sound.{Sound, step_sound, reached_sound}
use Rattle.model.proofs.Renaming.{same_refl, same_sym, same_trans, same_step}
use Rattle.model.proofs.Diamond.{Joins, diamond}

-- a run of so many steps from one configuration to another
abbrev pub Run : Program → ℕ → Configuration → Configuration → Type 0
Run g zero a b = a ≡ b
Run g (suc n) a b = (c : Configuration) × Step g a c × Run g n c b

run_more : (g : Program) (n : ℕ) (a b c : Configuration) → Run g n a b → Step g b c → Run g (suc n) a c
run_more g zero a b c r s = (c, rw r s, refl)
run_more g (suc n) a b c r s = (r.0, r.1, run_more g n r.0 b c r.2 s)

pub steps_run : (g : Program) (a b : Configuration) → Steps g a b → (n : ℕ) × Run g n a b
steps_run g a b here = (0, refl)
steps_run g a b (more {b = c} st s) = let r = steps_run g a c st in (suc r.0, run_more g r.0 a c b r.1 s)

pub run_steps : (g : Program) (n : ℕ) (a b c : Configuration) → Steps g a b → Run g n b c → Steps g a c
run_steps g zero a b c st r = rw (← r) st
run_steps g (suc n) a b c st r = run_steps g n a r.0 c (more st r.1) r.2

pub counted_run : (g : Program) (turns n : ℕ) (a : Configuration) → Counted g turns n a → Run g n (begin g turns) a
counted_run g turns zero a h = sym h
counted_run g turns (suc n) a h = run_more g n (begin g turns) h.0 a (counted_run g turns n h.0 h.1) h.2

-- configurations that are the same but for numbers take the same runs, and stand still alike
same_run : (g : Program) (n : ℕ) (a b c : Configuration) → Same a b → Run g n a c → (d : Configuration) × Run g n b d × Same c d
same_run g zero a b c s r = (b, refl, rw (← r) s)
same_run g (suc n) a b c s r =
    let x = same_step g a b s r.0 r.1 in
    let y = same_run g n r.0 x.0 c x.2 r.2 in
    (y.0, (x.0, x.1, y.1), y.2)

pub same_still : (g : Program) (a b : Configuration) → Same a b → Still g a → Still g b
same_still g a b s still c st = let x = same_step g b a (same_sym a b s) c st in still x.0 x.1

-- Where a run ends still, each first step leads on to the same end, in one step less.
one_step : (g : Program) → Good g → (n : ℕ) (a b e : Configuration) → Sound g a.workers a.next → Run g n a e → Still g e → Step g a b →
    (m : ℕ) × (d : Configuration) × (n ≡ suc m) × Run g m b d × Same e d
one_step g gd zero a b e sound r still st = absurd (still b (rw r at st))
one_step g gd (suc n) a b e sound r still st = go (diamond g a sound b r.0 st r.1) (λ c s. one_step g gd n r.0 c e (step_sound g gd a r.0 sound r.1) r.2 still s)
  where
    go : Joins g b r.0 → ((c : Configuration) → Step g r.0 c → (m : ℕ) × (d : Configuration) × (n ≡ suc m) × Run g m c d × Same e d) →
        (m : ℕ) × (d : Configuration) × (suc n ≡ suc m) × Run g m b d × Same e d
    go (inl q) ih = (n, e, refl, rw q r.2, same_refl e)
    go (inr x) ih =
        let y = ih x.1 x.3 in
        let z = same_run g y.0 x.1 x.0 y.1 (same_sym x.0 x.1 x.4) y.3 in
        (suc y.0, z.0, ap suc y.2, (x.0, x.2, z.1), same_trans e y.1 z.0 y.4 z.2)

-- So does each run.
pub any_run : (g : Program) → Good g → (k n : ℕ) (a b e : Configuration) → Sound g a.workers a.next → Run g n a e → Still g e → Run g k a b →
    (m : ℕ) × (d : Configuration) × (n ≡ k + m) × Run g m b d × Same e d
any_run g gd zero n a b e sound r still st = (n, e, omega arith, rw (← st) r, same_refl e)
any_run g gd (suc k) n a b e sound r still st =
    let x = one_step g gd n a st.0 e sound r still st.1 in
    let y = any_run g gd k x.0 st.0 b x.1 (step_sound g gd a st.0 sound st.1) x.3 (same_still g e x.1 x.4 still) st.2 in
    let p = x.2 in
    let q = y.2 in
    (y.0, y.1, omega arith, y.3, same_trans e x.1 y.1 x.4 y.4)

-- Two that stand still are the same, after as many steps.
two_ends : (g : Program) → Good g → (k n : ℕ) (a b e : Configuration) → Sound g a.workers a.next → Run g n a e → Still g e → Run g k a b → Still g b → (n ≡ k) × Same e b
two_ends g gd k n a b e sound r still st still' = go x.0 x.2 x.3
  where
    x : (m : ℕ) × (d : Configuration) × (n ≡ k + m) × Run g m b d × Same e d
    x = any_run g gd k n a b e sound r still st

    go : (m : ℕ) → n ≡ k + m → Run g m b x.1 → (n ≡ k) × Same e b
    go zero p q = (omega arith, rw q x.4)
    go (suc m) p q = absurd (still' q.0 q.1)

-- a step leaves no fewer processes, and what was shown stays
pub step_grows : (g : Program) (a b : Configuration) → Step g a b → length a.workers ≤ length b.workers
step_grows g a b (alone i w w' ws ns h r st) = let p = length-append (put a.workers i w') ws in let q = length_put a.workers i w' in omega arith
step_grows g a b (together i j w v w' v' d h k r q st) = let p = length_put (put a.workers i w') j v' in let t = length_put a.workers i w' in omega arith

pub step_shows : (g : Program) (a b : Configuration) → Step g a b → (ns : List ℕ) × (b.shown ≡ a.shown ++ ns)
step_shows g a b (alone i w w' ws ns h r st) = (only_first i ns, refl)
step_shows g a b (together i j w v w' v' d h k r q st) = ([], sym (append-nil a.shown))

pub steps_grow : (g : Program) (a b : Configuration) → Steps g a b → length a.workers ≤ length b.workers
steps_grow g a b here = omega arith
steps_grow g a b (more {b = c} st s) = let p = steps_grow g a c st in let q = step_grows g c b s in omega arith

pub steps_show : (g : Program) (a b : Configuration) → Steps g a b → (ns : List ℕ) × (b.shown ≡ a.shown ++ ns)
steps_show g a b here = ([], sym (append-nil a.shown))
steps_show g a b (more {b = c} st s) =
    let p = steps_show g a c st in
    let q = step_shows g c b s in
    (p.0 ++ q.0, q.1 ∙ ap (λ (x : List ℕ). x ++ q.0) p.1 ∙ append_assoc a.shown p.0 q.0)

same_out : (a b : Configuration) → Same a b → Out a → Out b
same_out a b s o = (s.processes.to o.0, renamed s.lines.to o.1, s.each o.0 o.1 o.2, o.3)

pub either_order : EitherOrder
either_order s g turns a b c reads keeps st p q = let gd = good g reads.sides keeps in diamond g a (reached_sound g gd turns a st) b c p q

pub same_end_ahead : SameEndAhead
same_end_ahead s g turns a b reads keeps st st' still =
    let gd = good g reads.sides keeps in
    let r = steps_run g (begin g turns) a st in
    let r' = steps_run g (begin g turns) b st' in
    let x = any_run g gd r.0 r'.0 (begin g turns) a b (reached_sound g gd turns (begin g turns) here) r'.1 still r.1 in
    (x.1, run_steps g x.0 a a x.1 here x.3, same_still g b x.1 x.4 still, x.4)

pub same_end : SameEnd
same_end s g turns a b reads keeps st st' still still' =
    let gd = good g reads.sides keeps in
    let r = steps_run g (begin g turns) a st in
    let r' = steps_run g (begin g turns) b st' in
    (two_ends g gd r'.0 r.0 (begin g turns) b a (reached_sound g gd turns (begin g turns) here) r.1 still r'.1 still').1

pub same_steps : SameSteps
same_steps s g turns m n a b reads keeps c d still still' =
    let gd = good g reads.sides keeps in
    (two_ends g gd n m (begin g turns) b a (reached_sound g gd turns (begin g turns) here) (counted_run g turns m a c) still (counted_run g turns n b d) still').0

pub any_order : AnyOrder
any_order s g turns a b reads keeps st st' still still' =
    let x = same_end s g turns a b reads keeps st st' still still' in
    (x.showns, x.counts, (same_out a b x, same_out b a (same_sym a b x)))

pub crowded_alike : CrowdedAlike
crowded_alike s g turns a b reads keeps st st' still =
    let x = same_end_ahead s g turns a b reads keeps st st' still in
    let p = steps_grow g a x.0 x.1 in
    let q = x.3.counts in
    omega arith
