-- In a program that keeps, no process comes to more than sixteen conversations, and none is handed more than sixteen
-- conversations or numbers.
use mathlib.Core.Path.{◌≡◌, refl, sym, ap, ◌∙◌, subst}
use mathlib.Core.Logic.{◌⊎◌, inl, inr}
use mathlib.Core.Bool.{Bool, true, false, cond}
use mathlib.Core.List.{List, [], ◌∷◌, ◌++◌}
use mathlib.Core.Option.{Option, some, none}
use Prim.Native.Nat.{ℕ, zero, suc, ◌+◌, ◌≤◌, max}
use native.Mathlib.Omega.{arith}
use lib.ListN.{length, length-append}
use lib.Dec.{eqb}
use Rattle.model.specs.Program.{nth, or, put, Expression, Action, start, become, Process, Program, values}
use Rattle.model.specs.Keeps.{At, is, hands, kept}
use Rattle.model.specs.Rows.{new, Fine, AllFine, Reads}
use Rattle.model.specs.Steps.{Endpoint, Worker, Configuration, own_end, far_end, begun, first_worker, ends_of, without, Alone, stops, sets, ifs, shows, starts, becomes, starts_spent, becomes_spent, Together, passes, agrees, Step, alone, together, Steps, here, more, begin}
use Rattle.model.specs.Picture.{places, KeepsOn}
use Rattle.model.proofs.Lists.{length_put, nth_put_split, nth_append_split}
use Rattle.model.proofs.Keeping.{next, numbers_start, numbers_become, Good, good}
use Rattle.model.proofs.Sound.{Sound, reached_sound}

-- handing on takes as many conversations as are wanted
hands_many : (a : At) (cs ts : List ℕ) (b : At) → hands a cs ts ≡ some b → length cs ≡ length ts
hands_many a [] [] b h = refl
hands_many a [] (t ∷ ts) b h = grind arith
hands_many a (c ∷ cs) [] b h = grind arith
hands_many a (c ∷ cs) (t ∷ ts) b h = go (is (or none (nth a c)) t) h (hands_many (put a c none) cs ts b)
  where
    go : (q : Bool) → cond q (hands (put a c none) cs ts) none ≡ some b → (hands (put a c none) cs ts ≡ some b → length cs ≡ length ts) → length (c ∷ cs) ≡ length (t ∷ ts)
    go true h ih = ap suc (ih h)
    go false h ih = grind arith

without_length : (es : List (Option Endpoint)) (cs : List ℕ) → length (without es cs) ≡ length es
without_length es [] = refl
without_length es (c ∷ cs) = without_length (put es c none) cs ∙ length_put es c none

ends_of_length : (es : List (Option Endpoint)) (cs : List ℕ) → length (ends_of es cs) ≡ length cs
ends_of_length es [] = refl
ends_of_length es (c ∷ cs) = ap suc (ends_of_length es cs)

pub fine_nth : (ps : List Process) (i : ℕ) {p : Process} → AllFine ps → nth ps i ≡ some p → Fine p
fine_nth [] i f h = grind arith
fine_nth (q ∷ ps) zero {p} f h = let e : q ≡ p = cc in subst Fine e f.0
fine_nth (q ∷ ps) (suc i) f h = fine_nth ps i f.1 h

-- what is handed to a process fits it
pub record Fits (g : Program) (f : ℕ) (cs : List ℕ) (es : List Expression) (own : ℕ) (p : Process) : Type 0 where
  pub talks : length cs + own ≡ length p.talks
  pub numbers : length es ≡ p.nums

module _ (g : Program) (a : At) (f : ℕ) (cs : List ℕ) (es : List Expression) where
  pub start_fits : (s : Action) → KeepsOn g (start f cs es s) a → (p : Process) → nth g.procs f ≡ some p → Fits g f cs es 1 p
  start_fits s k p h =
      let n = next g (start f cs es s) a k in
      let q = n.is_process in
      let same : n.process ≡ p = cc in
      let l = hands_many a cs n.handed n.left n.hands_on in
      let t = ap length n.talks in
      let u = ap (λ r. length r.talks) same in
      record { talks = omega arith; numbers = numbers_start g f cs es s a k p h }

  pub become_fits : KeepsOn g (become f cs es) a → (p : Process) → nth g.procs f ≡ some p → Fits g f cs es 0 p
  become_fits k p h =
      let n = next g (become f cs es) a k in
      let q = n.is_process in
      let same : n.process ≡ p = cc in
      let l = hands_many a cs n.process.talks n.left n.hands_on in
      let u = ap (λ r. length r.talks) same in
      record { talks = omega arith; numbers = numbers_become g f cs es a k p h }

-- there is room for the conversations that a process has and may get
abbrev pub Room : Worker → Type 0
Room w = length w.ends + new w.todo ≤ 16

abbrev pub Roomy : List Worker → Type 0
Roomy ws = (i : ℕ) (w : Worker) → nth ws i ≡ some w → Room w

alone_room : (g : Program) (point : Endpoint → ℕ) → AllFine g.procs → (line : ℕ) (w w' : Worker) (ws : List Worker) (ns : List ℕ) → KeepsOn g w.todo (places point w.ends) → Room w → Alone g line w w' ws ns → Room w' × Roomy ws
alone_room g point fine line w w' ws ns k r (stops e) = (r, λ i v h. grind arith)
alone_room g point fine line w w' ws ns k r (sets x e s t) = (let n = ap new t in omega arith, λ i v h. grind arith)
alone_room g point fine line w w' ws ns k r (ifs e s t h) = (go (eqb _ 0), λ i v z. grind arith)
  where
    n : new w.todo ≡ max (new s) (new t)
    n = ap new h

    go : (b : Bool) → length w.ends + new (cond b t s) ≤ 16
    go true = let q = n in omega arith
    go false = let q = n in omega arith
alone_room g point fine line w w' ws ns k r (shows e s h) = (let n = ap new h in omega arith, λ i v z. grind arith)
alone_room g point fine line w w' ws ns k r (starts f cs es s p l h hp hl) =
    let n = ap new h in
    let len = length-append (without w.ends cs) (some (own_end line) ∷ []) in
    let wl = without_length w.ends cs in
    (omega arith, child)
  where
    fits : Fits g f cs es 1 p
    fits = start_fits g (places point w.ends) f cs es s (subst (λ t. KeepsOn g t (places point w.ends)) h k) p hp

    child : (i : ℕ) (v : Worker) → nth (begun p (some (far_end line) ∷ ends_of w.ends cs) (values w.vars es) l ∷ []) i ≡ some v → Room v
    child zero v z =
        let t = fits.talks in
        let fp = (fine_nth g.procs f fine hp).talks in
        let el = ends_of_length w.ends cs in
        let room : Room (begun p (some (far_end line) ∷ ends_of w.ends cs) (values w.vars es) l) = omega arith in
        let same : begun p (some (far_end line) ∷ ends_of w.ends cs) (values w.vars es) l ≡ v = cc in
        subst Room same room
    child (suc i) v z = grind arith
alone_room g point fine line w w' ws ns k r (becomes f cs es p l h hp hl) =
    let t = (become_fits g (places point w.ends) f cs es (subst (λ t. KeepsOn g t (places point w.ends)) h k) p hp).talks in
    let fp = (fine_nth g.procs f fine hp).talks in
    let el = ends_of_length w.ends cs in
    (omega arith, λ i v z. grind arith)
alone_room g point fine line w w' ws ns k r (starts_spent f cs es s h hl) = (r, λ i v z. grind arith)
alone_room g point fine line w w' ws ns k r (becomes_spent f cs es h hl) = (r, λ i v z. grind arith)

together_room : (w v w' v' : Worker) → Room w → Room v → Together w v w' v' → Room w' × Room v'
together_room w v w' v' r q (passes c d x e s t h k f) = (let n = ap new h in omega arith, let n = ap new k in omega arith)
together_room w v w' v' r q (agrees c d k s t u h j f) = (let n = ap new h in omega arith, go (eqb k 0))
  where
    n : new v.todo ≡ max (new t) (new u)
    n = ap new j

    go : (b : Bool) → length v.ends + new (cond b t u) ≤ 16
    go true = let z = n in omega arith
    go false = let z = n in omega arith

put_room : (ws : List Worker) (i : ℕ) (v : Worker) → Roomy ws → Room v → Roomy (put ws i v)
put_room ws i v r q j w h = go (nth_put_split ws i j v h)
  where
    go : ((i ≡ j) × (w ≡ v)) ⊎ ((i ≡ j → ⊥) × (nth ws j ≡ some w)) → Room w
    go (inl e) = subst Room (sym e.1) q
    go (inr e) = r j w e.1

append_room : (ws vs : List Worker) → Roomy ws → Roomy vs → Roomy (ws ++ vs)
append_room ws vs r q j w h = go (nth_append_split ws vs j h)
  where
    go : (nth ws j ≡ some w) ⊎ ((i : ℕ) × (j ≡ length ws + i) × (nth vs i ≡ some w)) → Room w
    go (inl e) = r j w e
    go (inr e) = q e.0 w e.2

step_room : (g : Program) → AllFine g.procs → (a b : Configuration) → Sound g a.workers a.next → Roomy a.workers → Step g a b → Roomy b.workers
step_room g fine a b sound r (alone i w w' ws ns h st x) =
    let q = alone_room g sound.point fine a.next w w' ws ns (sound.inv.kept i w h) (r i w h) x in
    append_room (put a.workers i w') ws (put_room a.workers i w' r q.0) q.1
step_room g fine a b sound r (together i j w v w' v' d h h' st st' x) =
    let q = together_room w v w' v' (r i w h) (r j v h') x in
    put_room (put a.workers i w') j v' (put_room a.workers i w' r q.0) q.1

begin_room : (g : Program) → Good g → AllFine g.procs → (turns : ℕ) → Roomy (begin g turns).workers
begin_room g gd fine turns = go (nth g.procs 0) refl
  where
    go : (o : Option Process) → nth g.procs 0 ≡ o → Roomy (first_worker o turns)
    go none e i w h = grind arith
    go (some p) e zero w h =
        let f = (fine_nth g.procs 0 fine e).talks in
        let same : begun p [] [] turns ≡ w = cc in
        let room : Room (begun p [] [] turns) = omega arith in
        subst Room same room
    go (some p) e (suc i) w h = grind arith

-- every configuration that is reached has room
pub reached_room : (s : List ℕ) (g : Program) → Reads s g → kept g ≡ true → (turns : ℕ) (a : Configuration) → Steps g (begin g turns) a → Roomy a.workers
reached_room s g r k turns a here = begin_room g (good g r.sides k) r.fine turns
reached_room s g r k turns a (more {b} st x) = step_room g r.fine b a (reached_sound g (good g r.sides k) turns b st) (reached_room s g r k turns b st) x
