-- What one process does alone, and what two do together, is a function of what they are.
use mathlib.Core.Path.{◌≡◌, ap, ◌∙◌}
use mathlib.Core.Bool.{cond}
use mathlib.Core.List.{List, [], ◌∷◌, ◌++◌}
use mathlib.Core.Option.{Option, some, none}
use Prim.Native.Nat.{ℕ, zero, suc}
use native.Mathlib.Omega.{arith}
use lib.Dec.{eqb}
use Rattle.model.specs.Program.{nth, value, values, Action, stop, give, take, choose, offer, set, if, show, start, become, Process, Program}
use Rattle.model.specs.Steps.{Endpoint, own_end, far_end, running, stopped, spent, Worker, on, with_var, halted, begun, ends_of, without, Alone, stops, sets, ifs, shows, starts, becomes, starts_spent, becomes_spent, Together, passes, agrees}
use Rattle.model.specs.Waiting.{awaits}
use Rattle.model.proofs.Keeping.{or_open}

-- What a process does alone is a function of what it is.
data Did : Type 0 where
  did : Worker → List Worker → List ℕ → Did

abbrev only : Worker → Option Did
only w = some (did w [] [])

abbrev started_as : ℕ → Worker → List ℕ → List ℕ → Action → ℕ → Option Process → Option Did
started_as line w cs ns s l none = none
started_as line w cs ns s l (some p) =
    some (did (record { todo = s; vars = w.vars; ends = without w.ends cs ++ (some (own_end line) ∷ []); left = l; state = running }) (begun p (some (far_end line) ∷ ends_of w.ends cs) ns l ∷ []) [])

abbrev became : Worker → List ℕ → List ℕ → ℕ → Option Process → Option Did
became w cs ns l none = none
became w cs ns l (some p) = only (begun p (ends_of w.ends cs) ns l)

abbrev does : Program → ℕ → Worker → Action → ℕ → Option Did
does g line w stop l = only (halted w stopped)
does g line w (give c e s) l = none
does g line w (take c x s) l = none
does g line w (choose c k s) l = none
does g line w (offer c s t) l = none
does g line w (set x e s) l = only (with_var w x (value w.vars e) s)
does g line w (if e s t) l = only (on w (cond (eqb (value w.vars e) 0) t s))
does g line w (show e s) l = some (did (on w s) [] (value w.vars e ∷ []))
does g line w (start f cs es s) zero = only (halted w spent)
does g line w (start f cs es s) (suc l) = started_as line w cs (values w.vars es) s l (nth g.procs f)
does g line w (become f cs es) zero = only (halted w spent)
does g line w (become f cs es) (suc l) = became w cs (values w.vars es) l (nth g.procs f)

alone_does : (g : Program) (line : ℕ) (w w' : Worker) (vs : List Worker) (ns : List ℕ) → Alone g line w w' vs ns → does g line w w.todo w.left ≡ some (did w' vs ns)
alone_does g line w w' vs ns (stops t) = ap (λ s. does g line w s w.left) t
alone_does g line w w' vs ns (sets x e s t) = ap (λ s. does g line w s w.left) t
alone_does g line w w' vs ns (ifs e s u t) = ap (λ s. does g line w s w.left) t
alone_does g line w w' vs ns (shows e s t) = ap (λ s. does g line w s w.left) t
alone_does g line w w' vs ns (starts f cs es s p l t h e) =
    ap (λ s. does g line w s w.left) t ∙ ap (does g line w (start f cs es s)) e ∙ ap (started_as line w cs (values w.vars es) s l) h
alone_does g line w w' vs ns (becomes f cs es p l t h e) =
    ap (λ s. does g line w s w.left) t ∙ ap (does g line w (become f cs es)) e ∙ ap (became w cs (values w.vars es) l) h
alone_does g line w w' vs ns (starts_spent f cs es s t e) = ap (λ s. does g line w s w.left) t ∙ ap (does g line w (start f cs es s)) e
alone_does g line w w' vs ns (becomes_spent f cs es t e) = ap (λ s. does g line w s w.left) t ∙ ap (does g line w (become f cs es)) e

pub alone_once : (g : Program) (line : ℕ) (w w' w'' : Worker) (vs vs' : List Worker) (ns ns' : List ℕ) → Alone g line w w' vs ns → Alone g line w w'' vs' ns' → (w' ≡ w'') × (vs ≡ vs') × (ns ≡ ns')
alone_once g line w w' w'' vs vs' ns ns' st st' =
    let p = alone_does g line w w' vs ns st in
    let q = alone_does g line w w'' vs' ns' st' in
    (cc, cc, cc)

-- who acts alone does not wait
pub alone_free : (g : Program) (line : ℕ) (w w' : Worker) (vs : List Worker) (ns : List ℕ) → Alone g line w w' vs ns → awaits w.todo ≡ none
alone_free g line w w' vs ns (stops t) = ap awaits t
alone_free g line w w' vs ns (sets x e s t) = ap awaits t
alone_free g line w w' vs ns (ifs e s u t) = ap awaits t
alone_free g line w w' vs ns (shows e s t) = ap awaits t
alone_free g line w w' vs ns (starts f cs es s p l t h e) = ap awaits t
alone_free g line w w' vs ns (becomes f cs es p l t h e) = ap awaits t
alone_free g line w w' vs ns (starts_spent f cs es s t e) = ap awaits t
alone_free g line w w' vs ns (becomes_spent f cs es t e) = ap awaits t

-- a process starts none, and then it does the same whatever the next line, or it starts one
pub data Starting (g : Program) (w w' : Worker) (ns : List ℕ) : List Worker → Type 0 where
  no_start : ((line : ℕ) → Alone g line w w' [] ns) → Starting g w w' ns []
  one_start : (u : Worker) → Starting g w w' ns (u ∷ [])

pub starting : (g : Program) (line : ℕ) (w w' : Worker) (vs : List Worker) (ns : List ℕ) → Alone g line w w' vs ns → Starting g w w' ns vs
starting g line w w' vs ns (stops t) = no_start (λ l. stops t)
starting g line w w' vs ns (sets x e s t) = no_start (λ l. sets x e s t)
starting g line w w' vs ns (ifs e s u t) = no_start (λ l. ifs e s u t)
starting g line w w' vs ns (shows e s t) = no_start (λ l. shows e s t)
starting g line w w' vs ns (starts f cs es s p l t h e) = one_start _
starting g line w w' vs ns (becomes f cs es p l t h e) = no_start (λ l'. becomes f cs es p l t h e)
starting g line w w' vs ns (starts_spent f cs es s t e) = no_start (λ l. starts_spent f cs es s t e)
starting g line w w' vs ns (becomes_spent f cs es t e) = no_start (λ l. becomes_spent f cs es t e)

-- What two processes do together is a function of what they are, and each has one part in it.
pub together_once : (w v w' v' w'' v'' : Worker) → Together w v w' v' → Together w v w'' v'' → (w' ≡ w'') × (v' ≡ v'')
together_once w v w' v' w'' v'' (passes c d x e s t p q f) (passes c' d' x' e' s' t' p' q' f') =
    let ss : s ≡ s' = cc in
    let ee : e ≡ e' = cc in
    let tt' : t ≡ t' = cc in
    let xx : x ≡ x' = cc in
    (ap (on w) ss, cc)
together_once w v w' v' w'' v'' (passes c d x e s t p q f) (agrees c' d' k s' t' u p' q' f') = grind arith
together_once w v w' v' w'' v'' (agrees c d k s t u p q f) (passes c' d' x e s' t' p' q' f') = grind arith
together_once w v w' v' w'' v'' (agrees c d k s t u p q f) (agrees c' d' k' s' t' u' p' q' f') =
    let ss : s ≡ s' = cc in
    let kk : k ≡ k' = cc in
    let tt' : t ≡ t' = cc in
    let uu : u ≡ u' = cc in
    (ap (on w) ss, cc)

pub together_roles : (w v u w' v' v'' u' : Worker) → Together w v w' v' → Together v u v'' u' → ⊥
together_roles w v u w' v' v'' u' (passes c d x e s t p q f) (passes c' d' x' e' s' t' p' q' f') = grind arith
together_roles w v u w' v' v'' u' (passes c d x e s t p q f) (agrees c' d' k s' t' u'' p' q' f') = grind arith
together_roles w v u w' v' v'' u' (agrees c d k s t u'' p q f) (passes c' d' x e s' t' p' q' f') = grind arith
together_roles w v u w' v' v'' u' (agrees c d k s t u'' p q f) (agrees c' d' k' s' t' u''' p' q' f') = grind arith

-- the ends at which they do it
pub record Between (w v : Worker) : Type 0 where
  pub c : ℕ
  pub d : ℕ
  pub near : Endpoint
  pub far : Endpoint
  pub near_awaited : awaits w.todo ≡ some c
  pub far_awaited : awaits v.todo ≡ some d
  pub is_near : nth w.ends c ≡ some (some near)
  pub is_far : nth v.ends d ≡ some (some far)
  pub lines : near.line ≡ far.line
  pub sides : near.side ≡ far.side → ⊥

pub between : (w v w' v' : Worker) → Together w v w' v' → Between w v
between w v w' v' (passes c d x e s t p q f) = record { c = c; d = d; near = f.a; far = f.b; near_awaited = ap awaits p; far_awaited = ap awaits q; is_near = or_open _ _ f.is_a; is_far = or_open _ _ f.is_b; lines = f.line; sides = f.sides }
between w v w' v' (agrees c d k s t u p q f) = record { c = c; d = d; near = f.a; far = f.b; near_awaited = ap awaits p; far_awaited = ap awaits q; is_near = or_open _ _ f.is_a; is_far = or_open _ _ f.is_b; lines = f.line; sides = f.sides }
