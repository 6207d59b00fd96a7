-- Every order comes to an end: each step lowers a number that begins as a function of the program and the turns.
use mathlib.Core.Path.{◌≡◌, refl, ap, ◌∙◌}
use mathlib.Core.Bool.{Bool, true, false, cond}
use mathlib.Core.List.{List, [], ◌∷◌, ◌++◌}
use mathlib.Core.Option.{some}
use Prim.Native.Nat.{ℕ, zero, suc, ◌+◌, ◌≤◌, max}
use native.Mathlib.Omega.{arith}
use lib.Dec.{eqb}
use Rattle.model.specs.Program.{nth, put, value, Action, stop, give, take, choose, offer, set, if, show, start, become, Process, Program}
use Rattle.model.specs.Steps.{State, running, stopped, spent, Worker, Configuration, Alone, stops, sets, ifs, shows, starts, becomes, starts_spent, becomes_spent, Together, passes, agrees, Step, alone, together, begin}
use Rattle.model.specs.Theorems.{Counted, Ends}
use Rattle.model.proofs.Lists.{nth_put_other}

-- how many actions there are in all ways
abbrev size : Action → ℕ
size stop = 1
size (give c e s) = suc (size s)
size (take c x s) = suc (size s)
size (choose c k s) = suc (size s)
size (offer c s t) = suc (size s + size t)
size (set x e s) = suc (size s)
size (if e s t) = suc (size s + size t)
size (show e s) = suc (size s)
size (start f cs es s) = suc (size s)
size (become f cs es) = 1

-- the largest body of a program
abbrev largest : List Process → ℕ
largest [] = 0
largest (p ∷ ps) = max (size p.body) (largest ps)

largest_bounds : (ps : List Process) (f : ℕ) (p : Process) → nth ps f ≡ some p → size p.body ≤ largest ps
largest_bounds [] f p h = grind arith
largest_bounds (q ∷ ps) zero p h = let e : q ≡ p = cc in let b : size q.body ≡ size p.body = ap (λ x. size x.body) e in omega arith
largest_bounds (q ∷ ps) (suc f) p h = let ih = largest_bounds ps f p h in omega arith

-- what so many turns are worth, where a body is worth k at most: a turn pays for a body, and for as many turns again
abbrev bank : ℕ → ℕ → ℕ
bank k zero = 0
bank k (suc l) = k + (bank k l + bank k l)

-- a process is worth what it has to do and its turns, while it goes on
abbrev weight : ℕ → Action → ℕ → State → ℕ
weight k s l running = size s + bank k l
weight k s l stopped = 0
weight k s l spent = 0

abbrev worth : ℕ → Worker → ℕ
worth k w = weight k w.todo w.left w.state

abbrev total : ℕ → List Worker → ℕ
total k [] = 0
total k (w ∷ ws) = worth k w + total k ws

total_put : (k : ℕ) (ws : List Worker) (i : ℕ) (w v : Worker) → nth ws i ≡ some w → total k (put ws i v) + worth k w ≡ total k ws + worth k v
total_put k [] i w v h = grind arith
total_put k (u ∷ ws) zero w v h = let e : u ≡ w = cc in let b : worth k u ≡ worth k w = ap (worth k) e in omega arith
total_put k (u ∷ ws) (suc i) w v h = let ih = total_put k ws i w v h in omega arith

total_append : (k : ℕ) (ws vs : List Worker) → total k (ws ++ vs) ≡ total k ws + total k vs
total_append k [] vs = omega arith
total_append k (w ∷ ws) vs = let ih = total_append k ws vs in omega arith

-- what a process that goes on is worth
worth_running : (k : ℕ) (w : Worker) (s : Action) (l : ℕ) → w.state ≡ running → w.todo ≡ s → w.left ≡ l → worth k w ≡ size s + bank k l
worth_running k w s l r t e = rw (r, t, e)

cond_size : (b : Bool) (s t : Action) → size (cond b s t) ≤ size s + size t
cond_size true s t = omega arith
cond_size false s t = omega arith

-- acting alone, with what it starts, a process is worth less afterwards
alone_lowers : (g : Program) (line : ℕ) (w w' : Worker) (ws : List Worker) (ns : List ℕ) → w.state ≡ running → Alone g line w w' ws ns →
    suc (worth (largest g.procs) w' + total (largest g.procs) ws) ≤ worth (largest g.procs) w
alone_lowers g line w w' ws ns r (stops t) = let e = worth_running (largest g.procs) w stop _ r t refl in omega arith
alone_lowers g line w w' ws ns r (sets x a s t) = let e = worth_running (largest g.procs) w (set x a s) _ r t refl in omega arith
alone_lowers g line w w' ws ns r (ifs a s u t) =
    let e = worth_running (largest g.procs) w (if a s u) _ r t refl in
    let b = cond_size (eqb (value w.vars a) 0) u s in
    omega arith
alone_lowers g line w w' ws ns r (shows a s t) = let e = worth_running (largest g.procs) w (show a s) _ r t refl in omega arith
alone_lowers g line w w' ws ns r (starts f cs es s p l t q e) =
    let b = worth_running (largest g.procs) w (start f cs es s) (suc l) r t e in
    let k = largest_bounds g.procs f p q in
    omega arith
alone_lowers g line w w' ws ns r (becomes f cs es p l t q e) =
    let b = worth_running (largest g.procs) w (become f cs es) (suc l) r t e in
    let k = largest_bounds g.procs f p q in
    omega arith
alone_lowers g line w w' ws ns r (starts_spent f cs es s t e) = let b = worth_running (largest g.procs) w (start f cs es s) 0 r t e in omega arith
alone_lowers g line w w' ws ns r (becomes_spent f cs es t e) = let b = worth_running (largest g.procs) w (become f cs es) 0 r t e in omega arith

-- acting together, two processes are worth less afterwards
together_lowers : (k : ℕ) (w v w' v' : Worker) → w.state ≡ running → v.state ≡ running → Together w v w' v' → suc (worth k w' + worth k v') ≤ worth k w + worth k v
together_lowers k w v w' v' r q (passes c d x e s t a b f) =
    let m = worth_running k w (give c e s) _ r a refl in
    let n = worth_running k v (take d x t) _ q b refl in
    omega arith
together_lowers k w v w' v' r q (agrees c d j s t u a b f) =
    let m = worth_running k w (choose c j s) _ r a refl in
    let n = worth_running k v (offer d t u) _ q b refl in
    let h = cond_size (eqb j 0) t u in
    omega arith

abbrev pub potential : Program → Configuration → ℕ
potential g a = total (largest g.procs) a.workers

pub step_lowers : (g : Program) (a b : Configuration) → Step g a b → suc (potential g b) ≤ potential g a
step_lowers g a b (alone i w w' ws ns h r st) =
    let low = alone_lowers g a.next w w' ws ns r st in
    let swap = total_put (largest g.procs) a.workers i w w' h in
    let join = total_append (largest g.procs) (put a.workers i w') ws in
    omega arith
step_lowers g a b (together i j w v w' v' d h k r q st) =
    let low = together_lowers (largest g.procs) w v w' v' r q st in
    let one = total_put (largest g.procs) a.workers i w w' h in
    let two = total_put (largest g.procs) (put a.workers i w') j v v' (nth_put_other a.workers i j w' d ∙ k) in
    omega arith

-- a run of c steps costs c at least
pub counted_costs : (g : Program) (turns c : ℕ) (a : Configuration) → Counted g turns c a → c + potential g a ≤ potential g (begin g turns)
counted_costs g turns zero a h = let e = ap (potential g) h in omega arith
counted_costs g turns (suc c) a h =
    let ih = counted_costs g turns c h.0 h.1 in
    let low = step_lowers g h.0 a h.2 in
    omega arith

pub ends : Ends
ends s g turns h = (potential g (begin g turns), λ a c k. let b = counted_costs g turns c a k in omega arith)
