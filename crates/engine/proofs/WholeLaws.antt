-- A whole run, from how it was set up to how it ended.
use Rattle.std.proofs.Common.{◌≡◌, ℕ, ◌<◌, Bool, true, false, List, [], length, Ok, Err, sym, refl, ap, ◌∙◌, subst, arith}
use mathlib.Core.Option.{some}
use Rattle.model.specs.Program.{nth, Program}
use Rattle.model.specs.Steps.{State, running, spent, Configuration, alone, together, here, begin}
use Rattle.model.specs.Theorems.{Still}
use Rattle.model.specs.Rows.{Reads}
use Rattle.rows.specs.declared.map.Map.{Map}
use Rattle.rows.specs.Mapped.{Mapped}
use Rattle.turns.specs.declared.turn.Trouble.{Trouble}
use Rattle.turns.specs.declared.turn.Trouble.TheVariants.{Crowded, Odd}
use Rattle.turns.specs.Holding.{Holding}
use Rattle.model.proofs.Lists.{nth_below, nth_there}
use Rattle.engine.specs.Outs.{SomeAt}
use Rattle.engine.specs.Ending.{Finished, TooMany, Endings}
use Rattle.engine.specs.declared.step.Run.{Run}
use Rattle.engine.specs.Running.{Running}
use Rattle.engine.specs.Whole.{SomeWorker, AtRest, RunsTo}

module _ (s m : List ℕ) (procs : List (List ℕ)) (count : ℕ) (a : Configuration) (h : Holding s m procs count a) where
  pub some_worker : (k : State) (b : Bool) → SomeAt procs count k b → SomeWorker a k b
  some_worker k true t =
      let l = h.many in
      let w = nth_there a.workers t.0 (let x = t.1 in omega arith) in
      (t.0, w.0, w.1, sym (h.each t.0 w.0 w.1).state ∙ t.2)
  some_worker k false out = λ i w n e.
      let l = h.many in
      let x = nth_below a.workers i n in
      out i (omega arith) ((h.each i w n).state ∙ e)

pub at_rest : (s m : List ℕ) (g : Program) (most turns : ℕ) (old : List ℕ) (procs : List (List ℕ)) (shown : List ℕ) (count total : ℕ) (out waits : Bool) → Finished s m g most old procs shown count total (begin g turns) → SomeAt procs count spent out → SomeAt procs count running waits →
    AtRest g most turns old shown count total out waits
at_rest s m g most turns old procs shown count total out waits f x y = record {
  now = f.now;
  steps = f.steps;
  still = f.still;
  many = f.holding.many;
  few = f.few;
  written = f.written;
  total_is = f.total_is;
  spent_is = some_worker s m procs count f.now f.holding spent out x;
  waiting_is = some_worker s m procs count f.now f.holding running waits y;
}

none_of : {A : Type 0} (xs : List A) (i : ℕ) {x : A} → xs ≡ [] → nth xs i ≡ some x → ⊥
none_of xs i e n = let z = nth_below xs i n in let l = ap length e in omega arith

pub at_rest_empty : (g : Program) (most turns : ℕ) (shown : List ℕ) → (begin g turns).workers ≡ [] → AtRest g most turns shown shown 0 0 false false
at_rest_empty g most turns shown e = record {
  now = begin g turns;
  steps = here;
  still = stuck;
  many = ap length e;
  few = omega arith;
  written = refl;
  total_is = refl;
  spent_is = λ i w n x. none_of (begin g turns).workers i e n;
  waiting_is = λ i w n x. none_of (begin g turns).workers i e n;
}
  where
    stuck : Still g (begin g turns)
    stuck b (alone i w w' ws ns n r s) = none_of (begin g turns).workers i e n
    stuck b (together i j w v w' v' ne n m r t s) = none_of (begin g turns).workers i e n

pub at_once : (g : Program) (most turns : ℕ) → most < length (begin g turns).workers → TooMany g most (begin g turns)
at_once g most turns h = record { now = begin g turns; steps = here; many = h }

-- a run that does not come to its end
module _ (s : List ℕ) (m : Map) (most turns : ℕ) (shown shown' : List ℕ) (r r' : Run) (room : length r.processes.now ≡ most)
    (start : (g : Program) → Reads s g → Mapped s g m → Running s m.second g shown shown r (begin g turns)) where
  pub runs_err : (e : Trouble) → Endings s m shown shown' r r' (Err e) → RunsTo s m most turns shown shown' (Err e)
  runs_err Crowded t = λ g reads mapped. subst (λ (n : ℕ). TooMany g n (begin g turns)) (t.0 ∙ room) (t.1 g (begin g turns) shown reads mapped (start g reads mapped))
  runs_err Odd t = λ g reads mapped. t.1 g (begin g turns) shown reads mapped (start g reads mapped)

  pub runs_ok : Endings s m shown shown' r r' (Ok tt) → (out waits : Bool) → SomeAt r'.processes.now r'.count spent out → SomeAt r'.processes.now r'.count running waits →
      (g : Program) → Reads s g → Mapped s g m → AtRest g most turns shown shown' r'.count r'.total out waits
  runs_ok t out waits x y g reads mapped =
      let f = t.1 g (begin g turns) shown reads mapped (start g reads mapped) in
      at_rest s m.second g most turns shown r'.processes.now shown' r'.count r'.total out waits
      (subst (λ (n : ℕ). Finished s m.second g n shown r'.processes.now shown' r'.count r'.total (begin g turns)) (t.0 ∙ room) f) x y
