-- Where no process can take a step, by itself or with another, the configuration is still.
use Rattle.std.proofs.Common.{◌≡◌, ℕ, ◌+◌, ◌<◌, List, sym, ◌∙◌, subst, arith, below_more}
use mathlib.Core.Option.{some}
use Rattle.model.specs.Program.{nth, Program}
use Rattle.model.specs.Steps.{Worker, Configuration, alone, together}
use Rattle.model.specs.Theorems.{Still}
use Rattle.rows.specs.declared.map.Map.{Map}
use Rattle.queues.specs.Slots.{slot}
use Rattle.model.proofs.Lists.{nth_below}
use Rattle.looking.specs.Moving.{Each}
use Rattle.looking.specs.Searching.{NoStep, AtEnd}
use Rattle.looking.proofs.PairLaws.{around_all}

module _ (s : List ℕ) (m : Map) (procs : List (List ℕ)) (count : ℕ) where
  pub still_all : ((i : ℕ) → i < count → NoStep s m procs count i) → AtEnd s m procs count
  still_all none g a reads mapped h = go
    where
      low : (i : ℕ) (w : Worker) → nth a.workers i ≡ some w → i < count
      low i w n = let l = nth_below a.workers i n in let e = h.many in omega arith

      go : Still g a
      go b (alone i w w' ws ns n r t) = (none i (low i w n) ((h.each i w n).state ∙ r)).0 g w reads mapped (h.each i w n) a.next w' ws ns t
      go b (together i j w v w' v' ne n k r x t) =
          ((none i (low i w n) ((h.each i w n).state ∙ r)).1 j (low j v k) (λ z. ne (sym z)) ((h.each j v k).state ∙ x) w v w' v' (h.each i w n) (h.each j v k)).0 t

  pub still_around : (from : ℕ) → from < count → ((k : ℕ) → k < count → NoStep s m procs count (slot count from k)) → AtEnd s m procs count
  still_around from l f = still_all (around_all (λ (i : ℕ). NoStep s m procs count i) count from l f)

-- One after the other is looked at, and the words stay as they were.
module _ (s : List ℕ) (m : Map) (old procs procs' : List (List ℕ)) (same : procs ≡ old) where
  pub each_from : (count : ℕ) (P : Program → Configuration → Type 0) → Each s m procs count P → Each s m old count P
  each_from count P f = subst (λ (p : List (List ℕ)). Each s m p count P) same f

  pub none_more : (count from k i : ℕ) → i ≡ slot count from k → (procs' ≡ procs) × NoStep s m procs count i → ((l : ℕ) → l < k → NoStep s m old count (slot count from l)) →
      (procs' ≡ old) × ((l : ℕ) → l < k + 1 → NoStep s m old count (slot count from l))
  none_more count from k i is t inv = (
    t.0 ∙ same,
    below_more (λ (l : ℕ). NoStep s m old count (slot count from l)) k inv
        (subst (λ (l : ℕ). NoStep s m old count l) is (subst (λ (p : List (List ℕ)). NoStep s m p count i) same t.1)),
  )
