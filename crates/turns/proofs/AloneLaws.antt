-- Steps of one process by itself.
use Rattle.std.proofs.Common.{◌≡◌, ℕ, zero, suc, ◌+◌, ◌<◌, ◌≤◌, List, [], ◌∷◌, ◌++◌, length, sym, refl, ap, ◌∙◌, subst, inl, inr, append-nil, add-zero, arith}
use mathlib.Core.Option.{some}
use Rattle.model.specs.Program.{nth, put, Program}
use Rattle.model.specs.Steps.{running, Worker, Configuration, Alone, alone, here, more, after_alone, only_first}
use Rattle.records.specs.Records.{Record, record_at, Kept}
use Rattle.queues.specs.Lines.{waiter_at}
use Rattle.turns.specs.Holding.{Holds, Below, potential, weight}
use Rattle.turns.specs.Scheduling.{In, Runs, Scheduled}
use Rattle.turns.specs.Turning.{Before, After}
use Rattle.model.proofs.Lists.{same?, nth_below, nth_put_same, nth_put_other}
use Rattle.turns.proofs.Queue.{in_here, in_there, in_split}
use Rattle.turns.proofs.Potential.{potential_drop}
use Rattle.turns.proofs.HoldingLaws.{holding_one}
use Rattle.turns.proofs.Moves.{scheduled_on, scheduled_off}

pub only_first_none : (i : ℕ) → only_first i [] ≡ []
only_first_none zero = refl
only_first_none (suc i) = refl

module _ (s m : List ℕ) (procs lines : List (List ℕ)) (count i : ℕ) (g : Program) (a : Configuration) (q : List ℕ) (b : Before s m g procs lines count i a q) (w : Worker) (n : nth a.workers i ≡ some w) (r : w.state ≡ running)
    (procs' : List (List ℕ)) (t : Record) (k : Kept procs procs' i t) (w' : Worker) (h : Holds s m t w') (below : Below a.next w'.ends) where
  here_below : i < count
  here_below = let u = nth_below a.workers i n in let v = b.holding.many in omega arith

  others_same : (j : ℕ) → (j ≡ i → ⊥) → weight (length s) (record_at procs' j) ≤ weight (length s) (record_at procs j)
  others_same j ne = let e = ap (weight (length s)) (k.others j ne) in omega arith

  falls_by : (d : ℕ) → weight (length s) t + d ≤ weight (length s) (record_at procs i) → potential s procs' count + d ≤ potential s procs count
  falls_by d le = potential_drop s procs procs' count i d here_below (λ j lt ne. others_same j ne) (let e = ap (weight (length s)) k.at in omega arith)

  -- it goes on
  pub lone_on : (ns : List ℕ) → Alone g a.next w w' [] ns → w'.state ≡ running → weight (length s) t < weight (length s) (record_at procs i) → After s m g procs procs' lines count count a (i ∷ q) (only_first i ns) 1
  lone_on ns al run less = record {
    now = after_alone a i w' [] ns;
    steps = more here (alone i w w' [] ns n r al);
    holding = holding_one s m procs procs' count a (after_alone a i w' [] ns) b.holding i w' t k h below (append-nil (put a.workers i w')) (add-zero a.next);
    scheduled = subst (λ ws. Scheduled g ws (waiter_at lines) (In (i ∷ q))) (sym (append-nil (put a.workers i w'))) (scheduled_on b.scheduled (λ j p. p) runs
        (λ j p. nth_put_other a.workers i j w' (λ z. p (subst (In (i ∷ q)) z (in_here i q)))) (λ e j l p z. z) (λ e j l z. (z, (b.scheduled.waits e j l z).idle)));
    shown = refl;
    falls = falls_by 1 (omega arith);
  }
    where
      runs : (j : ℕ) → In (i ∷ q) j → Runs (put a.workers i w') j
      runs j p = elim (same? i j) [
        | inl z ↦ record { worker = w'; there = ap (nth (put a.workers i w')) (sym z) ∙ nth_put_same a.workers i w' n; runs = run }
        | inr ne ↦ (let u = b.scheduled.ready j p in record { worker = u.worker; there = nth_put_other a.workers i j w' ne ∙ u.there; runs = u.runs })
      ]

  -- it takes no further step
  pub lone_off : Alone g a.next w w' [] [] → (w'.state ≡ running → ⊥) → weight (length s) t ≤ weight (length s) (record_at procs i) → After s m g procs procs' lines count count a q [] 0
  lone_off al out less = record {
    now = after_alone a i w' [] [];
    steps = more here (alone i w w' [] [] n r al);
    holding = holding_one s m procs procs' count a (after_alone a i w' [] []) b.holding i w' t k h below (append-nil (put a.workers i w')) (add-zero a.next);
    scheduled = subst (λ ws. Scheduled g ws (waiter_at lines) (In q)) (sym (append-nil (put a.workers i w')))
        (scheduled_off (put a.workers i w') (In q) i w' b.scheduled (in_here i q) b.once (λ j p. in_split i q j p) (λ j p. in_there i q j p) (nth_put_same a.workers i w' n)
        (λ j ne. nth_put_other a.workers i j w' (λ z. ne (sym z))) (record {
          noted = λ e x. absurd (out x);
          lone = λ line v ws ns x. absurd (out x);
          first = λ j v w1 v1 x. absurd (out x);
          second = λ j v w1 v1 x. absurd (out x);
          from = λ e j l z. inl z;
          keeps = λ e j l ne z. z;
        }));
    shown = ap (λ l. a.shown ++ l) (only_first_none i);
    falls = falls_by 0 (omega arith);
  }
