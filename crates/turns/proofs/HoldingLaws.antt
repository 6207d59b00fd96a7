-- The words hold a configuration with one worker changed, with two changed, or with one changed and one more.
use Rattle.std.proofs.Common.{◌≡◌, ℕ, suc, ◌<◌, ◌≤◌, List, [], ◌∷◌, ◌++◌, length, sym, refl, ap, ◌∙◌, subst, inl, inr, arith, length-append}
use mathlib.Core.Option.{Option}
use Rattle.model.specs.Program.{nth, put}
use Rattle.model.specs.Steps.{Endpoint, Worker, Configuration, end}
use Rattle.records.specs.Records.{Record, record_at, Kept}
use Rattle.turns.specs.Holding.{Holds, Below, Holding}
use Rattle.turns.specs.Meeting.{Apart}
use Rattle.model.proofs.Lists.{nth_below, length_put, nth_put_split, nth_snoc_split}

holds_at : {s m : List ℕ} {w v : Worker} {r q : Record} → q ≡ r → v ≡ w → Holds s m r w → Holds s m q v
holds_at {s} {m} {w} {v} {r} {q} e f h = subst (λ (o : Record). Holds s m o v) (sym e) (subst (λ (o : Worker). Holds s m r o) (sym f) h)

pub below_as : {n m : ℕ} {es ds : List (Option Endpoint)} → n ≤ m → ds ≡ es → Below n es → Below m ds
below_as {n} {m} {es} {ds} le e b c d is = let k = b c d (ap (λ os. end os c) (sym e) ∙ is) in let k0 = k.0 in (omega arith, k.1)

module _ (s m : List ℕ) (procs procs' : List (List ℕ)) (count : ℕ) (a b : Configuration) (h : Holding s m procs count a) where
  pub holding_one : (i : ℕ) (w : Worker) (r : Record) → Kept procs procs' i r → Holds s m r w → Below a.next w.ends → b.workers ≡ put a.workers i w → b.next ≡ a.next → Holding s m procs' count b
  holding_one i w r k holds below works next = record {
    many = ap length works ∙ (length_put a.workers i w ∙ h.many);
    lines = next ∙ h.lines;
    each = λ j v n. elim (nth_put_split a.workers i j w (sym (ap (λ ws. nth ws j) works) ∙ n)) [
      | inl t ↦ holds_at (ap (record_at procs') (sym t.0) ∙ k.at) t.1 holds
      | inr t ↦ holds_at (k.others j (λ e. t.0 (sym e))) refl (h.each j v t.1)
    ];
    ends = λ j v n. elim (nth_put_split a.workers i j w (sym (ap (λ ws. nth ws j) works) ∙ n)) [
      | inl t ↦ below_as (let e = next in omega arith) (ap (λ (o : Worker). o.ends) t.1) below
      | inr t ↦ below_as (let e = next in omega arith) refl (h.ends j v t.1)
    ];
  }

  pub holding_two : (i j : ℕ) (w v : Worker) → (i ≡ j → ⊥) → Apart procs procs' i j → Holds s m (record_at procs' i) w → Holds s m (record_at procs' j) v → Below a.next w.ends → Below a.next v.ends →
      b.workers ≡ put (put a.workers i w) j v → b.next ≡ a.next → Holding s m procs' count b
  holding_two i j w v ne k hw hv bw bv works next = record {
    many = ap length works ∙ (length_put (put a.workers i w) j v ∙ (length_put a.workers i w ∙ h.many));
    lines = next ∙ h.lines;
    each = λ l u n. elim (nth_put_split (put a.workers i w) j l v (sym (ap (λ ws. nth ws l) works) ∙ n)) [
      | inl t ↦ holds_at (ap (record_at procs') (sym t.0)) t.1 hv
      | inr t ↦ elim (nth_put_split a.workers i l w t.1) [
        | inl z ↦ holds_at (ap (record_at procs') (sym z.0)) z.1 hw
        | inr z ↦ holds_at (k.others l (λ e. z.0 (sym e)) (λ e. t.0 (sym e))) refl (h.each l u z.1)
      ]
    ];
    ends = λ l u n. elim (nth_put_split (put a.workers i w) j l v (sym (ap (λ ws. nth ws l) works) ∙ n)) [
      | inl t ↦ below_as (let e = next in omega arith) (ap (λ (o : Worker). o.ends) t.1) bv
      | inr t ↦ elim (nth_put_split a.workers i l w t.1) [
        | inl z ↦ below_as (let e = next in omega arith) (ap (λ (o : Worker). o.ends) z.1) bw
        | inr z ↦ below_as (let e = next in omega arith) refl (h.ends l u z.1)
      ]
    ];
  }

  -- process i is now w, and the new process, of number count, is v
  pub holding_more : (i : ℕ) (w v : Worker) → 0 < count → Apart procs procs' i count → Holds s m (record_at procs' i) w → Holds s m (record_at procs' count) v →
      Below (suc a.next) w.ends → Below (suc a.next) v.ends → b.workers ≡ put a.workers i w ++ (v ∷ []) → b.next ≡ suc a.next → Holding s m procs' (suc count) b
  holding_more i w v pos k hw hv bw bv works next = record {
    many = let l1 = length-append (put a.workers i w) (v ∷ []) in let l2 = length_put a.workers i w in let l3 = h.many in let l4 = ap length works in omega arith;
    lines = let e1 = next in let e2 = h.lines in omega arith;
    each = λ l u n. elim (nth_snoc_split (put a.workers i w) v l (sym (ap (λ ws. nth ws l) works) ∙ n)) [
      | inl t ↦ (let below : l < count = let z = nth_below (put a.workers i w) l t in let l2 = length_put a.workers i w in let l3 = h.many in omega arith in
          elim (nth_put_split a.workers i l w t) [
            | inl z ↦ holds_at (ap (record_at procs') (sym z.0)) z.1 hw
            | inr z ↦ holds_at (k.others l (λ e. z.0 (sym e)) (λ e. omega arith)) refl (h.each l u z.1)
          ])
      | inr t ↦ holds_at (ap (record_at procs') (t.0 ∙ (length_put a.workers i w ∙ h.many))) t.1 hv
    ];
    ends = λ l u n. elim (nth_snoc_split (put a.workers i w) v l (sym (ap (λ ws. nth ws l) works) ∙ n)) [
      | inl t ↦ elim (nth_put_split a.workers i l w t) [
        | inl z ↦ below_as (let e = next in omega arith) (ap (λ (o : Worker). o.ends) z.1) bw
        | inr z ↦ below_as (let e = next in omega arith) refl (h.ends l u z.1)
      ]
      | inr t ↦ below_as (let e = next in omega arith) (ap (λ (o : Worker). o.ends) t.1) bv
    ];
  }
