-- A run whose numbers are kept aside, and one that writes them where they are wanted: what they come to.
use Rattle.std.proofs.Common.{◌≡◌, ℕ, zero, suc, ◌+◌, ◌-◌, ◌*◌, ◌^◌, ◌<◌, ◌≤◌, Bool, true, false, cond, ◌⊎◌, List, [], ◌∷◌, length, take, drop, sym, refl, ap, ◌∙◌, subst, inl, inr, arith}
use Rattle.rows.specs.declared.map.Map.{Map}
use Rattle.engine.specs.Shown.{overlay, counted}
use Rattle.talks.specs.declared.answers.Ran.{Ran}
use Rattle.talks.specs.declared.answers.Ran.TheVariants.{Done, Spent, Crowded, Unkept, Unread, OutFull, Few}
use Rattle.talks.specs.Once.{Kept, Finished, TooMany}
use Rattle.talks.specs.Runs.{GoSays, rank, When, Comes, GoPost}
use Rattle.talks.proofs.Answering.{all_parts, go_only}
use Rattle.model.specs.Program.{Program}
use Rattle.model.specs.Steps.{Configuration, Steps, begin}
use Rattle.model.specs.Keeps.{kept}
use Rattle.model.specs.Rows.{Reads}
use Rattle.model.specs.Theorems.{Still, AllStopped, Out}
use Rattle.model.proofs.Writing.{one_program}
use Rattle.model.proofs.NeverJams.{never_jams}
use Rattle.model.proofs.Orders.{any_order, crowded_alike}

-- numbers laid over what was there stand first, and the rest is as it was
overlay_take : (ns old : List ℕ) → length ns ≤ length old → take (length ns) (overlay ns old) ≡ ns
overlay_take [] old h = refl
overlay_take (n ∷ ns) [] h = absurd (omega arith)
overlay_take (n ∷ ns) (o ∷ old) h = ap (λ l. n ∷ l) (overlay_take ns old (omega arith))

overlay_drop : (ns old : List ℕ) → drop (length ns) (overlay ns old) ≡ drop (length ns) old
overlay_drop [] old = refl
overlay_drop (n ∷ ns) [] = refl
overlay_drop (n ∷ ns) (o ∷ old) = overlay_drop ns old

overlay_long : (ns old : List ℕ) → length (overlay ns old) ≡ length old
overlay_long [] old = refl
overlay_long (n ∷ ns) [] = refl
overlay_long (n ∷ ns) (o ∷ old) = let r = overlay_long ns old in omega arith

-- Of a program that keeps, with enough work words: which answers do not come.
module _ (s : List ℕ) (n turns room w : ℕ) (enough : w < 4096 + 128 * n → ⊥) (g : Program) (reads : Reads s g) (keeps : kept g ≡ true) where
  same_program : (h : Program) → Reads s h → h ≡ g
  same_program h r = one_program s h g r reads

  no_unkept : When s n turns room w 2 → ⊥
  no_unkept x = let e = ap kept (same_program x.0 x.1) in let f = x.2 in let z : ◌≡◌ {A = ℕ} 0 1 = cc in omega arith

  below_3 : (k : ℕ) → k < 3 → When s n turns room w k → ⊥
  below_3 zero lt x = enough x
  below_3 (suc zero) lt x = x g reads
  below_3 (suc (suc zero)) lt x = no_unkept x
  below_3 (suc (suc (suc k))) lt x = omega arith

  module _ (a : Configuration) (run : Steps g (begin g turns) a) (still : Still g a) (few : length a.workers ≤ n) where
    no_crowded : When s n turns room w 3 → ⊥
    no_crowded x =
        let e = same_program x.0 x.2 in
        let l = crowded_alike s g turns x.1 a reads keeps (subst (λ q. Steps q (begin q turns) x.1) e x.4) run still in
        let m = x.5 in
        omega arith

    below_4 : (k : ℕ) → k < 4 → When s n turns room w k → ⊥
    below_4 zero lt x = enough x
    below_4 (suc zero) lt x = x g reads
    below_4 (suc (suc zero)) lt x = no_unkept x
    below_4 (suc (suc (suc zero))) lt x = no_crowded x
    below_4 (suc (suc (suc (suc k)))) lt x = omega arith

    no_full : length a.shown ≤ room → When s n turns room w 4 → ⊥
    no_full fits x =
        let e = same_program x.0 x.2 in
        let o = any_order s g turns x.1 a reads keeps (subst (λ q. Steps q (begin q turns) x.1) e x.4) run (subst (λ q. Still q x.1) e x.5) still in
        let l = ap length o.0 in
        let m = x.6 in
        omega arith

    below_5 : length a.shown ≤ room → (k : ℕ) → k < 5 → When s n turns room w k → ⊥
    below_5 fits zero lt x = enough x
    below_5 fits (suc zero) lt x = x g reads
    below_5 fits (suc (suc zero)) lt x = no_unkept x
    below_5 fits (suc (suc (suc zero))) lt x = no_crowded x
    below_5 fits (suc (suc (suc (suc zero)))) lt x = no_full fits x
    below_5 fits (suc (suc (suc (suc (suc k))))) lt x = omega arith

-- The answers of a program that keeps, from what its runs came to.
pub record Answer (s : List ℕ) (n turns : ℕ) (o o' : List ℕ) (w : ℕ) (r : Ran) : Type 0 where
  pub says : GoSays s n turns o o' r
  pub comes : Comes s n turns (length o) w r

module _ (s : List ℕ) (m : Map) (k : Kept s m) (n turns w : ℕ) (o : List ℕ) (enough : 4096 + 128 * n ≤ w) where
  g : Program
  g = k.program

  not_few : w < 4096 + 128 * n → ⊥
  not_few lt = omega arith

  pub answer_crowded : TooMany k.program n turns → Answer s n turns o o w Crowded
  answer_crowded t = record {
    says = (k.program, t.now, k.known.reads, k.keeps, t.steps, t.many, refl);
    comes = record { here = (k.program, t.now, k.known.reads, k.keeps, t.steps, t.many); not_before = below_3 s n turns (length o) w not_few k.program k.known.reads k.keeps };
  }

  module _ (old shown : List ℕ) (total : ℕ) (out : Bool) (f : Finished k.program n turns old shown total out) where
    pub answer_full : length o < total → Answer s n turns o o w OutFull
    answer_full lt =
        let c = f.total_is in
        let more : length o < length f.end.shown = omega arith in
        record {
          says = (k.program, f.end, k.known.reads, k.keeps, f.steps, f.still, f.few, more, refl);
          comes = record {
            here = (k.program, f.end, k.known.reads, k.keeps, f.steps, f.still, more);
            not_before = below_4 s n turns (length o) w not_few k.program k.known.reads k.keeps f.end f.steps f.still f.few;
          };
        }

    pub never_crowded : TooMany k.program n turns → ⊥
    never_crowded t =
        let l = crowded_alike s k.program turns t.now f.end k.known.reads k.keeps t.steps f.steps f.still in
        let q = t.many in let r = f.few in
        omega arith

  -- a run of which there is room for all numbers
  module _ (old shown : List ℕ) (total : ℕ) (out : Bool) (f : Finished k.program n turns old shown total out) (fits : total ≤ length shown) (small : length shown < 2 ^ 64 - 1) where
    total_long : total ≡ length f.end.shown
    total_long = let c = f.total_is in omega arith

    long_old : length f.end.shown ≤ length old
    long_old = let e = total_long in let l = ap length f.written ∙ overlay_long f.end.shown old in omega arith

    pub written_first : take total shown ≡ f.end.shown
    written_first = ap (λ (q : ℕ). take q shown) total_long ∙ (ap (λ l. take (length f.end.shown) l) f.written ∙ overlay_take f.end.shown old long_old)

    pub written_rest : drop total shown ≡ drop total old
    written_rest = ap (λ (q : ℕ). drop q shown) total_long ∙ (ap (λ l. drop (length f.end.shown) l) f.written ∙ (overlay_drop f.end.shown old ∙ ap (λ (q : ℕ). drop q old) (sym total_long)))

  -- another order shows as many
  pub as_many : (old₁ shown₁ old₂ shown₂ : List ℕ) (t₁ t₂ : ℕ) (out₁ out₂ : Bool) → Finished k.program n turns old₁ shown₁ t₁ out₁ → Finished k.program n turns old₂ shown₂ t₂ out₂ → t₂ ≡ t₁
  as_many old₁ shown₁ old₂ shown₂ t₁ t₂ out₁ out₂ a b =
      let e = any_order s k.program turns b.end a.end k.known.reads k.keeps b.steps a.steps b.still a.still in
      b.total_is ∙ (ap counted e.0 ∙ sym a.total_is)

  -- the same run, where it wrote into o itself, of which another run found that there is room
  pub long_enough : (old₁ shown₁ shown₂ : List ℕ) (t₁ t₂ : ℕ) (out₁ out₂ : Bool) → Finished k.program n turns old₁ shown₁ t₁ out₁ → Finished k.program n turns o shown₂ t₂ out₂ → t₁ ≤ length o → (t₂ ≤ length o) × (length shown₂ ≡ length o)
  long_enough old₁ shown₁ shown₂ t₁ t₂ out₁ out₂ a b h =
      let e = as_many old₁ shown₁ o shown₂ t₁ t₂ out₁ out₂ a b in
      (omega arith, ap length b.written ∙ overlay_long b.end.shown o)

  -- the numbers of a run stand first in `shown'`, and its rest is as it was
  module _ (old shown shown' : List ℕ) (total : ℕ) (out : Bool) (f : Finished k.program n turns old shown total out) (fits : total ≤ length o) (small : length o < 2 ^ 64 - 1)
      (first : take total shown' ≡ f.end.shown) (rest : drop total shown' ≡ drop total o) where
    long : total ≡ length f.end.shown
    long = let c = f.total_is in omega arith

    earlier : (j : ℕ) → j < 5 → When s n turns (length o) w j → ⊥
    earlier = let l = long in below_5 s n turns (length o) w not_few k.program k.known.reads k.keeps f.end f.steps f.still f.few (omega arith)

    stopped_all : (Out f.end → ⊥) → AllStopped f.end
    stopped_all e = go (never_jams s k.program turns f.end k.known.reads k.keeps f.steps f.still)
      where
        go : AllStopped f.end ⊎ Out f.end → AllStopped f.end
        go (inl a) = a
        go (inr x) = absurd (e x)

    by_out : (b : Bool) → (b ≡ true → Out f.end) → (b ≡ false → Out f.end → ⊥) → Answer s n turns o shown' w (cond b (Spent total) (Done total))
    by_out true yes_out no_out = record {
      says = (k.program, f.end, k.known.reads, k.keeps, f.steps, f.still, yes_out refl, f.few, long, first, rest);
      comes = record { here = tt; not_before = earlier };
    }
    by_out false yes_out no_out = record {
      says = (k.program, f.end, k.known.reads, k.keeps, f.steps, f.still, stopped_all (no_out refl), f.few, long, first, rest);
      comes = record { here = tt; not_before = earlier };
    }

    pub answer_ended : (r : Ran) → r ≡ cond out (Spent total) (Done total) → Answer s n turns o shown' w r
    answer_ended r e = subst (Answer s n turns o shown' w) (sym e) (by_out out f.spent_is f.not_spent)

-- What a call promises, from what its answer says and when it comes.
pub post : (s : List ℕ) (n turns : ℕ) (o o' : List ℕ) (w : ℕ) (r : Ran) → GoSays s n turns o o' r → Comes s n turns (length o) w r → GoPost s n turns o o' w r
post s n turns o o' w r says comes = record {
  says = says;
  parts = all_parts;
  few = (few_then r comes, few_when r comes);
  comes = comes;
  only = λ q o'' a c. go_only s n turns w o o' o'' r q says comes a c;
}
  where
    early : (r : Ran) → rank r ≡ 0 → r ≡ Few
    early Few e = refl
    early Unread e = absurd (omega arith)
    early Unkept e = absurd (omega arith)
    early Crowded e = absurd (omega arith)
    early OutFull e = absurd (omega arith)
    early (Done k) e = absurd (omega arith)
    early (Spent k) e = absurd (omega arith)

    at_zero : (k : ℕ) → k ≡ 0 → When s n turns (length o) w k → w < 4096 + 128 * n
    at_zero zero e x = x
    at_zero (suc k) e x = absurd (omega arith)

    few_then : (r : Ran) → Comes s n turns (length o) w r → w < 4096 + 128 * n → r ≡ Few
    few_then r c lt = go (rank r) refl
      where
        go : (k : ℕ) → rank r ≡ k → r ≡ Few
        go zero e = early r e
        go (suc k) e = absurd (c.not_before 0 (omega arith) lt)

    few_when : (r : Ran) → Comes s n turns (length o) w r → r ≡ Few → w < 4096 + 128 * n
    few_when r c e = at_zero (rank r) (ap rank e) c.here

-- the answers that need no run
pub answer_few : (s : List ℕ) (n turns w : ℕ) (o : List ℕ) → w < 4096 + 128 * n → GoPost s n turns o o w Few
answer_few s n turns w o lt = post s n turns o o w Few refl (record { here = lt; not_before = λ k h x. omega arith })

pub answer_unread : (s : List ℕ) (n turns w : ℕ) (o : List ℕ) → 4096 + 128 * n ≤ w → ((g : Program) → Reads s g → ⊥) → GoPost s n turns o o w Unread
answer_unread s n turns w o enough nope = post s n turns o o w Unread (nope, refl) (record { here = nope; not_before = below })
  where
    below : (k : ℕ) → k < 1 → When s n turns (length o) w k → ⊥
    below zero h x = omega arith
    below (suc k) h x = omega arith

pub answer_unkept : (s : List ℕ) (n turns w : ℕ) (o : List ℕ) → 4096 + 128 * n ≤ w → (g : Program) × Reads s g × (kept g ≡ false) → GoPost s n turns o o w Unkept
answer_unkept s n turns w o enough c = post s n turns o o w Unkept (c.0, c.1, c.2, refl) (record { here = c; not_before = below })
  where
    below : (k : ℕ) → k < 2 → When s n turns (length o) w k → ⊥
    below zero h x = omega arith
    below (suc zero) h x = x c.0 c.1
    below (suc (suc k)) h x = omega arith
