-- The answers of a run exclude one another, and what a run promises with each of them.
use Rattle.std.proofs.Common.{◌≡◌, ℕ, zero, suc, ◌<◌, ◌≤◌, true, ◌↔◌, List, length, sym, refl, ap, ◌∙◌, subst, arith}
use native.Mathlib.Decide.{dec_le}
use Rattle.talks.specs.declared.answers.Ran.{Ran}
use Rattle.talks.specs.declared.answers.Ran.TheVariants.{Done, Spent, Crowded, Unkept, Unread, OutFull, Few}
use Rattle.talks.specs.Runs.{GoSays, rank, Comes, Parts}
use Rattle.model.specs.Program.{Program}
use Rattle.model.specs.Steps.{Configuration, stopped, spent, Steps, begin}
use Rattle.model.specs.Keeps.{kept}
use Rattle.model.specs.Rows.{Reads}
use Rattle.model.specs.Theorems.{Still, AllStopped, Out}
use Rattle.model.proofs.Writing.{one_program}
use Rattle.model.proofs.Ends.{ends}
use Rattle.model.proofs.NeverJams.{never_jams, waiting_ends, two_that_wait}
use Rattle.model.proofs.Pictured.{pictured}
use Rattle.model.proofs.Orders.{any_order, either_order, same_end, same_steps, same_end_ahead, crowded_alike}
use Rattle.model.proofs.Decided.{has_end, confluent}

pub all_parts : Parts
all_parts = record {
  p1 = one_program;
  p2 = ends;
  p3 = never_jams;
  p4 = any_order;
  pictured = pictured;
  follows = waiting_ends;
  two = two_that_wait;
  diamond = either_order;
  end = same_end;
  steps = same_steps;
  ahead = has_end;
  same_ahead = same_end_ahead;
  confluent = confluent;
  crowded = crowded_alike;
}

-- an answer before the last rank is determined by its rank
of_rank : ℕ → Ran
of_rank zero = Few
of_rank (suc zero) = Unread
of_rank (suc (suc zero)) = Unkept
of_rank (suc (suc (suc zero))) = Crowded
of_rank (suc (suc (suc (suc k)))) = OutFull

early : (r : Ran) → rank r < 5 → r ≡ of_rank (rank r)
unfolding of_rank
early Few h = refl
early Unread h = refl
early Unkept h = refl
early Crowded h = refl
early OutFull h = refl
early (Done k) h = absurd (omega arith)
early (Spent k) h = absurd (omega arith)

-- nobody is both stopped and out of turns
apart : (a : Configuration) → AllStopped a → Out a → ⊥
apart a all out = let s = all out.0 out.1 out.2 in let t = out.3 in let z : stopped ≡ spent = sym s ∙ t in clash z
  where
    clash : stopped ≡ spent → ⊥
    clash z = let n : ◌≡◌ {A = ℕ} 0 1 = cc in omega arith

-- two ends of one program show as many numbers, and are out of turns alike
module _ (s : List ℕ) (turns : ℕ) (g h : Program) (a b : Configuration) (rg : Reads s g) (rh : Reads s h) (kg : kept g ≡ true) (sa : Steps g (begin g turns) a) (sb : Steps h (begin h turns) b) (la : Still g a) (lb : Still h b) where
  ends_same : (a.shown ≡ b.shown) × (length a.workers ≡ length b.workers) × (Out a ↔ Out b)
  ends_same =
      let e : h ≡ g = one_program s h g rh rg in
      any_order s g turns a b rg kg sa (subst (λ q. Steps q (begin q turns) b) e sb) la (subst (λ q. Still q b) e lb)

late : (s : List ℕ) (n turns : ℕ) (o o' o'' : List ℕ) (r q : Ran) → rank r ≡ 5 → rank q ≡ 5 → GoSays s n turns o o' r → GoSays s n turns o o'' q → q ≡ r
late s n turns o o' o'' Few q hr hq a b = absurd (omega arith)
late s n turns o o' o'' Unread q hr hq a b = absurd (omega arith)
late s n turns o o' o'' Unkept q hr hq a b = absurd (omega arith)
late s n turns o o' o'' Crowded q hr hq a b = absurd (omega arith)
late s n turns o o' o'' OutFull q hr hq a b = absurd (omega arith)
late s n turns o o' o'' (Done k) Few hr hq a b = absurd (omega arith)
late s n turns o o' o'' (Done k) Unread hr hq a b = absurd (omega arith)
late s n turns o o' o'' (Done k) Unkept hr hq a b = absurd (omega arith)
late s n turns o o' o'' (Done k) Crowded hr hq a b = absurd (omega arith)
late s n turns o o' o'' (Done k) OutFull hr hq a b = absurd (omega arith)
late s n turns o o' o'' (Done k) (Done l) hr hq a b =
    let e = ends_same s turns a.0 b.0 a.1 b.1 a.2 b.2 a.3 a.4 b.4 a.5 b.5 in
    ap Done (b.8 ∙ (ap length (sym e.0) ∙ sym a.8))
late s n turns o o' o'' (Done k) (Spent l) hr hq a b =
    let e = ends_same s turns a.0 b.0 a.1 b.1 a.2 b.2 a.3 a.4 b.4 a.5 b.5 in
    absurd (apart a.1 a.6 (e.2.1 b.6))
late s n turns o o' o'' (Spent k) Few hr hq a b = absurd (omega arith)
late s n turns o o' o'' (Spent k) Unread hr hq a b = absurd (omega arith)
late s n turns o o' o'' (Spent k) Unkept hr hq a b = absurd (omega arith)
late s n turns o o' o'' (Spent k) Crowded hr hq a b = absurd (omega arith)
late s n turns o o' o'' (Spent k) OutFull hr hq a b = absurd (omega arith)
late s n turns o o' o'' (Spent k) (Done l) hr hq a b =
    let e = ends_same s turns a.0 b.0 a.1 b.1 a.2 b.2 a.3 a.4 b.4 a.5 b.5 in
    absurd (apart b.1 b.6 (e.2.0 a.6))
late s n turns o o' o'' (Spent k) (Spent l) hr hq a b =
    let e = ends_same s turns a.0 b.0 a.1 b.1 a.2 b.2 a.3 a.4 b.4 a.5 b.5 in
    ap Spent (b.8 ∙ (ap length (sym e.0) ∙ sym a.8))

rank_most : (r : Ran) → rank r ≤ 5
rank_most Few = omega arith
rank_most Unread = omega arith
rank_most Unkept = omega arith
rank_most Crowded = omega arith
rank_most OutFull = omega arith
rank_most (Done k) = omega arith
rank_most (Spent k) = omega arith

-- no two answers are right and come
pub go_only : (s : List ℕ) (n turns w : ℕ) (o o' o'' : List ℕ) (r q : Ran) → GoSays s n turns o o' r → Comes s n turns (length o) w r → GoSays s n turns o o'' q → Comes s n turns (length o) w q → q ≡ r
go_only s n turns w o o' o'' r q a ca b cb = compare (dec_le (rank r) (rank q)) (dec_le (rank q) (rank r))
  where
    equal : rank r ≡ rank q → Dec (5 ≤ rank r) → q ≡ r
    equal e (yes h) = let m = rank_most r in late s n turns o o' o'' r q (omega arith) (omega arith) a b
    equal e (no h) =
        let lr : rank r < 5 = omega arith in
        let lq : rank q < 5 = omega arith in
        early q lq ∙ (ap of_rank (sym e) ∙ sym (early r lr))

    compare : Dec (rank r ≤ rank q) → Dec (rank q ≤ rank r) → q ≡ r
    compare (yes h) (yes k) = equal (omega arith) (dec_le 5 (rank r))
    compare (yes h) (no k) = absurd (cb.not_before (rank r) (omega arith) ca.here)
    compare (no h) k = absurd (ca.not_before (rank q) (omega arith) cb.here)
