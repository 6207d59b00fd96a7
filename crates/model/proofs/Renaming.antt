-- Configurations that are the same but for numbers: an equivalence, and they take the same steps.
use mathlib.Core.Path.{◌≡◌, refl, sym, ap, ◌∙◌}
use mathlib.Core.Logic.{◌⊎◌, inl, inr}
use mathlib.Core.List.{List, [], ◌∷◌, ◌++◌, map, map-append, map-map}
use mathlib.Core.Option.{Option, some, none}
use Prim.Native.Nat.{ℕ, zero, suc, ◌+◌, ◌≤◌, ◌<◌}
use native.Mathlib.Omega.{arith}
use lib.ListN.{length, length-append, length-map}
use Rattle.model.specs.Program.{nth, put, Program}
use Rattle.model.specs.Steps.{Endpoint, own_end, Worker, Configuration, end, ends_of, without, only_first, after_alone, after_together, Alone, stops, sets, ifs, shows, starts, becomes, starts_spent, becomes_spent, Facing, Together, passes, agrees, Step, alone, together}
use Rattle.model.specs.Same.{Renumbering, renamed_end, renamed, Same}
use Rattle.model.proofs.Lists.{below?, nth_below, nth_there, nth_put_same, nth_put_other, nth_put_split, length_put, nth_append_left, nth_append_right, nth_append_split, nth_map, map_put, map_agree, map_same}

worker_ends : (w v : Worker) → w.todo ≡ v.todo → w.vars ≡ v.vars → w.ends ≡ v.ends → w.left ≡ v.left → w.state ≡ v.state → w ≡ v
worker_ends w v t x e l s = λ i. record { todo = t i; vars = x i; ends = e i; left = l i; state = s i }

-- renaming where it changes nothing, and renaming twice
end_fixed : (f : ℕ → ℕ) (o : Option Endpoint) → ((e : Endpoint) → o ≡ some e → f e.line ≡ e.line) → renamed_end f o ≡ o
end_fixed f none h = refl
end_fixed f (some e) h = let q = h e refl in λ i. some (record { line = q i; side = e.side })

pub renamed_fixed : (f : ℕ → ℕ) (w : Worker) → ((c : ℕ) (e : Endpoint) → nth w.ends c ≡ some (some e) → f e.line ≡ e.line) → renamed f w ≡ w
renamed_fixed f w h = worker_ends _ _ refl refl (map_same (renamed_end f) w.ends (λ c o k. end_fixed f o (λ e q. h c e (k ∙ ap some q)))) refl refl

end_twice : (g f : ℕ → ℕ) (o : Option Endpoint) → renamed_end g (renamed_end f o) ≡ renamed_end (λ l. g (f l)) o
end_twice g f none = refl
end_twice g f (some e) = refl

pub renamed_twice : (g f : ℕ → ℕ) (w : Worker) → renamed g (renamed f w) ≡ renamed (λ l. g (f l)) w
renamed_twice g f w = worker_ends _ _ refl refl (map-map (renamed_end g) (renamed_end f) w.ends ∙ map_agree _ _ w.ends (λ i o h. end_twice g f o)) refl refl

pub renamed_back : (g f : ℕ → ℕ) (w : Worker) → ((l : ℕ) → g (f l) ≡ l) → renamed g (renamed f w) ≡ w
renamed_back g f w h = renamed_twice g f w ∙ renamed_fixed (λ l. g (f l)) w (λ c e k. h e.line)

-- renaming and handing on
pub end_renamed : (f : ℕ → ℕ) (es : List (Option Endpoint)) (c : ℕ) → end (map (renamed_end f) es) c ≡ renamed_end f (end es c)
end_renamed f [] c = refl
end_renamed f (o ∷ es) zero = refl
end_renamed f (o ∷ es) (suc c) = end_renamed f es c

ends_of_renamed : (f : ℕ → ℕ) (es : List (Option Endpoint)) (cs : List ℕ) → map (renamed_end f) (ends_of es cs) ≡ ends_of (map (renamed_end f) es) cs
ends_of_renamed f es [] = refl
ends_of_renamed f es (c ∷ cs) = let p = end_renamed f es c in let q = ends_of_renamed f es cs in cc

without_renamed : (f : ℕ → ℕ) (es : List (Option Endpoint)) (cs : List ℕ) → map (renamed_end f) (without es cs) ≡ without (map (renamed_end f) es) cs
without_renamed f es [] = refl
without_renamed f es (c ∷ cs) = without_renamed f (put es c none) cs ∙ ap (λ (x : List (Option Endpoint)). without x cs) (map_put (renamed_end f) es c none)

-- what one process does, and what two do, does not depend on numbers of lines
pub alone_renamed : (g : Program) (f : ℕ → ℕ) (line : ℕ) (w w' : Worker) (vs : List Worker) (ns : List ℕ) → Alone g line w w' vs ns → Alone g (f line) (renamed f w) (renamed f w') (map (renamed f) vs) ns
alone_renamed g f line w w' vs ns (stops t) = stops t
alone_renamed g f line w w' vs ns (sets x e s t) = sets x e s t
alone_renamed g f line w w' vs ns (ifs e s u t) = ifs e s u t
alone_renamed g f line w w' vs ns (shows e s t) = shows e s t
alone_renamed g f line w w' vs ns (starts p cs es s q l t h e) =
    rw (map-append (renamed_end f) (without w.ends cs) (some (own_end line) ∷ []), without_renamed f w.ends cs, ends_of_renamed f w.ends cs) (starts p cs es s q l t h e)
alone_renamed g f line w w' vs ns (becomes p cs es q l t h e) = rw (ends_of_renamed f w.ends cs) (becomes p cs es q l t h e)
alone_renamed g f line w w' vs ns (starts_spent p cs es s t e) = starts_spent p cs es s t e
alone_renamed g f line w w' vs ns (becomes_spent p cs es t e) = becomes_spent p cs es t e

facing_renamed : (f : ℕ → ℕ) (e d : Option Endpoint) → Facing e d → Facing (renamed_end f e) (renamed_end f d)
facing_renamed f e d k = record {
  a = record { line = f k.a.line; side = k.a.side };
  b = record { line = f k.b.line; side = k.b.side };
  is_a = ap (renamed_end f) k.is_a;
  is_b = ap (renamed_end f) k.is_b;
  line = ap f k.line;
  sides = k.sides;
}

together_renamed : (f : ℕ → ℕ) (w v w' v' : Worker) → Together w v w' v' → Together (renamed f w) (renamed f v) (renamed f w') (renamed f v')
together_renamed f w v w' v' (passes c d x e s t p q k) = passes c d x e s t p q (rw (end_renamed f w.ends c, end_renamed f v.ends d) (facing_renamed f _ _ k))
together_renamed f w v w' v' (agrees c d j s t u p q k) = agrees c d j s t u p q (rw (end_renamed f w.ends c, end_renamed f v.ends d) (facing_renamed f _ _ k))

-- an equivalence
abbrev identity : Renumbering
identity = record { to = λ n. n; from = λ n. n; there = λ n. refl; back = λ n. refl }

abbrev inverse : Renumbering → Renumbering
inverse r = record { to = r.from; from = r.to; there = r.back; back = r.there }

abbrev composed : Renumbering → Renumbering → Renumbering
composed r q = record { to = λ n. q.to (r.to n); from = λ n. r.from (q.from n); there = λ n. ap r.from (q.there (r.to n)) ∙ r.there n; back = λ n. ap q.to (r.back (q.from n)) ∙ q.back n }

pub same_refl : (a : Configuration) → Same a a
same_refl a = record {
  processes = identity;
  lines = identity;
  first = refl;
  new_process = λ i h. refl;
  new_line = λ l h. refl;
  counts = refl;
  nexts = refl;
  showns = refl;
  each = λ i w h. h ∙ ap some (sym (renamed_fixed (λ n. n) w (λ c e k. refl)));
}

pub same_of : (a b : Configuration) → a ≡ b → Same a b
same_of a b e = rw e (same_refl b)

from_fixed : (r : Renumbering) (i : ℕ) → r.to i ≡ i → r.from i ≡ i
from_fixed r i h = ap r.from (sym h) ∙ r.there i

pub same_sym : (a b : Configuration) → Same a b → Same b a
same_sym a b s = record {
  processes = inverse s.processes;
  lines = inverse s.lines;
  first = from_fixed s.processes 0 s.first;
  new_process = λ i h. from_fixed s.processes i (s.new_process i (let c = s.counts in omega arith));
  new_line = λ l h. from_fixed s.lines l (s.new_line l (let c = s.nexts in omega arith));
  counts = sym s.counts;
  nexts = sym s.nexts;
  showns = sym s.showns;
  each = λ i w h. each i w h;
}
  where
    -- the number that a process had is the number of a process
    inside : (i : ℕ) (w : Worker) → nth b.workers i ≡ some w → (s.processes.from i < length a.workers) ⊎ (length a.workers ≤ s.processes.from i) → s.processes.from i < length a.workers
    inside i w h (inl k) = k
    inside i w h (inr k) =
        let p = s.new_process (s.processes.from i) k in
        let q = s.processes.back i in
        let l = nth_below b.workers i h in
        let c = s.counts in
        absurd (omega arith)

    each : (i : ℕ) (w : Worker) → nth b.workers i ≡ some w → nth a.workers (s.processes.from i) ≡ some (renamed s.lines.from w)
    each i w h =
        let x = nth_there a.workers (s.processes.from i) (inside i w h (below? (s.processes.from i) (length a.workers))) in
        let y = s.each (s.processes.from i) x.0 x.1 in
        let z = ap (nth b.workers) (s.processes.back i) in
        let u : w ≡ renamed s.lines.to x.0 = cc in
        let v : renamed s.lines.from w ≡ x.0 = ap (renamed s.lines.from) u ∙ renamed_back s.lines.from s.lines.to x.0 s.lines.there in
        x.1 ∙ ap some (sym v)

pub same_trans : (a b c : Configuration) → Same a b → Same b c → Same a c
same_trans a b c s t = record {
  processes = composed s.processes t.processes;
  lines = composed s.lines t.lines;
  first = ap t.processes.to s.first ∙ t.first;
  new_process = λ i h. ap t.processes.to (s.new_process i h) ∙ t.new_process i (let k = s.counts in omega arith);
  new_line = λ l h. ap t.lines.to (s.new_line l h) ∙ t.new_line l (let k = s.nexts in omega arith);
  counts = s.counts ∙ t.counts;
  nexts = s.nexts ∙ t.nexts;
  showns = s.showns ∙ t.showns;
  each = λ i w h. t.each (s.processes.to i) (renamed s.lines.to w) (s.each i w h) ∙ ap some (renamed_twice t.lines.to s.lines.to w);
}

-- They take the same steps.
module _ (g : Program) (a b : Configuration) (s : Same a b) where
  one_to_one : (i j : ℕ) → s.processes.to i ≡ s.processes.to j → i ≡ j
  one_to_one i j h = sym (s.processes.there i) ∙ ap s.processes.from h ∙ s.processes.there j

  first_only : (i : ℕ) (ns : List ℕ) → only_first (s.processes.to i) ns ≡ only_first i ns
  first_only zero ns = ap (λ n. only_first n ns) s.first
  first_only (suc i) ns = go (s.processes.to (suc i)) refl
    where
      go : (n : ℕ) → s.processes.to (suc i) ≡ n → only_first n ns ≡ []
      go zero h = let k = one_to_one (suc i) 0 (h ∙ sym s.first) in absurd (omega arith)
      go (suc n) h = refl

  -- one process of each list put in, and others behind
  each_put : (i : ℕ) (w : Worker) (ws vs : List Worker) (w' : Worker) → nth ws i ≡ some w → length ws ≡ length vs → ((k : ℕ) (u : Worker) → nth ws k ≡ some u → nth vs (s.processes.to k) ≡ some (renamed s.lines.to u)) →
      (k : ℕ) (u : Worker) → nth (put ws i w') k ≡ some u → nth (put vs (s.processes.to i) (renamed s.lines.to w')) (s.processes.to k) ≡ some (renamed s.lines.to u)
  each_put i w ws vs w' h len each k u x = go (nth_put_split ws i k w' x)
    where
      go : ((i ≡ k) × (u ≡ w')) ⊎ ((i ≡ k → ⊥) × (nth ws k ≡ some u)) → nth (put vs (s.processes.to i) (renamed s.lines.to w')) (s.processes.to k) ≡ some (renamed s.lines.to u)
      go (inl y) = rw (← y.0, y.1) (nth_put_same vs (s.processes.to i) (renamed s.lines.to w') (each i w h))
      go (inr y) = nth_put_other vs (s.processes.to i) (s.processes.to k) (renamed s.lines.to w') (λ e. y.0 (one_to_one i k e)) ∙ each k u y.1

  same_alone : (i : ℕ) (w w' : Worker) (vs : List Worker) (ns : List ℕ) → nth a.workers i ≡ some w → Same (after_alone a i w' vs ns) (after_alone b (s.processes.to i) (renamed s.lines.to w') (map (renamed s.lines.to) vs) ns)
  same_alone i w w' vs ns h = record {
    processes = s.processes;
    lines = s.lines;
    first = s.first;
    new_process = λ k l. s.new_process k (let x = length-append (put a.workers i w') vs in let y = length_put a.workers i w' in omega arith);
    new_line = λ k l. s.new_line k (omega arith);
    counts = counts_of;
    nexts = let x = length-map vs (renamed s.lines.to) in let y = s.nexts in omega arith;
    showns = shown_of;
    each = λ k u x. each k u (nth_append_split (put a.workers i w') vs k x);
  }
    where
      shown_of : a.shown ++ only_first i ns ≡ b.shown ++ only_first (s.processes.to i) ns
      shown_of = let x = s.showns in let y = first_only i ns in cc

      counts_of : length (put a.workers i w' ++ vs) ≡ length (put b.workers (s.processes.to i) (renamed s.lines.to w') ++ map (renamed s.lines.to) vs)
      counts_of =
          let p = length-append (put a.workers i w') vs in
          let q = length-append (put b.workers (s.processes.to i) (renamed s.lines.to w')) (map (renamed s.lines.to) vs) in
          let r = length_put a.workers i w' in
          let t = length_put b.workers (s.processes.to i) (renamed s.lines.to w') in
          let u = length-map vs (renamed s.lines.to) in
          let v = s.counts in
          omega arith

      each : (k : ℕ) (u : Worker) → (nth (put a.workers i w') k ≡ some u) ⊎ ((m : ℕ) × (k ≡ length (put a.workers i w') + m) × (nth vs m ≡ some u)) →
          nth (put b.workers (s.processes.to i) (renamed s.lines.to w') ++ map (renamed s.lines.to) vs) (s.processes.to k) ≡ some (renamed s.lines.to u)
      each k u (inl x) = nth_append_left (put b.workers (s.processes.to i) (renamed s.lines.to w')) _ (s.processes.to k) (each_put i w a.workers b.workers w' h s.counts s.each k u x)
      each k u (inr x) =
          let r = length_put a.workers i w' in
          let t = length_put b.workers (s.processes.to i) (renamed s.lines.to w') in
          let e = x.1 in
          let n = s.new_process k (omega arith) in
          let v = s.counts in
          nth_append_right (put b.workers (s.processes.to i) (renamed s.lines.to w')) (map (renamed s.lines.to) vs) x.0 (s.processes.to k) (omega arith) ∙ nth_map (renamed s.lines.to) vs x.0 x.2

  same_together : (i j : ℕ) (w v w' v' : Worker) → (i ≡ j → ⊥) → nth a.workers i ≡ some w → nth a.workers j ≡ some v →
      Same (after_together a i j w' v') (after_together b (s.processes.to i) (s.processes.to j) (renamed s.lines.to w') (renamed s.lines.to v'))
  same_together i j w v w' v' d h k = record {
    processes = s.processes;
    lines = s.lines;
    first = s.first;
    new_process = λ m l. s.new_process m (let x = length_put (put a.workers i w') j v' in let y = length_put a.workers i w' in omega arith);
    new_line = s.new_line;
    counts = counts_of;
    nexts = s.nexts;
    showns = s.showns;
    each = each_put j v (put a.workers i w') (put b.workers (s.processes.to i) (renamed s.lines.to w')) v' (nth_put_other a.workers i j w' d ∙ k)
        (length_put a.workers i w' ∙ s.counts ∙ sym (length_put b.workers (s.processes.to i) (renamed s.lines.to w'))) (each_put i w a.workers b.workers w' h s.counts s.each);
  }
    where
      counts_of : length (put (put a.workers i w') j v') ≡ length (put (put b.workers (s.processes.to i) (renamed s.lines.to w')) (s.processes.to j) (renamed s.lines.to v'))
      counts_of =
          let p = length_put (put a.workers i w') j v' in
          let q = length_put (put b.workers (s.processes.to i) (renamed s.lines.to w')) (s.processes.to j) (renamed s.lines.to v') in
          let r = length_put a.workers i w' in
          let t = length_put b.workers (s.processes.to i) (renamed s.lines.to w') in
          let v = s.counts in
          omega arith

  pub same_step : (c : Configuration) → Step g a c → (d : Configuration) × Step g b d × Same c d
  same_step c (alone i w w' vs ns h r st) = (_, alone (s.processes.to i) (renamed s.lines.to w) (renamed s.lines.to w') (map (renamed s.lines.to) vs) ns (s.each i w h) r on_line, same_alone i w w' vs ns h)
    where
      on_line : Alone g b.next (renamed s.lines.to w) (renamed s.lines.to w') (map (renamed s.lines.to) vs) ns
      on_line = let p : s.lines.to a.next ≡ b.next = s.new_line a.next (omega arith) ∙ s.nexts in rw p at (alone_renamed g s.lines.to a.next w w' vs ns st)
  same_step c (together i j w v w' v' d h k r q st) = (
    _,
    together (s.processes.to i) (s.processes.to j) (renamed s.lines.to w) (renamed s.lines.to v) (renamed s.lines.to w') (renamed s.lines.to v') (λ e. d (one_to_one i j e)) (s.each i w h) (s.each j v k) r q
        (together_renamed s.lines.to w v w' v' st),
    same_together i j w v w' v' d h k,
  )
