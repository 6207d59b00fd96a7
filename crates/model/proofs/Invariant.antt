-- What holds of every configuration of a program that keeps, and that it is kept as processes change.
use mathlib.Core.Path.{◌≡◌, refl, sym, ap, ◌∙◌}
use mathlib.Core.Logic.{◌⊎◌, inl, inr}
use mathlib.Core.List.{List, [], ◌∷◌, ◌++◌}
use mathlib.Core.Option.{Option, some, none}
use Prim.Native.Nat.{ℕ, zero, suc, ◌<◌}
use native.Mathlib.Omega.{arith}
use lib.ListN.{length}
use Rattle.model.specs.Program.{nth, put, stop, Program}
use Rattle.model.specs.Steps.{Endpoint, own_end, far_end, stopped, Worker}
use Rattle.model.specs.Picture.{Has, Holds, places, KeepsOn, Live}
use Rattle.model.proofs.Lists.{same?, nth_below, nth_put_same, nth_put_other, nth_put_split, length_put, nth_append_left, nth_snoc_last, nth_snoc_split}
use Rattle.model.proofs.Patch.{end?, end_is}
use Rattle.model.proofs.Handing.{places_agree, Once, Handed, left_from, left_once, handed_from, handed_split, handed_apart, handed_once}
use Rattle.model.proofs.Forest.{Forest, forest_less, Came, stayed, handed, own, far, forest_start}

abbrev pub Side : ℕ → Type 0
Side s = (s ≡ 0) ⊎ (s ≡ 1)

-- Of processes and the number of the next line, with each end at a point: each process keeps to its conversations,
-- one that has stopped has nothing to do, and ends are held once, as a forest, all that are live of the lines made.
pub record Inv (g : Program) (point : Endpoint → ℕ) (ws : List Worker) (next : ℕ) : Type 0 where
  pub kept : (i : ℕ) (w : Worker) → nth ws i ≡ some w → KeepsOn g w.todo (places point w.ends)
  pub ended : (i : ℕ) (w : Worker) → nth ws i ≡ some w → w.state ≡ stopped → w.todo ≡ stop
  pub once : (i : ℕ) (w : Worker) → nth ws i ≡ some w → Once w.ends
  pub holder : (i j : ℕ) (e : Endpoint) → Holds ws i e → Holds ws j e → i ≡ j
  pub made : (i : ℕ) (e : Endpoint) → Holds ws i e → (e.line < next) × Side e.side
  pub held : (e : Endpoint) → Live g point e → e.line < next → Side e.side → (i : ℕ) × Holds ws i e
  pub forest : Forest (Holds ws)

holds_put_split : (ws : List Worker) (i k : ℕ) (v : Worker) (e : Endpoint) → Holds (put ws i v) k e → ((i ≡ k) × Has v.ends e) ⊎ ((i ≡ k → ⊥) × Holds ws k e)
holds_put_split ws i k v e h = go (nth_put_split ws i k v h.1)
  where
    go : ((i ≡ k) × (h.0 ≡ v)) ⊎ ((i ≡ k → ⊥) × (nth ws k ≡ some h.0)) → ((i ≡ k) × Has v.ends e) ⊎ ((i ≡ k → ⊥) × Holds ws k e)
    go (inl q) = inl (q.0, rw q.1 at h.2)
    go (inr q) = inr (q.0, (h.0, q.1, h.2))

-- an end that process i holds, if it still has it, or that another does, is still held
holds_put : (ws : List Worker) (i : ℕ) (w v : Worker) → nth ws i ≡ some w → (e : Endpoint) → (Has w.ends e → Has v.ends e) → (j : ℕ) → Holds ws j e → Holds (put ws i v) j e
holds_put ws i w v h e keeps j k = go (same? i j)
  where
    go : (i ≡ j) ⊎ (i ≡ j → ⊥) → Holds (put ws i v) j e
    go (inl q) =
        let u = k.1 in
        let wu : k.0 ≡ w = cc in
        (v, ap (nth (put ws i v)) (sym q) ∙ nth_put_same ws i v h, keeps (rw wu at k.2))
    go (inr n) = (k.0, nth_put_other ws i j v n ∙ k.1, k.2)

-- Process i goes on as v, with no end that it did not have, and without losing a live one; the points of the others'
-- ends are as before, and no conversation comes to life.
pub inv_put : (g : Program) (point to : Endpoint → ℕ) (ws : List Worker) (next : ℕ) → Inv g point ws next → (i : ℕ) (w v : Worker) → nth ws i ≡ some w →
    ((e : Endpoint) → Has v.ends e → Has w.ends e) → ((e : Endpoint) → Live g to e → Live g point e) → ((e : Endpoint) → Live g to e → Has w.ends e → Has v.ends e) →
    Once v.ends → KeepsOn g v.todo (places to v.ends) → (v.state ≡ stopped → v.todo ≡ stop) →
    ((j : ℕ) (u : Worker) → (i ≡ j → ⊥) → nth ws j ≡ some u → places to u.ends ≡ places point u.ends) → Inv g to (put ws i v) next
inv_put g point to ws next inv i w v h less live keeps once k st others = record {
  kept = λ j u e. kept_of j u (nth_put_split ws i j v e);
  ended = λ j u e. ended_of j u (nth_put_split ws i j v e);
  once = λ j u e. once_of j u (nth_put_split ws i j v e);
  holder = λ j m e a b. inv.holder j m e (before j e a) (before m e b);
  made = λ j e a. inv.made j e (before j e a);
  held = λ e l b s. let o = inv.held e (live e l) b s in (o.0, holds_put ws i w v h e (keeps e l) o.0 o.1);
  forest = forest_less inv.forest before;
}
  where
    before : (j : ℕ) (e : Endpoint) → Holds (put ws i v) j e → Holds ws j e
    before j e a = go (holds_put_split ws i j v e a)
      where
        go : ((i ≡ j) × Has v.ends e) ⊎ ((i ≡ j → ⊥) × Holds ws j e) → Holds ws j e
        go (inl q) = (w, rw q.0 at h, less e q.1)
        go (inr q) = q.1

    kept_of : (j : ℕ) (u : Worker) → ((i ≡ j) × (u ≡ v)) ⊎ ((i ≡ j → ⊥) × (nth ws j ≡ some u)) → KeepsOn g u.todo (places to u.ends)
    kept_of j u (inl q) = rw q.1 k
    kept_of j u (inr q) = rw (others j u q.0 q.1) (inv.kept j u q.1)

    ended_of : (j : ℕ) (u : Worker) → ((i ≡ j) × (u ≡ v)) ⊎ ((i ≡ j → ⊥) × (nth ws j ≡ some u)) → u.state ≡ stopped → u.todo ≡ stop
    ended_of j u (inl q) = rw q.1 st
    ended_of j u (inr q) = inv.ended j u q.1

    once_of : (j : ℕ) (u : Worker) → ((i ≡ j) × (u ≡ v)) ⊎ ((i ≡ j → ⊥) × (nth ws j ≡ some u)) → Once u.ends
    once_of j u (inl q) = rw q.1 once
    once_of j u (inr q) = inv.once j u q.1

-- who holds an end after a start, if each end had one holder
came_holder : {H : ℕ → Endpoint → Type 0} {p q line : ℕ} {G : Endpoint → Type 0} → ((i j : ℕ) (e : Endpoint) → H i e → H j e → i ≡ j) → ((i : ℕ) (e : Endpoint) → H i e → e.line ≡ line → ⊥) →
    (i j : ℕ) (e : Endpoint) → Came H p q line G i e → Came H p q line G j e → i ≡ j
came_holder hold new i j e (stayed h n k) (stayed h' n' k') = hold i j e h h'
came_holder {p} hold new i j e (stayed h n k) (handed jq h' g) = absurd (k (hold i p e h h') g)
came_holder hold new i j e (stayed h n k) (own jp eo) = absurd (new i e h (ap (λ (x : Endpoint). x.line) eo))
came_holder hold new i j e (stayed h n k) (far jq ef) = absurd (new i e h (ap (λ (x : Endpoint). x.line) ef))
came_holder {p} hold new i j e (handed iq h g) (stayed h' n k) = absurd (k (hold j p e h' h) g)
came_holder hold new i j e (handed iq h g) (handed jq h' g') = iq ∙ sym jq
came_holder {p} hold new i j e (handed iq h g) (own jp eo) = absurd (new p e h (ap (λ (x : Endpoint). x.line) eo))
came_holder hold new i j e (handed iq h g) (far jq ef) = iq ∙ sym jq
came_holder hold new i j e (own ip eo) (stayed h n k) = absurd (new j e h (ap (λ (x : Endpoint). x.line) eo))
came_holder {p} hold new i j e (own ip eo) (handed jq h g) = absurd (new p e h (ap (λ (x : Endpoint). x.line) eo))
came_holder hold new i j e (own ip eo) (own jp eo') = ip ∙ sym jp
came_holder hold new i j e (own ip eo) (far jq ef) = let a = ap (λ (x : Endpoint). x.side) eo in let b = ap (λ (x : Endpoint). x.side) ef in absurd (omega arith)
came_holder hold new i j e (far iq ef) (stayed h n k) = absurd (new j e h (ap (λ (x : Endpoint). x.line) ef))
came_holder hold new i j e (far iq ef) (handed jq h g) = iq ∙ sym jq
came_holder hold new i j e (far iq ef) (own jp eo) = let a = ap (λ (x : Endpoint). x.side) eo in let b = ap (λ (x : Endpoint). x.side) ef in absurd (omega arith)
came_holder hold new i j e (far iq ef) (far jq ef') = iq ∙ sym jq

has? : (es : List (Option Endpoint)) (e : Endpoint) → Has es e ⊎ (Has es e → ⊥)
has? [] e = inr (λ h. let k = h.1 in grind arith)
has? (none ∷ es) e = go (has? es e)
  where
    go : Has es e ⊎ (Has es e → ⊥) → Has (none ∷ es) e ⊎ (Has (none ∷ es) e → ⊥)
    go (inl h) = inl (suc h.0, h.1)
    go (inr n) = inr (λ h. no_more h.0 h.1)
      where
        no_more : (c : ℕ) → nth (none ∷ es) c ≡ some (some e) → ⊥
        no_more zero k = grind arith
        no_more (suc c) k = n (c, k)
has? (some d ∷ es) e = go (end? d e) (has? es e)
  where
    go : (d ≡ e) ⊎ (d ≡ e → ⊥) → Has es e ⊎ (Has es e → ⊥) → Has (some d ∷ es) e ⊎ (Has (some d ∷ es) e → ⊥)
    go (inl q) _ = inl (0, ap (λ (x : Endpoint). some (some x)) q)
    go (inr m) (inl h) = inl (suc h.0, h.1)
    go (inr m) (inr n) = inr (λ h. no_more h.0 h.1)
      where
        no_more : (c : ℕ) → nth (some d ∷ es) c ≡ some (some e) → ⊥
        no_more zero k = m (cc)
        no_more (suc c) k = n (c, k)

-- Process i goes on as v and has started q: v has what it did not hand on and its end of the new line, q the other
-- end and what it was handed. The points of the lines made before are as they were.
module _ (g : Program) (point to : Endpoint → ℕ) (ws : List Worker) (line : ℕ) (inv : Inv g point ws line) (i : ℕ) (w v q : Worker) (h : nth ws i ≡ some w)
    (cs : List ℕ) (given left : List (Option Endpoint)) (parts : Handed w.ends cs given left)
    (v_ends : v.ends ≡ left ++ (some (own_end line) ∷ [])) (q_ends : q.ends ≡ some (far_end line) ∷ given)
    (old : (e : Endpoint) → e.line < line → to e ≡ point e) where
  v_has : (e : Endpoint) → Has v.ends e → Has left e ⊎ (e ≡ own_end line)
  v_has e k = go (nth_snoc_split left (some (own_end line)) k.0 (rw v_ends at k.1))
    where
      go : (nth left k.0 ≡ some (some e)) ⊎ ((k.0 ≡ length left) × (some e ≡ some (own_end line))) → Has left e ⊎ (e ≡ own_end line)
      go (inl x) = inl (k.0, x)
      go (inr x) = let y = x.1 in inr (cc)

  q_has : (e : Endpoint) → Has q.ends e → Has given e ⊎ (e ≡ far_end line)
  q_has e k = go k.0 (rw q_ends at k.1)
    where
      go : (c : ℕ) → nth (some (far_end line) ∷ given) c ≡ some (some e) → Has given e ⊎ (e ≡ far_end line)
      go zero x = inr (cc)
      go (suc c) x = inl (c, x)

  new : (j : ℕ) (e : Endpoint) → Holds ws j e → e.line ≡ line → ⊥
  new j e k x = let b = (inv.made j e k).0 in omega arith

  here : i < length ws
  here = nth_below ws i h

  came : (j : ℕ) (e : Endpoint) → Holds (put ws i v ++ (q ∷ [])) j e → Came (Holds ws) i (length ws) line (Has given) j e
  came j e k = go (nth_snoc_split (put ws i v) q j k.1)
    where
      later : (nth (put ws i v) j ≡ some k.0) → Came (Holds ws) i (length ws) line (Has given) j e
      later x = two (nth_put_split ws i j v x)
        where
          below : j < length ws
          below = let b = nth_below (put ws i v) j x in let c = length_put ws i v in omega arith

          two : ((i ≡ j) × (k.0 ≡ v)) ⊎ ((i ≡ j → ⊥) × (nth ws j ≡ some k.0)) → Came (Holds ws) i (length ws) line (Has given) j e
          two (inl y) = three (v_has e (rw y.1 at k.2))
            where
              three : Has left e ⊎ (e ≡ own_end line) → Came (Holds ws) i (length ws) line (Has given) j e
              three (inl z) = stayed (w, rw y.0 at h, (z.0, left_from parts z.0 e z.1)) (λ n. omega (arith, below)) (λ _ m. handed_apart parts (inv.once i w h) e m z)
              three (inr z) = own (sym y.0) z
          two (inr y) = stayed (k.0, y.1, k.2) (λ n. omega (arith, below)) (λ n m. y.0 (sym n))

      go : (nth (put ws i v) j ≡ some k.0) ⊎ ((j ≡ length (put ws i v)) × (k.0 ≡ q)) → Came (Holds ws) i (length ws) line (Has given) j e
      go (inl x) = later x
      go (inr x) = two (q_has e (rw x.1 at k.2))
        where
          two : Has given e ⊎ (e ≡ far_end line) → Came (Holds ws) i (length ws) line (Has given) j e
          two (inl z) = handed (x.0 ∙ length_put ws i v) (w, h, handed_from parts e z) z
          two (inr z) = far (x.0 ∙ length_put ws i v) z

  -- the new process and the starter, and any other, in the new list
  v_there : nth (put ws i v ++ (q ∷ [])) i ≡ some v
  v_there = nth_append_left (put ws i v) (q ∷ []) i (nth_put_same ws i v h)

  q_there : nth (put ws i v ++ (q ∷ [])) (length (put ws i v)) ≡ some q
  q_there = nth_snoc_last (put ws i v) q

  made_of : (j : ℕ) (e : Endpoint) → Came (Holds ws) i (length ws) line (Has given) j e → (e.line < suc line) × Side e.side
  made_of j e (stayed k n m) = let b = inv.made j e k in let c = b.0 in (omega arith, b.1)
  made_of j e (handed x k m) = let b = inv.made i e k in let c = b.0 in (omega arith, b.1)
  made_of j e (own x y) = rw y (omega arith, inl refl)
  made_of j e (far x y) = rw y (omega arith, inr refl)

  held_of : (e : Endpoint) → Live g to e → e.line < suc line → Side e.side → (j : ℕ) × Holds (put ws i v ++ (q ∷ [])) j e
  held_of e live b side = go (same? e.line line) side
    where
      before : e.line < line → (j : ℕ) × Holds ws j e → (j : ℕ) × Holds (put ws i v ++ (q ∷ [])) j e
      before below k = two (same? i k.0)
        where
          three : Has left e ⊎ Has given e → (j : ℕ) × Holds (put ws i v ++ (q ∷ [])) j e
          three (inl z) = (i, (v, v_there, (z.0, rw v_ends (nth_append_left left _ z.0 z.1))))
          three (inr z) = (length (put ws i v), (q, q_there, (suc z.0, rw q_ends z.1)))

          two : (i ≡ k.0) ⊎ (i ≡ k.0 → ⊥) → (j : ℕ) × Holds (put ws i v ++ (q ∷ [])) j e
          two (inl z) =
              let u = k.1.1 in
              let same : k.1.0 ≡ w = cc in
              three (handed_split parts e (rw same at k.1.2))
          two (inr n) = (k.0, (k.1.0, nth_append_left (put ws i v) _ k.0 (nth_put_other ws i k.0 v n ∙ k.1.1), k.1.2))

      go : (e.line ≡ line) ⊎ (e.line ≡ line → ⊥) → Side e.side → (j : ℕ) × Holds (put ws i v ++ (q ∷ [])) j e
      go (inl x) (inl s) = rw (end_is e (own_end line) x s) (i, (v, v_there, (length left, rw v_ends (nth_snoc_last left (some (own_end line))))))
      go (inl x) (inr s) = rw (end_is e (far_end line) x s) (length (put ws i v), (q, q_there, (0, rw q_ends refl)))
      go (inr n) _ = before (omega arith) (inv.held e (λ o. live (rw (old e (omega arith)) o)) (omega arith) side)

  v_once : Once v.ends
  v_once c d e x y = go (nth_snoc_split left (some (own_end line)) c (rw v_ends at x)) (nth_snoc_split left (some (own_end line)) d (rw v_ends at y))
    where
      left_old : (z : ℕ) → nth left z ≡ some (some e) → some e ≡ some (own_end line) → ⊥
      left_old z k o = let p : e ≡ own_end line = cc in new i e (w, h, (z, left_from parts z e k)) (ap (λ (f : Endpoint). f.line) p)

      go : (nth left c ≡ some (some e)) ⊎ ((c ≡ length left) × (some e ≡ some (own_end line))) → (nth left d ≡ some (some e)) ⊎ ((d ≡ length left) × (some e ≡ some (own_end line))) → c ≡ d
      go (inl a) (inl b) = left_once parts (inv.once i w h) c d e a b
      go (inl a) (inr b) = absurd (left_old c a b.1)
      go (inr a) (inl b) = absurd (left_old d b a.1)
      go (inr a) (inr b) = a.0 ∙ sym b.0

  q_once : Once q.ends
  q_once c d e x y = go c d (rw q_ends at x) (rw q_ends at y)
    where
      given_old : (z : ℕ) → nth given z ≡ some (some e) → some (some (far_end line)) ≡ some (some e) → ⊥
      given_old z k o = let p : e ≡ far_end line = cc in new i e (w, h, handed_from parts e (z, k)) (ap (λ (f : Endpoint). f.line) p)

      go : (a b : ℕ) → nth (some (far_end line) ∷ given) a ≡ some (some e) → nth (some (far_end line) ∷ given) b ≡ some (some e) → a ≡ b
      go zero zero m n = refl
      go zero (suc b) m n = absurd (given_old b n m)
      go (suc a) zero m n = absurd (given_old a m n)
      go (suc a) (suc b) m n = ap suc (handed_once parts (inv.once i w h) a b e m n)

  -- a property of workers that v, q and the others have
  each : (P : Worker → Type 0) → P v → P q → ((j : ℕ) (u : Worker) → nth ws j ≡ some u → P u) → (j : ℕ) (u : Worker) → nth (put ws i v ++ (q ∷ [])) j ≡ some u → P u
  each P pv pq po j u k = go (nth_snoc_split (put ws i v) q j k)
    where
      two : ((i ≡ j) × (u ≡ v)) ⊎ ((i ≡ j → ⊥) × (nth ws j ≡ some u)) → P u
      two (inl y) = rw y.1 pv
      two (inr y) = po j u y.1

      go : (nth (put ws i v) j ≡ some u) ⊎ ((j ≡ length (put ws i v)) × (u ≡ q)) → P u
      go (inl x) = two (nth_put_split ws i j v x)
      go (inr x) = rw x.1 pq

  pub inv_start : KeepsOn g v.todo (places to v.ends) → KeepsOn g q.todo (places to q.ends) → (v.state ≡ stopped → v.todo ≡ stop) → (q.state ≡ stopped → q.todo ≡ stop) →
      Inv g to (put ws i v ++ (q ∷ [])) (suc line)
  inv_start kv kq sv sq = record {
    kept = λ j u k. each (λ u. KeepsOn g u.todo (places to u.ends)) kv kq (λ j u k. rw (places_agree point to u.ends (λ e z. old e (inv.made j e (u, k, z)).0)) (inv.kept j u k)) j u k;
    ended = λ j u k. each (λ u. u.state ≡ stopped → u.todo ≡ stop) sv sq (λ j u k. inv.ended j u k) j u k;
    once = λ j u k. each (λ u. Once u.ends) v_once q_once (λ j u k. inv.once j u k) j u k;
    holder = λ j m e a b. came_holder inv.holder new j m e (came j e a) (came m e b);
    made = λ j e a. made_of j e (came j e a);
    held = held_of;
    forest = forest_start inv.forest i (length ws) line (Has given) (λ x. omega (arith, here)) new (has? given (inv.forest.up i)) came;
  }
