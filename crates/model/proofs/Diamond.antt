-- Two different steps that can both be taken can be taken in either order.
use mathlib.Core.Path.{◌≡◌, refl, sym, ap, ◌∙◌}
use mathlib.Core.Logic.{◌⊎◌, inl, inr}
use mathlib.Core.List.{List, [], ◌∷◌, ◌++◌, append-nil}
use mathlib.Core.Option.{some, none}
use Prim.Native.Nat.{ℕ, zero, suc, ◌+◌, ◌<◌}
use native.Mathlib.Nat.{add-zero}
use native.Mathlib.Numerals.{add-one}
use native.Mathlib.Omega.{arith}
use lib.ListN.{length, length-append}
use Rattle.model.specs.Program.{nth, put, Program}
use Rattle.model.specs.Steps.{Endpoint, running, Worker, Configuration, only_first, after_alone, after_together, Alone, Together, Step, alone, together}
use Rattle.model.specs.Waiting.{awaits}
use Rattle.model.specs.Same.{Renumbering, renamed, Same}
use Rattle.model.proofs.Lists.{same?, nth_below, nth_put_same, nth_put_other, nth_put_split, length_put, put_append, put_put_other, nth_append_left, nth_snoc_last, nth_snoc_split}
use Rattle.model.proofs.Patch.{patch, patch_same, patch_other, end_is}
use Rattle.model.proofs.Invariant.{Side}
use Rattle.model.proofs.Sound.{Sound}
use Rattle.model.proofs.Renaming.{renamed_fixed, renamed_back, alone_renamed, same_of, same_sym}
use Rattle.model.proofs.Determined.{alone_once, alone_free, Starting, no_start, one_start, starting, together_once, together_roles, Between, between}

-- they came to the same, or can come to the same by a step each
abbrev pub Joins : Program → Configuration → Configuration → Type 0
Joins g b c = (b ≡ c) ⊎ ((d : Configuration) × (e : Configuration) × Step g b d × Step g c e × Same d e)

joins_turn : (g : Program) (b c : Configuration) → Joins g b c → Joins g c b
joins_turn g b c (inl e) = inl (sym e)
joins_turn g b c (inr x) = inr (x.1, x.0, x.3, x.2, same_sym x.0 x.1 x.4)

configuration_is : (a b : Configuration) → a.workers ≡ b.workers → a.next ≡ b.next → a.shown ≡ b.shown → a ≡ b
configuration_is a b p q r = λ i. record { workers = p i; next = q i; shown = r i }

-- of two processes one at most shows
shown_swap : (i j : ℕ) (ns ms s : List ℕ) → (i ≡ j → ⊥) → (s ++ only_first i ns) ++ only_first j ms ≡ (s ++ only_first j ms) ++ only_first i ns
shown_swap zero zero ns ms s d = absurd (d refl)
shown_swap zero (suc j) ns ms s d = append-nil (s ++ ns) ∙ ap (λ (x : List ℕ). x ++ ns) (sym (append-nil s))
shown_swap (suc i) zero ns ms s d = ap (λ (x : List ℕ). x ++ ms) (append-nil s) ∙ sym (append-nil (s ++ ms))
shown_swap (suc i) (suc j) ns ms s d = refl

-- the process at one place after another changed, and others came behind
nth_after : (ws vs : List Worker) (i j : ℕ) (w v : Worker) → (i ≡ j → ⊥) → nth ws j ≡ some v → nth (put ws i w ++ vs) j ≡ some v
nth_after ws vs i j w v d h = nth_append_left (put ws i w) vs j (nth_put_other ws i j w d ∙ h)

-- two numbers next to each other, swapped
abbrev swap : ℕ → ℕ → ℕ
swap k = patch (patch (λ n. n) (suc k) k) k (suc k)

swap_first : (k : ℕ) → swap k k ≡ suc k
swap_first k = patch_same (patch (λ n. n) (suc k) k) k (suc k)

swap_second : (k : ℕ) → swap k (suc k) ≡ k
swap_second k = patch_other (patch (λ n. n) (suc k) k) k (suc k) (suc k) (λ e. omega arith) ∙ patch_same (λ n. n) (suc k) k

swap_other : (k j : ℕ) → (j ≡ k → ⊥) → (j ≡ suc k → ⊥) → swap k j ≡ j
swap_other k j d e = patch_other (patch (λ n. n) (suc k) k) k (suc k) j d ∙ patch_other (λ n. n) (suc k) k j e

swap_twice : (k j : ℕ) → swap k (swap k j) ≡ j
swap_twice k j = go (same? j k) (same? j (suc k))
  where
    go : (j ≡ k) ⊎ (j ≡ k → ⊥) → (j ≡ suc k) ⊎ (j ≡ suc k → ⊥) → swap k (swap k j) ≡ j
    go (inl e) _ = ap (λ n. swap k (swap k n)) e ∙ ap (swap k) (swap_first k) ∙ swap_second k ∙ sym e
    go (inr d) (inl e) = ap (λ n. swap k (swap k n)) e ∙ ap (swap k) (swap_second k) ∙ swap_first k ∙ sym e
    go (inr d) (inr e) = ap (swap k) (swap_other k j d e) ∙ swap_other k j d e

abbrev swapping : ℕ → Renumbering
swapping k = record { to = swap k; from = swap k; there = swap_twice k; back = swap_twice k }

module _ (g : Program) (a : Configuration) (sound : Sound g a.workers a.next) where
  -- one of two processes starts none
  alone_quiet : (i j : ℕ) (w w' v v' : Worker) (vs : List Worker) (ns ms : List ℕ) → (i ≡ j → ⊥) → nth a.workers i ≡ some w → nth a.workers j ≡ some v → w.state ≡ running → v.state ≡ running →
      ((line : ℕ) → Alone g line w w' [] ns) → Alone g a.next v v' vs ms → Joins g (after_alone a i w' [] ns) (after_alone a j v' vs ms)
  alone_quiet i j w w' v v' vs ns ms d h k r q st st' = inr (
    _,
    _,
    alone j v v' vs ms (nth_after a.workers [] i j w' v d k) q (rw add-zero st'),
    alone i w w' [] ns (nth_after a.workers vs j i v' w (λ e. d (sym e)) h) r (st (a.next + length vs)),
    same_of _ _ (configuration_is _ _ workers_swap (omega arith) (shown_swap i j ns ms a.shown d)),
  )
    where
      workers_swap : put (put a.workers i w' ++ []) j v' ++ vs ≡ put (put a.workers j v' ++ vs) i w' ++ []
      workers_swap =
          let b = nth_below a.workers i h in
          let c = length_put a.workers j v' in
          let p = append-nil (put a.workers i w') in
          let q = append-nil (put (put a.workers j v' ++ vs) i w') in
          let s = put_append (put a.workers j v') vs i w' (omega arith) in
          let t = put_put_other a.workers i j w' v' d in
          cc

  -- both start one: the new processes, and the new lines, are swapped
  alone_both : (i j : ℕ) (w w' u v v' z : Worker) (ns ms : List ℕ) → (i ≡ j → ⊥) → nth a.workers i ≡ some w → nth a.workers j ≡ some v → w.state ≡ running → v.state ≡ running →
      Alone g a.next w w' (u ∷ []) ns → Alone g a.next v v' (z ∷ []) ms → Joins g (after_alone a i w' (u ∷ []) ns) (after_alone a j v' (z ∷ []) ms)
  alone_both i j w w' u v v' z ns ms d h k r q st st' = inr (
    _,
    _,
    alone j v (renamed τ v') (renamed τ z ∷ []) ms (nth_after a.workers (u ∷ []) i j w' v d k) q (shifted j v v' z ms k st'),
    alone i w (renamed τ w') (renamed τ u ∷ []) ns (nth_after a.workers (z ∷ []) j i v' w (λ e. d (sym e)) h) r (shifted i w w' u ns h st),
    same,
  )
    where
      τ : ℕ → ℕ
      τ = swap a.next

      old_line : (l : ℕ) → l < a.next → τ l ≡ l
      old_line l b = swap_other a.next l (λ e. omega arith) (λ e. omega arith)

      old_fixed : (k : ℕ) (x : Worker) → nth a.workers k ≡ some x → renamed τ x ≡ x
      old_fixed k x h = renamed_fixed τ x (λ c e y. old_line e.line (sound.inv.made k e (x, h, (c, y))).0)

      shifted : (k : ℕ) (x x' y : Worker) (ls : List ℕ) → nth a.workers k ≡ some x → Alone g a.next x x' (y ∷ []) ls → Alone g (a.next + 1) x (renamed τ x') (renamed τ y ∷ []) ls
      shifted k x x' y ls h st = rw add-one (rw (old_fixed k x h, swap_first a.next) at (alone_renamed g τ a.next x x' (y ∷ []) ls st))

      twice : (x : Worker) → renamed τ (renamed τ x) ≡ x
      twice x = renamed_back τ τ x (swap_twice a.next)

      i≢j : i ≡ j → ⊥
      i≢j = d

      b_below : i < length a.workers
      b_below = nth_below a.workers i h

      c_below : j < length a.workers
      c_below = nth_below a.workers j k

      D : List Worker
      D = put (put a.workers i w') j (renamed τ v')

      E : List Worker
      E = put (put a.workers j v') i (renamed τ w')

      d_length : length D ≡ length a.workers
      d_length = length_put (put a.workers i w') j (renamed τ v') ∙ length_put a.workers i w'

      e_length : length E ≡ length a.workers
      e_length = length_put (put a.workers j v') i (renamed τ w') ∙ length_put a.workers j v'

      d_is : put (put a.workers i w' ++ (u ∷ [])) j (renamed τ v') ≡ D ++ (u ∷ [])
      d_is = let l = length_put a.workers i w' in let b = c_below in put_append (put a.workers i w') (u ∷ []) j (renamed τ v') (omega arith)

      e_is : put (put a.workers j v' ++ (z ∷ [])) i (renamed τ w') ≡ E ++ (z ∷ [])
      e_is = let l = length_put a.workers j v' in let b = b_below in put_append (put a.workers j v') (z ∷ []) i (renamed τ w') (omega arith)

      old : (m : ℕ) (y : Worker) → nth D m ≡ some y → nth E m ≡ some (renamed τ y)
      old m y x = one (nth_put_split (put a.workers i w') j m (renamed τ v') x)
        where
          two : (j ≡ m → ⊥) → ((i ≡ m) × (y ≡ w')) ⊎ ((i ≡ m → ⊥) × (nth a.workers m ≡ some y)) → nth E m ≡ some (renamed τ y)
          two jm (inl p) = rw (← p.0, p.1) (nth_put_same (put a.workers j v') i (renamed τ w') (nth_put_other a.workers j i v' (λ e. i≢j (sym e)) ∙ h))
          two jm (inr p) = nth_put_other (put a.workers j v') i m (renamed τ w') p.0 ∙ nth_put_other a.workers j m v' jm ∙ p.1 ∙ ap some (sym (old_fixed m y p.1))

          one : ((j ≡ m) × (y ≡ renamed τ v')) ⊎ ((j ≡ m → ⊥) × (nth (put a.workers i w') m ≡ some y)) → nth E m ≡ some (renamed τ y)
          one (inl p) = rw (← p.0, p.1, twice v') (nth_put_other (put a.workers j v') i j (renamed τ w') i≢j ∙ nth_put_same a.workers j v' k)
          one (inr p) = two p.0 (nth_put_split a.workers i m w' p.1)

      each : (m : ℕ) (y : Worker) → nth ((D ++ (u ∷ [])) ++ (renamed τ z ∷ [])) m ≡ some y → nth ((E ++ (z ∷ [])) ++ (renamed τ u ∷ [])) (swap (length a.workers) m) ≡ some (renamed τ y)
      each m y x = one (nth_snoc_split (D ++ (u ∷ [])) (renamed τ z) m x)
        where
          before : nth D m ≡ some y → nth ((E ++ (z ∷ [])) ++ (renamed τ u ∷ [])) (swap (length a.workers) m) ≡ some (renamed τ y)
          before p =
              let l = nth_below D m p in
              let l' = d_length in
              rw (swap_other (length a.workers) m (λ e. omega arith) (λ e. omega arith)) (nth_append_left (E ++ (z ∷ [])) _ m (nth_append_left E _ m (old m y p)))

          two : (nth D m ≡ some y) ⊎ ((m ≡ length D) × (y ≡ u)) → nth ((E ++ (z ∷ [])) ++ (renamed τ u ∷ [])) (swap (length a.workers) m) ≡ some (renamed τ y)
          two (inl p) = before p
          two (inr p) =
              let l : swap (length a.workers) m ≡ length (E ++ (z ∷ [])) = ap (swap (length a.workers)) (p.0 ∙ d_length) ∙ swap_first (length a.workers) ∙ last_of in
              rw (l, p.1) (nth_snoc_last (E ++ (z ∷ [])) (renamed τ u))
            where
              last_of : suc (length a.workers) ≡ length (E ++ (z ∷ []))
              last_of = let q = length-append E (z ∷ []) in let t = e_length in omega arith

          one : (nth (D ++ (u ∷ [])) m ≡ some y) ⊎ ((m ≡ length (D ++ (u ∷ []))) × (y ≡ renamed τ z)) → nth ((E ++ (z ∷ [])) ++ (renamed τ u ∷ [])) (swap (length a.workers) m) ≡ some (renamed τ y)
          one (inl p) = two (nth_snoc_split D u m p)
          one (inr p) =
              let l : swap (length a.workers) m ≡ length E = ap (swap (length a.workers)) (p.0 ∙ last_of) ∙ swap_second (length a.workers) ∙ sym e_length in
              rw (l, p.1, twice z) (nth_append_left (E ++ (z ∷ [])) _ (length E) (nth_snoc_last E z))
            where
              last_of : length (D ++ (u ∷ [])) ≡ suc (length a.workers)
              last_of = let q = length-append D (u ∷ []) in let t = d_length in omega arith

      count_d : length ((D ++ (u ∷ [])) ++ (renamed τ z ∷ [])) ≡ suc (suc (length a.workers))
      count_d = let p = length-append (D ++ (u ∷ [])) (renamed τ z ∷ []) in let q = length-append D (u ∷ []) in let t = d_length in omega arith

      count_e : length ((E ++ (z ∷ [])) ++ (renamed τ u ∷ [])) ≡ suc (suc (length a.workers))
      count_e = let p = length-append (E ++ (z ∷ [])) (renamed τ u ∷ []) in let q = length-append E (z ∷ []) in let t = e_length in omega arith

      same : Same (after_alone (after_alone a i w' (u ∷ []) ns) j (renamed τ v') (renamed τ z ∷ []) ms) (after_alone (after_alone a j v' (z ∷ []) ms) i (renamed τ w') (renamed τ u ∷ []) ns)
      same = rw (d_is, e_is) (record {
        processes = swapping (length a.workers);
        lines = swapping a.next;
        first = swap_other (length a.workers) 0 (λ e. omega (arith, b_below)) (λ e. omega arith);
        new_process = λ m l. swap_other (length a.workers) m (λ e. omega (arith, count_d)) (λ e. omega (arith, count_d));
        new_line = λ m l. swap_other a.next m (λ e. omega arith) (λ e. omega arith);
        counts = count_d ∙ sym count_e;
        nexts = refl;
        showns = shown_swap i j ns ms a.shown i≢j;
        each = each;
      })

  alone_alone : (i j : ℕ) (w w' v v' : Worker) (us vs : List Worker) (ns ms : List ℕ) → (i ≡ j → ⊥) → nth a.workers i ≡ some w → nth a.workers j ≡ some v → w.state ≡ running → v.state ≡ running →
      Alone g a.next w w' us ns → Alone g a.next v v' vs ms → Starting g w w' ns us → Starting g v v' ms vs → Joins g (after_alone a i w' us ns) (after_alone a j v' vs ms)
  alone_alone i j w w' v v' us vs ns ms d h k r q st st' (no_start x) y = alone_quiet i j w w' v v' vs ns ms d h k r q x st'
  alone_alone i j w w' v v' us vs ns ms d h k r q st st' (one_start u) (no_start y) = joins_turn g _ _ (alone_quiet j i v v' w w' (u ∷ []) ms ns (λ e. d (sym e)) k h q r y st)
  alone_alone i j w w' v v' us vs ns ms d h k r q st st' (one_start u) (one_start z) = alone_both i j w w' u v v' z ns ms d h k r q st st'

  -- a process that acts alone, and two others
  alone_together : (i j k : ℕ) (w w' v v' u u' : Worker) (ws : List Worker) (ns : List ℕ) → nth a.workers i ≡ some w → nth a.workers j ≡ some v → nth a.workers k ≡ some u →
      w.state ≡ running → v.state ≡ running → u.state ≡ running → (j ≡ k → ⊥) → Alone g a.next w w' ws ns → Together v u v' u' → Joins g (after_alone a i w' ws ns) (after_together a j k v' u')
  alone_together i j k w w' v v' u u' ws ns hi hj hk r q s d st st' = inr (
    _,
    _,
    together j k v u v' u' d (nth_after a.workers ws i j w' v i≢j hj) (nth_after a.workers ws i k w' u i≢k hk) q s st',
    alone i w w' ws ns (nth_put_other (put a.workers j v') k i u' (λ e. i≢k (sym e)) ∙ nth_put_other a.workers j i v' (λ e. i≢j (sym e)) ∙ hi) r st,
    same_of _ _ (configuration_is _ _ workers_swap refl refl),
  )
    where
      b : Between v u
      b = between v u v' u' st'

      free : awaits w.todo ≡ none
      free = alone_free g a.next w w' ws ns st

      i≢j : i ≡ j → ⊥
      i≢j e = let p : v ≡ w = same in let x = b.near_awaited in let y = free in let z = ap (λ (m : Worker). awaits m.todo) p in grind arith
        where
          same : v ≡ w
          same = let x = ap (nth a.workers) e in cc

      i≢k : i ≡ k → ⊥
      i≢k e = let p : u ≡ w = same in let x = b.far_awaited in let y = free in let z = ap (λ (m : Worker). awaits m.todo) p in grind arith
        where
          same : u ≡ w
          same = let x = ap (nth a.workers) e in cc

      workers_swap : put (put (put a.workers i w' ++ ws) j v') k u' ≡ put (put (put a.workers j v') k u') i w' ++ ws
      workers_swap =
          let bj = nth_below a.workers j hj in
          let bk = nth_below a.workers k hk in
          let li = length_put a.workers i w' in
          let lj = length_put (put a.workers i w') j v' in
          let p = put_append (put a.workers i w') ws j v' (omega arith) in
          let q = put_append (put (put a.workers i w') j v') ws k u' (omega arith) in
          let s = put_put_other a.workers i j w' v' i≢j in
          let t = put_put_other (put a.workers j v') i k w' u' i≢k in
          cc

  -- who faces an end is one process
  facing_once : (j j' : ℕ) (v v' : Worker) (e e' d d' : Endpoint) (c c' : ℕ) → nth a.workers j ≡ some v → nth a.workers j' ≡ some v' → nth v.ends c ≡ some (some d) → nth v'.ends c' ≡ some (some d') →
      e ≡ e' → e.line ≡ d.line → (e.side ≡ d.side → ⊥) → e'.line ≡ d'.line → (e'.side ≡ d'.side → ⊥) → Side e.side → j ≡ j'
  facing_once j j' v v' e e' d d' c c' h h' x x' ee l s l' s' se =
      sound.inv.holder j j' d (v, h, (c, x)) (v', h', (c', rw same x'))
    where
      side_of : Side e.side → Side d.side → Side d'.side → d.side ≡ d'.side
      side_of (inl p) (inl q) t = absurd (s (p ∙ sym q))
      side_of (inl p) (inr q) (inl t) = absurd (s' (ap (λ (x : Endpoint). x.side) (sym ee) ∙ p ∙ sym t))
      side_of (inl p) (inr q) (inr t) = q ∙ sym t
      side_of (inr p) (inl q) (inl t) = q ∙ sym t
      side_of (inr p) (inl q) (inr t) = absurd (s' (ap (λ (x : Endpoint). x.side) (sym ee) ∙ p ∙ sym t))
      side_of (inr p) (inr q) t = absurd (s (p ∙ sym q))

      same : d ≡ d'
      same = end_is d d' (sym l ∙ ap (λ (x : Endpoint). x.line) ee ∙ l') (side_of se (sound.inv.made j d (v, h, (c, x))).1 (sound.inv.made j' d' (v', h', (c', x'))).1)

  -- two and two
  together_together : (i j k l : ℕ) (w w' v v' x x' y y' : Worker) → nth a.workers i ≡ some w → nth a.workers j ≡ some v → nth a.workers k ≡ some x → nth a.workers l ≡ some y →
      w.state ≡ running → v.state ≡ running → x.state ≡ running → y.state ≡ running → (i ≡ j → ⊥) → (k ≡ l → ⊥) → Together w v w' v' → Together x y x' y' →
      Joins g (after_together a i j w' v') (after_together a k l x' y')
  together_together i j k l w w' v v' x x' y y' hi hj hk hl r q s t d f st st' = go (same? i k)
    where
      b : Between w v
      b = between w v w' v' st

      b' : Between x y
      b' = between x y x' y' st'

      at_one : (m n : ℕ) (u z : Worker) → m ≡ n → nth a.workers m ≡ some u → nth a.workers n ≡ some z → u ≡ z
      at_one m n u z e p q = let h = ap (nth a.workers) e in cc

      one_end : (u z : Worker) (c c' : ℕ) (e e' : Endpoint) → u ≡ z → awaits u.todo ≡ some c → awaits z.todo ≡ some c' → nth u.ends c ≡ some (some e) → nth z.ends c' ≡ some (some e') → e ≡ e'
      one_end u z c c' e e' p m n o o' = let m' : awaits z.todo ≡ some c = rw p at m in let cc' : c ≡ c' = cc in let o'' : nth z.ends c ≡ some (some e) = rw p at o in let h = ap (nth z.ends) cc' in cc

      right : i ≡ k → j ≡ l
      right e =
          facing_once j l v y b.near b'.near b.far b'.far b.d b'.d hj hl b.is_far b'.is_far
          (one_end w x b.c b'.c b.near b'.near (at_one i k w x e hi hk) b.near_awaited b'.near_awaited b.is_near b'.is_near)
          b.lines b.sides b'.lines b'.sides (sound.inv.made i b.near (w, hi, (b.c, b.is_near))).1

      left : j ≡ l → i ≡ k
      left e =
          facing_once i k w x b.far b'.far b.near b'.near b.c b'.c hi hk b.is_near b'.is_near
          (one_end v y b.d b'.d b.far b'.far (at_one j l v y e hj hl) b.far_awaited b'.far_awaited b.is_far b'.is_far)
          (sym b.lines) (λ z. b.sides (sym z)) (sym b'.lines) (λ z. b'.sides (sym z)) (sound.inv.made j b.far (v, hj, (b.d, b.is_far))).1

      same_two : i ≡ k → j ≡ l → after_together a i j w' v' ≡ after_together a k l x' y'
      same_two e e' =
          let p = together_once w v w' v' x' y' st (rw (← at_one i k w x e hi hk, ← at_one j l v y e' hj hl) at st') in
          let p0 = p.0 in
          let p1 = p.1 in
          let h : put (put a.workers i w') j v' ≡ put (put a.workers k x') l y' = cc in
          configuration_is _ _ h refl refl

      i≢l : i ≡ l → ⊥
      i≢l e = together_roles x y v x' y' w' v' st' (rw (at_one i l w y e hi hl) at st)

      j≢k : j ≡ k → ⊥
      j≢k e = together_roles w v y w' v' x' y' st (rw (← at_one j k v x e hj hk) at st')

      four : (i ≡ k → ⊥) → (j ≡ l → ⊥) → Joins g (after_together a i j w' v') (after_together a k l x' y')
      four i≢k j≢l = inr (
        _,
        _,
        together k l x y x' y' f (two k i≢k j≢k ∙ hk) (two l i≢l j≢l ∙ hl) s t st',
        together i j w v w' v' d (two' i i≢k i≢l ∙ hi) (two' j j≢k j≢l ∙ hj) r q st,
        same_of _ _ (configuration_is _ _ workers_swap refl refl),
      )
        where
          two : (m : ℕ) → (i ≡ m → ⊥) → (j ≡ m → ⊥) → nth (put (put a.workers i w') j v') m ≡ nth a.workers m
          two m p q = nth_put_other (put a.workers i w') j m v' q ∙ nth_put_other a.workers i m w' p

          two' : (m : ℕ) → (m ≡ k → ⊥) → (m ≡ l → ⊥) → nth (put (put a.workers k x') l y') m ≡ nth a.workers m
          two' m p q = nth_put_other (put a.workers k x') l m y' (λ e. q (sym e)) ∙ nth_put_other a.workers k m x' (λ e. p (sym e))

          workers_swap : put (put (put (put a.workers i w') j v') k x') l y' ≡ put (put (put (put a.workers k x') l y') i w') j v'
          workers_swap =
              let p = put_put_other (put a.workers i w') j k v' x' j≢k in
              let q = put_put_other a.workers i k w' x' i≢k in
              let m = put_put_other (put (put a.workers k x') i w') j l v' y' j≢l in
              let n = put_put_other (put a.workers k x') i l w' y' i≢l in
              cc

      go : (i ≡ k) ⊎ (i ≡ k → ⊥) → Joins g (after_together a i j w' v') (after_together a k l x' y')
      go (inl e) = inl (same_two e (right e))
      go (inr n) = four n (λ e. n (left e))

  pub diamond : (b c : Configuration) → Step g a b → Step g a c → Joins g b c
  diamond b c (alone i w w' us ns h r st) (alone j v v' vs ms k q st') = go (same? i j)
    where
      go : (i ≡ j) ⊎ (i ≡ j → ⊥) → Joins g (after_alone a i w' us ns) (after_alone a j v' vs ms)
      go (inl e) =
          let wv : w ≡ v = at_one in
          let p = alone_once g a.next v w' v' us vs ns ms (rw wv at st) st' in
          let p0 = p.0 in
          let p1 = p.1 in
          let p2 = p.2 in
          inl (cc)
        where
          at_one : w ≡ v
          at_one = let x = ap (nth a.workers) e in cc
      go (inr d) = alone_alone i j w w' v v' us vs ns ms d h k r q st st' (starting g a.next w w' us ns st) (starting g a.next v v' vs ms st')
  diamond b c (alone i w w' us ns h r st) (together j k v u v' u' d hj hk q s st') = alone_together i j k w w' v v' u u' us ns h hj hk r q s d st st'
  diamond b c (together j k v u v' u' d hj hk q s st') (alone i w w' us ns h r st) = joins_turn g _ _ (alone_together i j k w w' v v' u u' us ns h hj hk r q s d st st')
  diamond b c (together i j w v w' v' d hi hj r q st) (together k l x y x' y' f hk hl s t st') = together_together i j k l w w' v v' x x' y y' hi hj hk hl r q s t d f st st'
