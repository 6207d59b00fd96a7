-- Who waits, and for whom: from any process that waits, following what it waits for comes to an end.
use mathlib.Core.Path.{◌≡◌, refl, sym, ap, ◌∙◌}
use mathlib.Core.Logic.{◌⊎◌, inl, inr}
use mathlib.Core.List.{List}
use mathlib.Core.Option.{Option, some, none}
use Prim.Native.Nat.{ℕ, zero, suc, ◌+◌, ◌≤◌, ◌<◌, max}
use native.Mathlib.Omega.{arith}
use lib.ListN.{length}
use Rattle.model.specs.Program.{nth, or, Point, over, gives, takes, chooses, offers, Expression, Action, stop, give, take, choose, offer, set, if, show, start, become, Program}
use Rattle.model.specs.Keeps.{Ways, ways, after_give, after_take, after_choose, after_offer}
use Rattle.model.specs.Steps.{Endpoint, State, running, stopped, spent, Worker, end, Alone, stops, sets, ifs, shows, starts, becomes, starts_spent, becomes_spent, Facing, Together, passes, agrees}
use Rattle.model.specs.Picture.{Holds, place, places, KeepsOn, Mutual, Live}
use Rattle.model.specs.Waiting.{awaits, WaitsAt, NotWaiting, WaitsFor, Hops, FitsWith, Meeting}
use Rattle.model.proofs.Lists.{same?, nth_below, nth_map}
use Rattle.model.proofs.Patch.{end?, end_is}
use Rattle.model.proofs.Keeping.{Next, next, Over, Moves, Dual, over_over, gives_takes, takes_gives, chooses_offers, offers_chooses, Fit, Good, not_over_turn, after_give_is, after_take_is, after_choose_is, after_offer_is}
use Rattle.model.proofs.Forest.{Hangs, below, above}
use Rattle.model.proofs.Invariant.{Side}
use Rattle.model.proofs.Sound.{Sound, facing_fit, Stands, stands}

-- what a worker wants in conversation c, where that is at a point
data Wants (w : Worker) (c : ℕ) : Point → Type 0 where
  wants_give : {m : ℕ} (e : Expression) (s : Action) → w.todo ≡ give c e s → Wants w c (gives m)
  wants_take : {m : ℕ} (x : ℕ) (s : Action) → w.todo ≡ take c x s → Wants w c (takes m)
  wants_choose : {m n : ℕ} (k : ℕ) (s : Action) → w.todo ≡ choose c k s → Wants w c (chooses m n)
  wants_offer : {m n : ℕ} (s t : Action) → w.todo ≡ offer c s t → Wants w c (offers m n)

record Wanting (g : Program) (point : Endpoint → ℕ) (w : Worker) : Type 0 where
  c : ℕ
  at : Endpoint
  says : Point
  wants : Wants w c says
  is_at : nth w.ends c ≡ some (some at)
  is_says : nth g.points (point at) ≡ some says

-- a worker that keeps to its conversations can act alone, or wants something of another
data Kind (g : Program) (line : ℕ) (point : Endpoint → ℕ) (w : Worker) : Type 0 where
  acts : {w' : Worker} {vs : List Worker} {ns : List ℕ} → Alone g line w w' vs ns → awaits w.todo ≡ none → Kind g line point w
  wants : Wanting g point w → Kind g line point w

wants_awaits : (w : Worker) (c : ℕ) (p : Point) → Wants w c p → awaits w.todo ≡ some c
wants_awaits w c p (wants_give e s t) = ap awaits t
wants_awaits w c p (wants_take x s t) = ap awaits t
wants_awaits w c p (wants_choose k s t) = ap awaits t
wants_awaits w c p (wants_offer s u t) = ap awaits t

wants_not_over : (w : Worker) (c : ℕ) (p : Point) → Wants w c p → p ≡ over → ⊥
wants_not_over w c p (wants_give e s t) h = grind arith
wants_not_over w c p (wants_take x s t) h = grind arith
wants_not_over w c p (wants_choose k s t) h = grind arith
wants_not_over w c p (wants_offer s u t) h = grind arith

kind : (g : Program) (line : ℕ) (point : Endpoint → ℕ) (w : Worker) → KeepsOn g w.todo (places point w.ends) → Kind g line point w
kind g line point w keeps = go w.todo refl w.left refl
  where
    now : (s : Action) → w.todo ≡ s → Next g s (places point w.ends)
    now s t = next g s (places point w.ends) (rw t at keeps)

    wanting : (c : ℕ) {A : Type 0} (after : Point → Option A) (x : A) (s : Stands g point w.ends c after x) → Wants w c s.says → Kind g line point w
    wanting c after x s h = wants (record { c = c; at = s.at; says = s.says; wants = h; is_at = s.is_at; is_says = s.is_says })

    at : (c : ℕ) {A : Type 0} (after : Point → Option A) (m : Moves g (places point w.ends) c after) → Stands g point w.ends c after m.goes
    at c after m = stands g point w.ends c after m

    chooses_at : (p : Point) (w' : Ways) → after_choose p ≡ some w' → (c k : ℕ) (s : Action) → w.todo ≡ choose c k s → Wants w c p
    chooses_at p (ways m n) h c k s t = rw (after_choose_is p m n h) (wants_choose k s t)

    offers_at : (p : Point) (w' : Ways) → after_offer p ≡ some w' → (c : ℕ) (s u : Action) → w.todo ≡ offer c s u → Wants w c p
    offers_at p (ways m n) h c s u t = rw (after_offer_is p m n h) (wants_offer s u t)

    go : (s : Action) → w.todo ≡ s → (l : ℕ) → w.left ≡ l → Kind g line point w
    go stop t l e = acts (stops t) (ap awaits t)
    go (give c x s) t l e = let m = at c after_give (now _ t).0 in wanting c after_give _ m (rw (after_give_is m.says _ m.allowed) (wants_give x s t))
    go (take c x s) t l e = let m = at c after_take (now _ t).0 in wanting c after_take _ m (rw (after_take_is m.says _ m.allowed) (wants_take x s t))
    go (choose c k s) t l e = let m = at c after_choose (now _ t).0 in wanting c after_choose _ m (chooses_at m.says _ m.allowed c k s t)
    go (offer c s u) t l e = let m = at c after_offer (now _ t).0 in wanting c after_offer _ m (offers_at m.says _ m.allowed c s u t)
    go (set x a s) t l e = acts (sets x a s t) (ap awaits t)
    go (if a s u) t l e = acts (ifs a s u t) (ap awaits t)
    go (show a s) t l e = acts (shows a s t) (ap awaits t)
    go (start f cs es s) t zero e = acts (starts_spent f cs es s t e) (ap awaits t)
    go (start f cs es s) t (suc l) e = let b = now _ t in acts (starts f cs es s b.process l t b.is_process e) (ap awaits t)
    go (become f cs es) t zero e = acts (becomes_spent f cs es t e) (ap awaits t)
    go (become f cs es) t (suc l) e = let b = now _ t in acts (becomes f cs es b.process l t b.is_process e) (ap awaits t)

facing_turn : (e d : Option Endpoint) → Facing e d → Facing d e
facing_turn e d f = record { a = f.b; b = f.a; is_a = f.is_b; is_b = f.is_a; line = sym f.line; sides = λ z. f.sides (sym z) }

-- what two that stand at facing ends want is one step of both
fits_together : (g : Program) (w v : Worker) (c d : ℕ) (p q : Point) → Dual g p q → Wants w c p → Wants v d q → Facing (end w.ends c) (end v.ends d) →
    ((w' : Worker) × (v' : Worker) × Together w v w' v') ⊎ ((w' : Worker) × (v' : Worker) × Together v w v' w')
fits_together g w v c d p q over_over a b f = elim a [ ]
fits_together g w v c d p q (gives_takes m) (wants_give e s t) (wants_take x u t') f = inl (_, _, passes c d x e s u t t' f)
fits_together g w v c d p q (takes_gives m) (wants_take x u t') (wants_give e s t) f = inr (_, _, passes d c x e s u t t' (facing_turn _ _ f))
fits_together g w v c d p q (chooses_offers m n) (wants_choose k s t) (wants_offer u u' t') f = inl (_, _, agrees c d k s u u' t t' f)
fits_together g w v c d p q (offers_chooses m n) (wants_offer u u' t') (wants_choose k s t) f = inr (_, _, agrees d c k s u u' t t' (facing_turn _ _ f))

-- the other end of an end's line
abbrev pub turned : ℕ → ℕ
turned zero = 1
turned (suc s) = 0

abbrev pub across : Endpoint → Endpoint
across e = record { line = e.line; side = turned e.side }

turned_side : (s : ℕ) → Side (turned s)
turned_side zero = inr refl
turned_side (suc s) = inl refl

turned_other : (s : ℕ) → s ≡ turned s → ⊥
turned_other zero h = omega arith
turned_other (suc s) h = omega arith

pub across_is : (e d : Endpoint) → e.line ≡ d.line → (e.side ≡ d.side → ⊥) → Side e.side → Side d.side → d ≡ across e
across_is e d l n p q = end_is d (across e) (sym l) (go e.side d.side n p q)
  where
    go : (s t : ℕ) → (s ≡ t → ⊥) → Side s → Side t → t ≡ turned s
    go zero t n p (inl q) = absurd (n (sym q))
    go zero t n p (inr q) = q
    go (suc s) t n p (inl q) = q
    go (suc s) t n (inl p) (inr q) = absurd (omega arith)
    go (suc s) t n (inr p) (inr q) = absurd (n (p ∙ sym q))

-- a process waits at one end, and then it is not one that does not wait
pub waits_once : (ws : List Worker) (i : ℕ) (e d : Endpoint) → WaitsAt ws i e → WaitsAt ws i d → e ≡ d
waits_once ws i e d h k = go h.0 k.0 h.1 k.1 same h.4 k.4 h.5 k.5
  where
    same : h.0 ≡ k.0
    same = let p = h.2 in let q = k.2 in cc

    go : (w v : Worker) (c c' : ℕ) → w ≡ v → awaits w.todo ≡ some c → awaits v.todo ≡ some c' → nth w.ends c ≡ some (some e) → nth v.ends c' ≡ some (some d) → e ≡ d
    go w v c c' p a b x y =
        let a' : awaits v.todo ≡ some c = rw p at a in
        let x' : nth v.ends c ≡ some (some e) = rw p at x in
        let q : c ≡ c' = cc in
        let z = ap (nth v.ends) q in
        cc

pub waits_not : (ws : List Worker) (i : ℕ) (e : Endpoint) → WaitsAt ws i e → NotWaiting ws i → ⊥
waits_not ws i e h n = go h.0 n.0 same h.3 h.4 n.2
  where
    same : h.0 ≡ n.0
    same = let p = h.2 in let q = n.1 in cc

    go : (w v : Worker) → w ≡ v → w.state ≡ running → awaits w.todo ≡ some h.1 → (v.state ≡ spent) ⊎ ((v.state ≡ running) × (awaits v.todo ≡ none)) → ⊥
    go w v p r a (inl s) = let r' : v.state ≡ running = rw p at r in grind arith
    go w v p r a (inr s) = let a' : awaits v.todo ≡ some h.1 = rw p at a in let z = s.1 in grind arith

-- a bound of a function below n
abbrev most : (ℕ → ℕ) → ℕ → ℕ
most f zero = 0
most f (suc n) = max (f n) (most f n)

most_bounds : (f : ℕ → ℕ) (n i : ℕ) → i < n → f i ≤ most f n
most_bounds f zero i h = absurd (omega arith)
most_bounds f (suc n) i h = go (same? i n) (λ b. most_bounds f n i b)
  where
    go : (i ≡ n) ⊎ (i ≡ n → ⊥) → (i < n → f i ≤ most f n) → f i ≤ max (f n) (most f n)
    go (inl e) ih = let z = ap f e in omega arith
    go (inr d) ih = let z = ih (omega arith) in omega arith

module _ (g : Program) (gd : Good g) (ws : List Worker) (next_line : ℕ) (sound : Sound g ws next_line) where
  kind_of : (i : ℕ) (w : Worker) → nth ws i ≡ some w → Kind g next_line sound.point w
  kind_of i w h = kind g next_line sound.point w (sound.inv.kept i w h)

  -- what a process that waits at an end wants there
  record Wanted (w : Worker) (e : Endpoint) : Type 0 where
    conversation : ℕ
    says : Point
    wants : Wants w conversation says
    is_at : nth w.ends conversation ≡ some (some e)
    is_says : nth g.points (sound.point e) ≡ some says

  wanted : (i : ℕ) (e : Endpoint) (h : WaitsAt ws i e) → Wanted h.0 e
  wanted i e h = go (kind_of i h.0 h.2)
    where
      go : Kind g next_line sound.point h.0 → Wanted h.0 e
      go (acts st none_awaited) = let x = h.4 in grind arith
      go (wants x) =
          let y = h.4 in
          let z = wants_awaits h.0 x.c x.says x.wants in
          let cd : x.c ≡ h.1 = cc in
          let at = x.is_at in
          let at' = h.5 in
          let ends : x.at ≡ e = same x.c h.1 x.at cd at at' in
          record { conversation = x.c; says = x.says; wants = x.wants; is_at = rw ends at at; is_says = rw ends at x.is_says }
        where
          same : (c d : ℕ) (x : Endpoint) → c ≡ d → nth h.0.ends c ≡ some (some x) → nth h.0.ends d ≡ some (some e) → x ≡ e
          same c d x cd a b = let k = ap (nth h.0.ends) cd in cc

  waits_live : (i : ℕ) (e : Endpoint) → WaitsAt ws i e → Live g sound.point e
  waits_live i e h o = let k = wanted i e h in let s = k.is_says in wants_not_over h.0 k.conversation k.says k.wants (cc)

  waits_holds : (i : ℕ) (e : Endpoint) → WaitsAt ws i e → Holds ws i e
  waits_holds i e h = (h.0, h.2, (h.1, h.5))

  across_fits : (i : ℕ) (e : Endpoint) → WaitsAt ws i e → Mutual g (sound.point e) (sound.point (across e))
  across_fits i e h =
      let m = sound.inv.made i e (waits_holds i e h) in
      facing_fit g sound.point next_line sound.fit e (across e) m.0 refl (turned_other e.side) m.1 (turned_side e.side)

  -- who holds an end that is not over waits, or is not waiting: it has not stopped
  status : (j : ℕ) (d : Endpoint) → Holds ws j d → Live g sound.point d → NotWaiting ws j ⊎ ((x : Endpoint) × WaitsAt ws j x)
  status j d h live = go h.0.state refl
    where
      at : nth (places sound.point h.0.ends) h.2.0 ≡ some (some (sound.point d))
      at = nth_map (place sound.point) h.0.ends h.2.0 h.2.1

      two : h.0.state ≡ running → Kind g next_line sound.point h.0 → NotWaiting ws j ⊎ ((x : Endpoint) × WaitsAt ws j x)
      two r (acts st x) = inl (h.0, h.1, inr (r, x))
      two r (wants x) = inr (x.at, (h.0, x.c, h.1, r, wants_awaits h.0 x.c x.says x.wants, x.is_at))

      go : (s : State) → h.0.state ≡ s → NotWaiting ws j ⊎ ((x : Endpoint) × WaitsAt ws j x)
      go running r = two r (kind_of j h.0 h.1)
      go stopped r =
          let t = sound.inv.ended j h.0 h.1 r in
          let o : Over g (places sound.point h.0.ends) = next g stop (places sound.point h.0.ends) (rw t at (sound.inv.kept j h.0 h.1)) in
          absurd (live (o h.2.0 (sound.point d) at))
      go spent r = inl (h.0, h.1, inl r)

  -- the process that one waits for
  pub hop : (i : ℕ) (e : Endpoint) → WaitsAt ws i e → (j : ℕ) × Holds ws j (across e) × (NotWaiting ws j ⊎ ((x : Endpoint) × WaitsAt ws j x))
  hop i e h =
      let live = not_over_turn g gd (sound.point e) (sound.point (across e)) (across_fits i e h) (waits_live i e h) in
      let b = (sound.inv.made i e (waits_holds i e h)).0 in
      let j = sound.inv.held (across e) live b (turned_side e.side) in
      (j.0, j.1, status j.0 (across e) j.1 live)

  waits_for : (i j : ℕ) (e d : Endpoint) → WaitsAt ws i e → Holds ws j d → d ≡ across e → WaitsFor ws i j
  waits_for i j e d h k q = record { near = e; far = d; line = ap (λ (x : Endpoint). x.line) (sym q); sides = λ z. turned_other e.side (z ∙ ap (λ (x : Endpoint). x.side) q); waits = h; holds = k }

  -- two that wait for each other
  pub meeting : (i j : ℕ) (e d : Endpoint) → WaitsAt ws i e → WaitsAt ws j d → d ≡ across e → Meeting ws i j
  meeting i j e d h k q = record { near = e; far = d; line = lines; sides = sides; this = h; that = k; fits = go (fits_together g h.0 k.0 a.conversation b.conversation a.says b.says dual a.wants b.wants facing) }
    where
      a : Wanted h.0 e
      a = wanted i e h

      b : Wanted k.0 d
      b = wanted j d k

      sides : e.side ≡ d.side → ⊥
      sides z = turned_other e.side (z ∙ ap (λ (x : Endpoint). x.side) q)

      lines : e.line ≡ d.line
      lines = ap (λ (x : Endpoint). x.line) (sym q)

      facing : Facing (end h.0.ends a.conversation) (end k.0.ends b.conversation)
      facing = record { a = e; b = d; is_a = ap (or none) a.is_at; is_b = ap (or none) b.is_at; line = lines; sides = sides }

      fit : Fit g (sound.point e) (sound.point d)
      fit = gd.fits _ _ (rw q (across_fits i e h))

      dual : Dual g a.says b.says
      dual =
          let x = fit.is_this in
          let x' = a.is_says in
          let y = fit.is_that in
          let y' = b.is_says in
          let p : fit.this ≡ a.says = cc in
          let p' : fit.that ≡ b.says = cc in
          rw (← p, ← p') fit.dual

      go : ((w' : Worker) × (v' : Worker) × Together h.0 k.0 w' v') ⊎ ((w' : Worker) × (v' : Worker) × Together k.0 h.0 v' w') → FitsWith ws i j ⊎ FitsWith ws j i
      go (inl x) = inl (h.0, k.0, x.0, x.1, h.2, k.2, h.3, k.3, x.2)
      go (inr x) = inr (k.0, h.0, x.1, x.0, k.2, h.2, k.3, h.3, x.2)

  -- where following from a process comes to
  abbrev pub ComesTo : ℕ → Type 0
  ComesTo i = (n : ℕ) × (k : ℕ) × Hops ws n i k × (NotWaiting ws k ⊎ ((j : ℕ) × Meeting ws k j))

  through : (i j : ℕ) (e : Endpoint) → WaitsAt ws i e → Holds ws j (across e) → ComesTo j → ComesTo i
  through i j e h k r = (suc r.0, r.1, (j, waits_for i j e (across e) h k refl, r.2), r.3)

  abbrev Place : ℕ → Endpoint → Type 0
  Place i e = Hangs sound.inv.forest.rank sound.inv.forest.level sound.inv.forest.up sound.inv.forest.top i e

  place_of : (i : ℕ) (e : Endpoint) → Holds ws i e → Place i e
  place_of i e h = sound.inv.forest.hangs i e h

  -- One hop, where what is found from a process that waits at another end is known.
  hop_on : (i : ℕ) (e : Endpoint) → WaitsAt ws i e → ((j : ℕ) (d : Endpoint) → WaitsAt ws j d → Holds ws j (across e) → (d ≡ across e → ⊥) → ComesTo j) → ComesTo i
  hop_on i e h from = go (hop i e h)
    where
      go : (j : ℕ) × Holds ws j (across e) × (NotWaiting ws j ⊎ ((x : Endpoint) × WaitsAt ws j x)) → ComesTo i
      go x = two x.2
        where
          two : NotWaiting ws x.0 ⊎ ((d : Endpoint) × WaitsAt ws x.0 d) → ComesTo i
          two (inl n) = through i x.0 e h x.1 (0, x.0, refl, inl n)
          two (inr k) = three (end? k.0 (across e))
            where
              three : (k.0 ≡ across e) ⊎ (k.0 ≡ across e → ⊥) → ComesTo i
              three (inl q) = (0, i, refl, inr (x.0, meeting i x.0 e k.0 h k.1 q))
              three (inr n) = through i x.0 e h x.1 (from x.0 k.0 k.1 x.1 n)

  rank_bound : (i : ℕ) (e : Endpoint) → WaitsAt ws i e → sound.inv.forest.rank i ≤ most sound.inv.forest.rank (length ws)
  rank_bound i e h = most_bounds sound.inv.forest.rank (length ws) i (nth_below ws i h.2)

  -- Downwards the ranks rise, and they are bounded.
  downwards : (fuel i : ℕ) (e : Endpoint) → WaitsAt ws i e → sound.inv.forest.rank i < sound.inv.forest.level e.line → sound.inv.forest.top e.line ≡ e.side →
      most sound.inv.forest.rank (length ws) < fuel + sound.inv.forest.rank i → ComesTo i
  downwards zero i e h z t b = let r = rank_bound i e h in absurd (omega arith)
  downwards (suc fuel) i e h z t b = hop_on i e h (λ j d k x n. go j d k x n (place_of j (across e) x) (place_of j d (waits_holds j d k)) (λ z' t' b'. downwards fuel j d k z' t' b'))
    where
      go : (j : ℕ) (d : Endpoint) → WaitsAt ws j d → Holds ws j (across e) → (d ≡ across e → ⊥) → Place j (across e) → Place j d →
          (sound.inv.forest.rank j < sound.inv.forest.level d.line → sound.inv.forest.top d.line ≡ d.side → most sound.inv.forest.rank (length ws) < fuel + sound.inv.forest.rank j → ComesTo j) → ComesTo j
      go j d k x n (above y u) p ih = absurd (turned_other e.side (sym t ∙ u))
      go j d k x n (below y u) (below y' u') ih = absurd (n (sym u' ∙ u))
      go j d k x n (below y u) (above y' u') ih = ih y' u' (omega arith)

  -- Upwards they fall.
  upwards : (fuel i : ℕ) (e : Endpoint) → WaitsAt ws i e → sound.inv.forest.rank i < fuel → ComesTo i
  upwards zero i e h b = absurd (omega arith)
  upwards (suc fuel) i e h b = go (place_of i e (waits_holds i e h)) (λ j d k c. upwards fuel j d k c)
    where
      from : (j : ℕ) (d : Endpoint) → WaitsAt ws j d → sound.inv.forest.rank j < sound.inv.forest.level d.line → sound.inv.forest.top d.line ≡ d.side → ComesTo j
      from j d k y u = downwards (suc (most sound.inv.forest.rank (length ws))) j d k y u (omega arith)

      go : Place i e → ((j : ℕ) (d : Endpoint) → WaitsAt ws j d → sound.inv.forest.rank j < fuel → ComesTo j) → ComesTo i
      go (above z t) ih = from i e h z t
      go (below z t) ih = hop_on i e h (λ j d k x n. two j d k x n (place_of j (across e) x) (place_of j d (waits_holds j d k)))
        where
          two : (j : ℕ) (d : Endpoint) → WaitsAt ws j d → Holds ws j (across e) → (d ≡ across e → ⊥) → Place j (across e) → Place j d → ComesTo j
          two j d k x n (above y u) p = ih j d k (omega arith)
          two j d k x n (below y u) (below y' u') = absurd (n (sym u' ∙ u))
          two j d k x n (below y u) (above y' u') = from j d k y' u'

  pub comes_to : (i : ℕ) (e : Endpoint) → WaitsAt ws i e → ComesTo i
  comes_to i e h = upwards (suc (sound.inv.forest.rank i)) i e h (omega arith)

  -- a process that goes on and needs no other can act alone
  pub free_acts : (i : ℕ) (w : Worker) → nth ws i ≡ some w → awaits w.todo ≡ none → (w' : Worker) × (vs : List Worker) × (ns : List ℕ) × Alone g next_line w w' vs ns
  free_acts i w h n = go (kind_of i w h)
    where
      go : Kind g next_line sound.point w → (w' : Worker) × (vs : List Worker) × (ns : List ℕ) × Alone g next_line w w' vs ns
      go (acts st x) = (_, _, _, st)
      go (wants x) = let y = wants_awaits w x.c x.says x.wants in grind arith

  -- a process that goes on waits, or can act alone
  pub acts_or_waits : (i : ℕ) (w : Worker) → nth ws i ≡ some w → w.state ≡ running → (awaits w.todo ≡ none) ⊎ ((e : Endpoint) × WaitsAt ws i e)
  acts_or_waits i w h r = go (kind_of i w h)
    where
      go : Kind g next_line sound.point w → (awaits w.todo ≡ none) ⊎ ((e : Endpoint) × WaitsAt ws i e)
      go (acts st x) = inl x
      go (wants x) = inr (x.at, (w, x.c, h, r, wants_awaits w x.c x.says x.wants, x.is_at))
