-- Every step keeps the invariant, so that every configuration that is reached has it.
use mathlib.Core.Path.{◌≡◌, refl, sym, ap, ◌∙◌}
use mathlib.Core.Logic.{◌⊎◌, inl, inr}
use mathlib.Core.Bool.{Bool, true, false, cond}
use mathlib.Core.List.{List, [], ◌∷◌, ◌++◌, append-nil, map-append}
use mathlib.Core.Option.{Option, some, none}
use Prim.Native.Nat.{ℕ, zero, suc, ◌+◌, ◌<◌}
use native.Mathlib.Nat.{add-zero}
use native.Mathlib.Numerals.{add-one}
use native.Mathlib.Omega.{arith}
use lib.ListN.{length}
use lib.Dec.{eqb}
use Rattle.model.specs.Program.{nth, put, Point, over, gives, takes, chooses, offers, Action, stop, give, take, choose, offer, if, Process, Program}
use Rattle.model.specs.Keeps.{begins, Ways, ways, way, after_give, after_take, after_choose, after_offer}
use Rattle.model.specs.Steps.{Endpoint, own_end, far_end, running, stopped, spent, Worker, Configuration, on, begun, first_worker, end, ends_of, without, Alone, stops, sets, ifs, shows, starts, becomes, starts_spent, becomes_spent, Facing, Together, passes, agrees, Step, alone, together, Steps, here, more, begin}
use Rattle.model.specs.Picture.{Has, Holds, place, places, KeepsOn, Mutual, Live}
use Rattle.model.proofs.Lists.{same?, nth_put_other, nth_map}
use Rattle.model.proofs.Patch.{end?, end_is, moved, moved_same, moved_other}
use Rattle.model.proofs.Keeping.{or_open, Next, next, Moves, Starts, Becomes, Dual, over_over, gives_takes, takes_gives, chooses_offers, offers_chooses, Good, mutual_turn, after_give_is, after_take_is, after_choose_is, after_offer_is}
use Rattle.model.proofs.Handing.{Once, Hands, hands_open, left_from, handed_from, handed_split, handed_once, handed_left_is, handed_ends_is, places_end, places_agree, places_moved, places_moved_other}
use Rattle.model.proofs.Forest.{forest_empty}
use Rattle.model.proofs.Invariant.{Side, Inv, inv_put, inv_start}

-- the two ends of each line made are at points that are each other's other side
abbrev pub Fitting : Program → (Endpoint → ℕ) → ℕ → Type 0
Fitting g point next = (l : ℕ) → l < next → Mutual g (point (own_end l)) (point (far_end l))

-- Of processes and the number of the next line: there are points for the ends for which all this holds.
pub record Sound (g : Program) (ws : List Worker) (next : ℕ) : Type 0 where
  pub point : Endpoint → ℕ
  pub inv : Inv g point ws next
  pub fit : Fitting g point next

not_stopped : (s : Action) → running ≡ stopped → s ≡ stop
not_stopped s h = grind arith

not_spent : (s : Action) → spent ≡ stopped → s ≡ stop
not_spent s h = grind arith

-- a process that keeps its ends
inv_same : (g : Program) (point : Endpoint → ℕ) (ws : List Worker) (n : ℕ) → Inv g point ws n → (i : ℕ) (w v : Worker) → nth ws i ≡ some w → v.ends ≡ w.ends →
    KeepsOn g v.todo (places point w.ends) → (v.state ≡ stopped → v.todo ≡ stop) → Inv g point (put ws i v) n
inv_same g point ws n inv i w v h es k st =
    inv_put g point point ws n inv i w v h (λ e z. rw es at z) (λ e z. z) (λ e z x. rw es x) (rw es (inv.once i w h)) (rw es k) st (λ j u z x. refl)

-- a process that goes on, in one conversation, at another point
inv_moves : (g : Program) (point : Endpoint → ℕ) (ws : List Worker) (n : ℕ) → Inv g point ws n → (i : ℕ) (w v : Worker) → nth ws i ≡ some w → v.ends ≡ w.ends →
    (c : ℕ) (e : Endpoint) (m : ℕ) → nth w.ends c ≡ some (some e) → Live g point e → KeepsOn g v.todo (put (places point w.ends) c (some m)) → (v.state ≡ stopped → v.todo ≡ stop) →
    Inv g (moved point e m) (put ws i v) n
inv_moves g point ws n inv i w v h es c e m at live k st =
    inv_put g point (moved point e m) ws n inv i w v h (λ d z. rw es at z) was_live (λ d z x. rw es x) (rw es (inv.once i w h)) (rw (es, places_moved point e m w.ends c (inv.once i w h) at) k) st
    (λ j u d z. places_moved_other point e m u.ends (λ x. d (inv.holder i j e (w, h, (c, at)) (u, z, x))))
  where
    was_live : (d : Endpoint) → Live g (moved point e m) d → Live g point d
    was_live d z = go (end? d e)
      where
        go : (d ≡ e) ⊎ (d ≡ e → ⊥) → Live g point d
        go (inl q) = rw q live
        go (inr q) = λ o. z (rw (moved_other point e m d q) o)

-- ends of one line, on two sides, are at points that fit
pub facing_fit : (g : Program) (point : Endpoint → ℕ) (n : ℕ) → Fitting g point n → (a b : Endpoint) → a.line < n → a.line ≡ b.line → (a.side ≡ b.side → ⊥) → Side a.side → Side b.side → Mutual g (point a) (point b)
facing_fit g point n fit a b l e d (inl x) (inl y) = absurd (d (x ∙ sym y))
facing_fit g point n fit a b l e d (inl x) (inr y) = rw (end_is a (own_end a.line) refl x, end_is b (far_end a.line) (sym e) y) (fit a.line l)
facing_fit g point n fit a b l e d (inr x) (inl y) = rw (end_is a (far_end a.line) refl x, end_is b (own_end a.line) (sym e) y) (mutual_turn g _ _ (fit a.line l))
facing_fit g point n fit a b l e d (inr x) (inr y) = absurd (d (x ∙ sym y))

fit_exchange : (g : Program) (point : Endpoint → ℕ) (k : ℕ) → Fitting g point k → (a b : Endpoint) (m n : ℕ) → a.line ≡ b.line → (a.side ≡ b.side → ⊥) → Side a.side → Side b.side → Mutual g m n →
    Fitting g (moved (moved point a m) b n) k
fit_exchange g point k fit a b m n e d sa sb mn l below = go (same? l a.line) sa sb
  where
    to : Endpoint → ℕ
    to = moved (moved point a m) b n

    apart : a ≡ b → ⊥
    apart q = d (ap (λ (x : Endpoint). x.side) q)

    to_a : to a ≡ m
    to_a = moved_other (moved point a m) b n a apart ∙ moved_same point a m

    to_b : to b ≡ n
    to_b = moved_same (moved point a m) b n

    elsewhere : (l ≡ a.line → ⊥) → (f : Endpoint) → f.line ≡ l → to f ≡ point f
    elsewhere off f z =
        moved_other (moved point a m) b n f (λ q. off (sym z ∙ ap (λ (x : Endpoint). x.line) q ∙ sym e)) ∙
        moved_other point a m f (λ q. off (sym z ∙ ap (λ (x : Endpoint). x.line) q))

    go : (l ≡ a.line) ⊎ (l ≡ a.line → ⊥) → Side a.side → Side b.side → Mutual g (to (own_end l)) (to (far_end l))
    go (inr off) _ _ = rw (elsewhere off (own_end l) refl, elsewhere off (far_end l) refl) (fit l below)
    go (inl x) (inl p) (inl q) = absurd (d (p ∙ sym q))
    go (inl x) (inl p) (inr q) =
        let ao : to (own_end l) ≡ m = ap to (sym (end_is a (own_end l) (sym x) p)) ∙ to_a in
        let bf : to (far_end l) ≡ n = ap to (sym (end_is b (far_end l) (sym e ∙ sym x) q)) ∙ to_b in
        rw (ao, bf) mn
    go (inl x) (inr p) (inl q) =
        let ao : to (far_end l) ≡ m = ap to (sym (end_is a (far_end l) (sym x) p)) ∙ to_a in
        let bf : to (own_end l) ≡ n = ap to (sym (end_is b (own_end l) (sym e ∙ sym x) q)) ∙ to_b in
        rw (bf, ao) (mutual_turn g m n mn)
    go (inl x) (inr p) (inr q) = absurd (d (p ∙ sym q))

-- Two processes go on, each in a conversation, at the two ends of one line, at points that are each other's other side.
exchange : (g : Program) (ws : List Worker) (k : ℕ) (sound : Sound g ws k) (i j : ℕ) (w v w' v' : Worker) → (i ≡ j → ⊥) → nth ws i ≡ some w → nth ws j ≡ some v → w'.ends ≡ w.ends → v'.ends ≡ v.ends →
    w'.state ≡ running → v'.state ≡ running → (c d m n : ℕ) (a b : Endpoint) → nth w.ends c ≡ some (some a) → nth v.ends d ≡ some (some b) → a.line ≡ b.line → (a.side ≡ b.side → ⊥) →
    Live g sound.point a → Live g sound.point b → Mutual g m n → KeepsOn g w'.todo (put (places sound.point w.ends) c (some m)) → KeepsOn g v'.todo (put (places sound.point v.ends) d (some n)) →
    Sound g (put (put ws i w') j v') k
exchange g ws k sound i j w v w' v' i≢j h h' es es' r r' c d m n a b at at' line sides live live' mn keeps keeps' = record {
  point = moved (moved point a m) b n;
  inv = inv_moves g (moved point a m) (put ws i w') k first j v v' (nth_put_other ws i j w' i≢j ∙ h') es' d b n at'
      (λ o. live' (rw (← moved_other point a m b b≢a) o)) (rw (places_moved_other point a m v.ends v_not) keeps') (λ z. not_stopped v'.todo (sym r' ∙ z));
  fit = fit_exchange g point k sound.fit a b m n line sides (inv.made i a (w, h, (c, at))).1 (inv.made j b (v, h', (d, at'))).1 mn;
}
  where
    point : Endpoint → ℕ
    point = sound.point

    inv : Inv g point ws k
    inv = sound.inv

    b≢a : b ≡ a → ⊥
    b≢a q = sides (ap (λ (x : Endpoint). x.side) (sym q))

    v_not : Has v.ends a → ⊥
    v_not z = i≢j (inv.holder i j a (w, h, (c, at)) (v, h', z))

    first : Inv g (moved point a m) (put ws i w') k
    first = inv_moves g point ws k inv i w w' h es c a m at live keeps (λ z. not_stopped w'.todo (sym r ∙ z))

-- where a process waits: its end, at the point that its action asks for
pub record Stands {A : Type 0} (g : Program) (point : Endpoint → ℕ) (es : List (Option Endpoint)) (c : ℕ) (after : Point → Option A) (goes : A) : Type 0 where
  pub at : Endpoint
  pub is_at : nth es c ≡ some (some at)
  pub says : Point
  pub is_says : nth g.points (point at) ≡ some says
  pub allowed : after says ≡ some goes

pub stands : {A : Type 0} (g : Program) (point : Endpoint → ℕ) (es : List (Option Endpoint)) (c : ℕ) (after : Point → Option A) (m : Moves g (places point es) c after) → Stands g point es c after m.goes
stands g point es c after m =
    let e = places_end point es c m.place m.here in
    record { at = e.0; is_at = e.1; says = m.point; is_says = ap (nth g.points) (sym e.2) ∙ m.is_point; allowed = m.allowed }

-- two dual points, one of which gives or chooses
gives_dual : (g : Program) (p q : Point) (m n : ℕ) → Dual g p q → p ≡ gives m → q ≡ takes n → Mutual g m n
gives_dual g p q m n over_over x y = grind arith
gives_dual g p q m n (gives_takes {m = a} {n = b} z) x y = let u : m ≡ a = cc in let v : n ≡ b = cc in rw (u, v) z
gives_dual g p q m n (takes_gives z) x y = grind arith
gives_dual g p q m n (chooses_offers z z') x y = grind arith
gives_dual g p q m n (offers_chooses z z') x y = grind arith

chooses_dual : (g : Program) (p q : Point) (m m' n n' : ℕ) → Dual g p q → p ≡ chooses m m' → q ≡ offers n n' → Mutual g m n × Mutual g m' n'
chooses_dual g p q m m' n n' over_over x y = grind arith
chooses_dual g p q m m' n n' (gives_takes z) x y = grind arith
chooses_dual g p q m m' n n' (takes_gives z) x y = grind arith
chooses_dual g p q m m' n n' (chooses_offers {m = a} {n = b} {o = e} {q = f} z z') x y =
    let u : m ≡ a = cc in
    let u' : m' ≡ b = cc in
    let v : n ≡ e = cc in
    let v' : n' ≡ f = cc in
    (rw (u, v) z, rw (u', v') z')
chooses_dual g p q m m' n n' (offers_chooses z z') x y = grind arith

live_at : (g : Program) (point : Endpoint → ℕ) (e : Endpoint) (p : Point) → nth g.points (point e) ≡ some p → (p ≡ over → ⊥) → Live g point e
live_at g point e p h n o = n (cc)

cond_keeps : (g : Program) (b : Bool) (s t : Action) (a : List (Option ℕ)) → KeepsOn g s a → KeepsOn g t a → KeepsOn g (cond b s t) a
cond_keeps g true s t a k l = k
cond_keeps g false s t a k l = l

sound_quiet : (g : Program) (ws : List Worker) (n : ℕ) → Sound g ws n → Sound g (ws ++ []) (n + 0)
sound_quiet g ws n s = rw (append-nil ws, add-zero) s

module _ (g : Program) (gd : Good g) (ws : List Worker) (n : ℕ) (sound : Sound g ws n) where
  -- a process that keeps its ends, and starts none
  quiet : (i : ℕ) (w v : Worker) → nth ws i ≡ some w → v.ends ≡ w.ends → KeepsOn g v.todo (places sound.point w.ends) → (v.state ≡ stopped → v.todo ≡ stop) → Sound g (put ws i v ++ []) (n + 0)
  quiet i w v h es k st = sound_quiet g (put ws i v) n (record { point = sound.point; inv = inv_same g sound.point ws n sound.inv i w v h es k st; fit = sound.fit })

  -- what a process keeps to, one action deep
  now : (i : ℕ) (w : Worker) (s : Action) → nth ws i ≡ some w → w.todo ≡ s → Next g s (places sound.point w.ends)
  now i w s h t = next g s (places sound.point w.ends) (rw t at (sound.inv.kept i w h))

  becomes_sound : (i : ℕ) (w v : Worker) → nth ws i ≡ some w → (f : ℕ) (cs : List ℕ) (p : Process) → nth g.procs f ≡ some p → Becomes g f cs (places sound.point w.ends) →
      v.ends ≡ ends_of w.ends cs → v.todo ≡ p.body → v.state ≡ running → Sound g (put ws i v ++ []) (n + 0)
  becomes_sound i w v h f cs p fp b es td r = sound_quiet g (put ws i v) n (record {
    point = sound.point;
    fit = sound.fit;
    inv = inv_put g sound.point sound.point ws n sound.inv i w v h
        (λ e z. handed_from hs.parts e (rw es_is at z)) (λ e z. z) (λ e z x. rw es_is (still e z (handed_split hs.parts e x)))
        (rw es_is (handed_once hs.parts (sound.inv.once i w h)))
        (rw (td, es_is, hs.begin_at) (gd.bodies f p fp)) (λ z. not_stopped v.todo (sym r ∙ z)) (λ j u d x. refl);
  })
    where
      same : b.process ≡ p
      same = let x = b.is_process in cc

      hs : Hands sound.point w.ends cs p.talks b.left
      hs = hands_open sound.point w.ends cs p.talks b.left (rw same at b.hands_on)

      es_is : v.ends ≡ hs.handed
      es_is = es ∙ handed_ends_is hs.parts w.ends (λ c e x. x)

      -- what is left is over
      still : (e : Endpoint) → Live g sound.point e → Has hs.left e ⊎ Has hs.handed e → Has hs.handed e
      still e live (inr x) = x
      still e live (inl x) = absurd (live (b.all_over x.0 (sound.point e) (rw hs.left_at at (nth_map (place sound.point) hs.left x.0 x.1))))

  starts_sound : (i : ℕ) (w v q : Worker) → nth ws i ≡ some w → (f : ℕ) (cs : List ℕ) (s : Action) (p : Process) → nth g.procs f ≡ some p → Starts g f cs s (places sound.point w.ends) →
      v.ends ≡ without w.ends cs ++ (some (own_end n) ∷ []) → v.todo ≡ s → v.state ≡ running → q.ends ≡ some (far_end n) ∷ ends_of w.ends cs → q.todo ≡ p.body → q.state ≡ running →
      Sound g (put ws i v ++ (q ∷ [])) (suc n)
  starts_sound i w v q h f cs s p fp b ve vt vr qe qt qr = record {
    point = to;
    fit = fit;
    inv = inv_start g point to ws n sound.inv i w v q h cs hs.handed hs.left hs.parts v_ends q_ends old
        (rw (vt, v_ends, v_at) b.goes_on) (rw (qt, q_ends, q_at) (gd.bodies f p fp)) (λ z. not_stopped v.todo (sym vr ∙ z)) (λ z. not_stopped q.todo (sym qr ∙ z));
  }
    where
      point : Endpoint → ℕ
      point = sound.point

      to : Endpoint → ℕ
      to = moved (moved point (own_end n) b.ours) (far_end n) b.new

      own≢far : own_end n ≡ far_end n → ⊥
      own≢far x = let y = ap (λ (e : Endpoint). e.side) x in omega arith

      to_own : to (own_end n) ≡ b.ours
      to_own = moved_other (moved point (own_end n) b.ours) (far_end n) b.new (own_end n) own≢far ∙ moved_same point (own_end n) b.ours

      to_far : to (far_end n) ≡ b.new
      to_far = moved_same (moved point (own_end n) b.ours) (far_end n) b.new

      old : (e : Endpoint) → e.line < n → to e ≡ point e
      old e l =
          moved_other (moved point (own_end n) b.ours) (far_end n) b.new e (λ x. let y = ap (λ (e : Endpoint). e.line) x in omega arith) ∙
          moved_other point (own_end n) b.ours e (λ x. let y = ap (λ (e : Endpoint). e.line) x in omega arith)

      same : b.process ≡ p
      same = let x = b.is_process in cc

      hs : Hands point w.ends cs b.handed b.left
      hs = hands_open point w.ends cs b.handed b.left b.hands_on

      v_ends : v.ends ≡ hs.left ++ (some (own_end n) ∷ [])
      v_ends = ve ∙ ap (λ (x : List (Option Endpoint)). x ++ (some (own_end n) ∷ [])) (handed_left_is hs.parts)

      q_ends : q.ends ≡ some (far_end n) ∷ hs.handed
      q_ends = qe ∙ ap (λ (x : List (Option Endpoint)). some (far_end n) ∷ x) (handed_ends_is hs.parts w.ends (λ c e x. x))

      made_before : (e : Endpoint) → Has w.ends e → to e ≡ point e
      made_before e x = old e (sound.inv.made i e (w, h, x)).0

      v_at : places to (hs.left ++ (some (own_end n) ∷ [])) ≡ b.left ++ (some b.ours ∷ [])
      v_at =
          let x = map-append (place to) hs.left (some (own_end n) ∷ []) in
          let y : places to hs.left ≡ b.left = places_agree point to hs.left (λ e z. made_before e (z.0, left_from hs.parts z.0 e z.1)) ∙ hs.left_at in
          let z = to_own in
          cc

      q_at : places to (some (far_end n) ∷ hs.handed) ≡ begins p.talks
      q_at =
          let y : places to hs.handed ≡ begins b.handed = places_agree point to hs.handed (λ e z. made_before e (handed_from hs.parts e z)) ∙ hs.begin_at in
          let z = to_far in
          let t : p.talks ≡ b.new ∷ b.handed = ap (λ (x : Process). x.talks) (sym same) ∙ b.talks in
          let u : begins p.talks ≡ some b.new ∷ begins b.handed = ap begins t in
          cc

      fit : Fitting g to (suc n)
      fit l below = go (same? l n)
        where
          go : (l ≡ n) ⊎ (l ≡ n → ⊥) → Mutual g (to (own_end l)) (to (far_end l))
          go (inl x) = rw (x, to_own, to_far) (mutual_turn g _ _ (gd.sides b.new b.ours b.sides))
          go (inr x) = rw (old (own_end l) (omega arith), old (far_end l) (omega arith)) (sound.fit l (omega arith))

  alone_sound : (i : ℕ) (w w' : Worker) (vs : List Worker) (ns : List ℕ) → nth ws i ≡ some w → Alone g n w w' vs ns → Sound g (put ws i w' ++ vs) (n + length vs)
  alone_sound i w w' vs ns h (stops t) = quiet i w _ h refl (sound.inv.kept i w h) (λ z. t)
  alone_sound i w w' vs ns h (sets x e s t) = quiet i w _ h refl (now i w _ h t) (λ z. not_stopped s z)
  alone_sound i w w' vs ns h (ifs e s u t) = let k = now i w (if e s u) h t in quiet i w _ h refl (cond_keeps g _ u s _ k.1 k.0) (λ z. not_stopped _ z)
  alone_sound i w w' vs ns h (shows e s t) = quiet i w _ h refl (now i w _ h t) (λ z. not_stopped s z)
  alone_sound i w w' vs ns h (starts f cs es s p l t fp e) = rw add-one (starts_sound i w _ _ h f cs s p fp (now i w _ h t) refl refl refl refl refl refl)
  alone_sound i w w' vs ns h (becomes f cs es p l t fp e) = becomes_sound i w _ h f cs p fp (now i w _ h t) refl refl refl
  alone_sound i w w' vs ns h (starts_spent f cs es s t e) = quiet i w _ h refl (sound.inv.kept i w h) (λ z. not_spent _ z)
  alone_sound i w w' vs ns h (becomes_spent f cs es t e) = quiet i w _ h refl (sound.inv.kept i w h) (λ z. not_spent _ z)

  -- the points at the two ends of a line at which two processes stand
  meet : {A B : Type 0} (i j : ℕ) (w v : Worker) → nth ws i ≡ some w → nth ws j ≡ some v → (c d : ℕ) (after : Point → Option A) (after' : Point → Option B) (x : A) (y : B)
      (a : Stands g sound.point w.ends c after x) (b : Stands g sound.point v.ends d after' y) → a.at.line ≡ b.at.line → (a.at.side ≡ b.at.side → ⊥) → Dual g a.says b.says
  meet i j w v h h' c d after after' x y a b line sides =
      let ma = sound.inv.made i a.at (w, h, (c, a.is_at)) in
      let mb = sound.inv.made j b.at (v, h', (d, b.is_at)) in
      let f = gd.fits _ _ (facing_fit g sound.point n sound.fit a.at b.at ma.0 line sides ma.1 mb.1) in
      let p = f.is_this in
      let p' = a.is_says in
      let q = f.is_that in
      let q' = b.is_says in
      let e : f.this ≡ a.says = cc in
      let e' : f.that ≡ b.says = cc in
      rw (← e, ← e') f.dual

  facing_ends : {A B : Type 0} (w v : Worker) (c d : ℕ) (after : Point → Option A) (after' : Point → Option B) (x : A) (y : B)
      (a : Stands g sound.point w.ends c after x) (b : Stands g sound.point v.ends d after' y) → Facing (end w.ends c) (end v.ends d) → (a.at.line ≡ b.at.line) × (a.at.side ≡ b.at.side → ⊥)
  facing_ends w v c d after after' x y a b f =
      let p = or_open (nth w.ends c) f.a f.is_a in
      let q = or_open (nth v.ends d) f.b f.is_b in
      let p' = a.is_at in
      let q' = b.is_at in
      let e : f.a ≡ a.at = cc in
      let e' : f.b ≡ b.at = cc in
      (rw (← e, ← e') f.line, rw (← e, ← e') f.sides)

  together_sound : (i j : ℕ) (w v w' v' : Worker) → (i ≡ j → ⊥) → nth ws i ≡ some w → nth ws j ≡ some v → Together w v w' v' → Sound g (put (put ws i w') j v') n
  together_sound i j w v w' v' i≢j h h' (passes c d x e s t tw tv face) =
      let kw = now i w (give c e s) h tw in
      let kv = now j v (take d x t) h' tv in
      let a = stands g sound.point w.ends c after_give kw.0 in
      let b = stands g sound.point v.ends d after_take kv.0 in
      let f = facing_ends w v c d after_give after_take _ _ a b face in
      let pa = after_give_is a.says kw.0.goes a.allowed in
      let pb = after_take_is b.says kv.0.goes b.allowed in
      let mn = gives_dual g a.says b.says kw.0.goes kv.0.goes (meet i j w v h h' c d after_give after_take _ _ a b f.0 f.1) pa pb in
      exchange g ws n sound i j w v _ _ i≢j h h' refl refl refl refl c d kw.0.goes kv.0.goes a.at b.at a.is_at b.is_at f.0 f.1
      (live_at g sound.point a.at a.says a.is_says (λ o. grind arith)) (live_at g sound.point b.at b.says b.is_says (λ o. grind arith)) mn kw.1 kv.1
  together_sound i j w v w' v' i≢j h h' (agrees c d k s t u tw tv face) =
      let kw = now i w (choose c k s) h tw in
      let kv = now j v (offer d t u) h' tv in
      go kw.0.goes kv.0.goes (eqb k 0) (stands g sound.point w.ends c after_choose kw.0) (stands g sound.point v.ends d after_offer kv.0) refl kw.1 kv.1 kv.2
    where
      ways_keep : (b : Bool) (o o' : ℕ) (a : List (Option ℕ)) → KeepsOn g t (put a d (some o)) → KeepsOn g u (put a d (some o')) → KeepsOn g (cond b t u) (put a d (some (cond b o o')))
      ways_keep true o o' a p q = p
      ways_keep false o o' a p q = q

      ways_fit : (b : Bool) (m m' o o' : ℕ) → Mutual g m o × Mutual g m' o' → Mutual g (cond b m m') (cond b o o')
      ways_fit true m m' o o' p = p.0
      ways_fit false m m' o o' p = p.1

      go : (x y : Ways) (z : Bool) → Stands g sound.point w.ends c after_choose x → Stands g sound.point v.ends d after_offer y → eqb k 0 ≡ z →
          KeepsOn g s (put (places sound.point w.ends) c (some (way k x))) → KeepsOn g t (put (places sound.point v.ends) d (some (way 0 y))) → KeepsOn g u (put (places sound.point v.ends) d (some (way 1 y))) →
          Sound g (put (put ws i (on w s)) j (on v (cond (eqb k 0) t u))) n
      go (ways m m') (ways o o') z a b kz keeps keeps' keeps'' =
          let f = facing_ends w v c d after_choose after_offer _ _ a b face in
          let pa = after_choose_is a.says m m' a.allowed in
          let pb = after_offer_is b.says o o' b.allowed in
          let both = chooses_dual g a.says b.says m m' o o' (meet i j w v h h' c d after_choose after_offer _ _ a b f.0 f.1) pa pb in
          exchange g ws n sound i j w v _ _ i≢j h h' refl refl refl refl c d (cond (eqb k 0) m m') (cond (eqb k 0) o o') a.at b.at a.is_at b.is_at f.0 f.1
          (live_at g sound.point a.at a.says a.is_says (λ z. grind arith)) (live_at g sound.point b.at b.says b.is_says (λ z. grind arith))
          (ways_fit (eqb k 0) m m' o o' both) keeps (ways_keep (eqb k 0) o o' (places sound.point v.ends) keeps' keeps'')

pub step_sound : (g : Program) → Good g → (a b : Configuration) → Sound g a.workers a.next → Step g a b → Sound g b.workers b.next
step_sound g gd a b s (alone i w w' ws ns h r st) = alone_sound g gd a.workers a.next s i w w' ws ns h st
step_sound g gd a b s (together i j w v w' v' d h h' r r' st) = together_sound g gd a.workers a.next s i j w v w' v' d h h' st

begin_sound : (g : Program) → Good g → (turns : ℕ) → Sound g (begin g turns).workers 0
begin_sound g gd turns = go (nth g.procs 0) refl
  where
    no_ends : (p : Process) (i : ℕ) (e : Endpoint) → Holds (begun p [] [] turns ∷ []) i e → ⊥
    no_ends p zero e h =
        let k = h.1 in
        let w : h.0 ≡ begun p [] [] turns = cc in
        let c : nth h.0.ends h.2.0 ≡ none = rw w refl in
        let d = h.2.1 in
        grind arith
    no_ends p (suc i) e h = let k = h.1 in grind arith

    nobody : (i : ℕ) (e : Endpoint) → Holds [] i e → ⊥
    nobody i e h = let k = h.1 in grind arith

    only : (p : Process) (P : Worker → Type 0) → P (begun p [] [] turns) → (i : ℕ) (w : Worker) → nth (begun p [] [] turns ∷ []) i ≡ some w → P w
    only p P k zero w e = let z : w ≡ begun p [] [] turns = cc in rw z k
    only p P k (suc i) w e = grind arith

    go : (o : Option Process) → nth g.procs 0 ≡ o → Sound g (first_worker o turns) 0
    go none e = record {
      point = λ x. 0;
      fit = λ l z. absurd (omega arith);
      inv = record {
        kept = λ i w h. absurd (nobody i (own_end 0) (grind arith));
        ended = λ i w h. grind arith;
        once = λ i w h. grind arith;
        holder = λ i j e h k. absurd (nobody i e h);
        made = λ i e h. absurd (nobody i e h);
        held = λ e l z s. absurd (omega arith);
        forest = forest_empty nobody;
      };
    }
    go (some p) e = record {
      point = λ x. 0;
      fit = λ l z. absurd (omega arith);
      inv = record {
        kept = only p (λ w. KeepsOn g w.todo (places (λ x. 0) w.ends)) (rw (gd.root p e) at (gd.bodies 0 p e));
        ended = only p (λ w. w.state ≡ stopped → w.todo ≡ stop) (λ z. not_stopped p.body z);
        once = only p (λ w. Once w.ends) (λ c d x y z. grind arith);
        holder = λ i j x h k. absurd (no_ends p i x h);
        made = λ i x h. absurd (no_ends p i x h);
        held = λ x l z s. absurd (omega arith);
        forest = forest_empty (no_ends p);
      };
    }

-- every configuration that is reached is sound
pub reached_sound : (g : Program) → Good g → (turns : ℕ) (a : Configuration) → Steps g (begin g turns) a → Sound g a.workers a.next
reached_sound g gd turns a here = begin_sound g gd turns
reached_sound g gd turns a (more {b} st s) = step_sound g gd b a (reached_sound g gd turns b st) s
