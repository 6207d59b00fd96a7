-- From what each kind of action comes to, to what the action at a place comes to; and what the walk over actions keeps.
use Rattle.std.proofs.Common.{◌≡◌, ℕ, ◌+◌, ◌-◌, ◌<◌, ◌≤◌, ◌&&◌, List, ◌∷◌, ◌++◌, length, drop, Some, None, Option, sym, ap, ◌∙◌, subst, arith}
use Rattle.rows.specs.declared.decode.Instruction.{Instruction}
use Rattle.rows.specs.declared.decode.Instruction.TheVariants.{Stop, Give, Take, Choose, Offer, Set, If, Show, Start, Become}
use Rattle.rows.specs.Decode.{instruction_at}
use Rattle.rows.specs.Mapped.{Of}
use Rattle.rows.proofs.Instructions.{Standing, at_stop, at_give, at_take, at_choose, at_offer, at_set, at_if, at_show, at_start, at_become}
use Rattle.rows.proofs.Passes.{no_instruction, there}
use Rattle.judging.specs.declared.conversations.Conversations.{Conversations}
use Rattle.judging.specs.declared.course.Course.{Course}
use Rattle.judging.specs.declared.course.Course.TheVariants.{Kept, On, Parted}
use Rattle.judging.specs.declared.setting.Setting.{Setting}
use Rattle.judging.specs.Following.{words, keeping, listed, Decides, Outcome, FollowSays, WalkSays, StopSays, GiveSays, TakeSays, ChooseSays, OfferSays, SetSays, IfSays, ShowSays, StartLooks, BecomeLooks}
use Rattle.judging.specs.Standing.{stand}
use Rattle.judging.proofs.CallLaws.{words_listed}
use Rattle.model.specs.Program.{Action, start, become}
use Rattle.model.specs.Rows.{row_es, row_a, deep, new}
use Rattle.model.specs.Keeps.{At}

-- what an instruction at place i says of the action that it begins
abbrev pub Says : Setting → ℕ → ℕ → At → Option Course → Instruction → Type 0
Says w i d a o Stop = StopSays w (i + 1) a o
Says w i d a o (Give c v) = GiveSays w c v d a o
Says w i d a o (Take c y v) = TakeSays w c y v a o
Says w i d a o (Choose c y v) = ChooseSays w c y v a o
Says w i d a o (Offer c v) = OfferSays w c v a o
Says w i d a o (Set y v) = SetSays w y v d a o
Says w i d a o (If v) = IfSays w v d a o
Says w i d a o (Show v) = ShowSays w v d a o
Says w i d a o (Start f) = StartLooks w f (listed (words w) f) d a o
Says w i d a o (Become f) = BecomeLooks w f (listed (words w) f) d a o

-- what is said of the words of a call is said of the process and of the list that are written
says_of : {cs cs' : List ℕ} {f f' : ℕ} → cs ≡ cs' → f ≡ f' → (P : ℕ → List ℕ → Type 0) → P f cs → P f' cs'
says_of {cs} {cs'} {f} {f'} same process P p = subst (λ (z : ℕ). P z cs') process (subst (P f) same p)

module _ (w : Setting) (i d : ℕ) (a : At) where
  pub follow_none : None ≡ instruction_at (words w) i → FollowSays w i d a None
  follow_none is g known t x h p q = absurd (no_instruction (words w) i (deep t) (new t) is t x h (omega arith) (omega arith))

  -- the instruction that is found is the beginning of the action that stands there
  pub follow : {k l : Instruction} → Some k ≡ instruction_at (words w) i → k ≡ l → (o : Option Course) → Says w i d a o l → FollowSays w i d a o
  follow {k} {l} is kind o says g known t x h p q = go l t (there (words w) i k l t x is kind h) says p q
    where
      go : (k : Instruction) (t : Action) → Standing (words w) i x k t → Says w i d a o k → deep t ≤ d → length a + new t ≤ 16 → Outcome w g d x (keeping w g t a) o
      go Stop t (at_stop e) says p q = says g known d x e
      go (Give c v) t (at_give {e} {t = u} s) says p q = says g known e u x s p q
      go (Take c y v) t (at_take {t = u} s) says p q = says g known d u x s p q
      go (Choose c y v) t (at_choose {t = u} s) says p q = says g known d u x s p q
      go (Offer c v) t (at_offer {t = u} {u = y} s) says p q = says g known d u y x s p q
      go (Set y v) t (at_set {e} {t = u} s) says p q = says g known e u x s p q
      go (If v) t (at_if {e} {t = u} {u = y} s) says p q = says g known e u y x s p q
      go (Show v) t (at_show {e} {t = u} s) says p q = says g known e u x s p q
      go (Start f) t (at_start {cs} {es} {t = u} s) says p q =
          let same = words_listed (words w) cs (length es ∷ (row_es es ++ (row_a u ++ x))) f.conversations f.count (sym s.count) s.listed in
          let it = says_of same s.process (λ h c. (deep (start h c es u) ≤ d → length a + new (start h c es u) ≤ 16 → Outcome w g d x (keeping w g (start h c es u) a) o)) (says g known es u x (sym s.expressions) s.numbers) in
          it p q
      go (Become f) t (at_become {cs} {es} s) says p q =
          let same = words_listed (words w) cs (length es ∷ (row_es es ++ x)) f.conversations f.count (sym s.count) s.listed in
          let it = says_of same s.process (λ h c. (deep (become h c es) ≤ d → Outcome w g d x (keeping w g (become h c es) a) o)) (says g known es x (sym s.expressions) s.numbers) in
          it p

-- The walk began at place i with conversations at a, and has come to place j with conversations c: what stands there decides.
pub record Walked (w : Setting) (i d : ℕ) (a : At) (j d' : ℕ) (c : Conversations) : Type 0 where
  pub on : Of w.rows (λ g. (t : Action) (x : List ℕ) → drop i (words w) ≡ row_a t ++ x → deep t ≤ d → length a + new t ≤ 16 → Decides w g j d' c x (keeping w g t a))
  pub order : i ≤ j
  pub shallow : d' ≤ d

module _ {w : Setting} {i d : ℕ} {a : At} {j d' : ℕ} {c : Conversations} (walk : Walked w i d a j d' c) where
  pub walked_careless : FollowSays w j d' (stand c) None → WalkSays w i d a None
  walked_careless f g known t x h p q =
      let u = walk.on g known t x h p q in
      u.same ∙ f g known u.it x u.rows u.deeps u.room

  pub walked_kept : (end : ℕ) → FollowSays w j d' (stand c) (Some (Kept end)) → WalkSays w i d a (Some end)
  walked_kept end f g known t x h p q =
      let u = walk.on g known t x h p q in
      let v = f g known u.it x u.rows u.deeps u.room in
      (u.same ∙ v.0, v.1)

  pub walked_on : {l : ℕ} {c' : Conversations} → FollowSays w j d' (stand c) (Some (On l c')) → j < l → Walked w i d a l d' c'
  walked_on f lt = record {
    on = λ g known t x h p q.
        let u = walk.on g known t x h p q in
        let v = f g known u.it x u.rows u.deeps u.room in
        record { it = v.it; rows = v.rows; deeps = v.deeps; room = v.room; same = u.same ∙ v.same };
    order = let o = walk.order in omega arith;
    shallow = walk.shallow;
  }

  module _ (l : ℕ) (c1 c2 : Conversations) (f : FollowSays w j d' (stand c) (Some (Parted l c1 c2))) where
    pub walked_shallow : (1 ≤ d' → ⊥) → WalkSays w i d a None
    walked_shallow none g known t x h p q =
        let u = walk.on g known t x h p q in
        let v = f g known u.it x u.rows u.deeps u.room in
        let o = v.pos in
        absurd (omega arith)

    module _ (less : ℕ) (e : (1 ≤ d') × (less ≡ d' - 1)) where
      pub walked_first : WalkSays w l less (stand c1) None → WalkSays w i d a None
      walked_first one g known t x h p q =
          let u = walk.on g known t x h p q in
          let v = f g known u.it x u.rows u.deeps u.room in
          let o = v.deep_one in
          let k = one g known v.one (row_a v.two ++ x) v.rows (omega arith) v.room_one in
          u.same ∙ (v.same ∙ ap (λ b. b && keeping w g v.two (stand c2)) k)

      pub walked_second : (m : ℕ) → WalkSays w l less (stand c1) (Some m) → j < m → Walked w i d a m less c2
      walked_second m one lt = record {
        on = λ g known t x h p q.
            let u = walk.on g known t x h p q in
            let v = f g known u.it x u.rows u.deeps u.room in
            let o = v.deep_one in let o2 = v.deep_two in
            let k = one g known v.one (row_a v.two ++ x) v.rows (omega arith) v.room_one in
            record { it = v.two; rows = k.1; deeps = omega arith; room = v.room_two; same = u.same ∙ (v.same ∙ ap (λ b. b && keeping w g v.two (stand c2)) k.0) };
        order = let o = walk.order in omega arith;
        shallow = let o = walk.shallow in omega arith;
      }
