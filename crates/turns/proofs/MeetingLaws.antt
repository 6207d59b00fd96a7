-- Two workers take a step together, in the words and in the model; or they cannot.
use Rattle.std.proofs.Common.{◌≡◌, ℕ, ◌+◌, ◌-◌, ◌<◌, ◌≤◌, max, Bool, true, false, cond, eqb, List, ◌++◌, length, get_or, drop, Some, None, sym, refl, ap, ◌∙◌, subst, inl, inr, arith, length-drop}
use lib.Seq.{drop-append_seam}
use Rattle.rows.specs.declared.decode.Instruction.{Instruction}
use Rattle.rows.specs.declared.decode.Instruction.TheVariants.{Give, Take, Choose, Offer}
use Rattle.rows.specs.Decode.{instruction_at, talk_at, Words}
use Rattle.rows.specs.Reading.{Seconds}
use Rattle.rows.proofs.Places.{rest_at}
use Rattle.rows.proofs.Talks.{give_talks, take_talks, choose_talks, offer_talks}
use Rattle.rows.proofs.Instructions.{Standing, at_give, at_take, at_choose, at_offer}
use Rattle.model.specs.Program.{put, Action, stop, give, take, choose, offer, set, if, show, start, become, value}
use Rattle.model.specs.Steps.{running, Worker, on, with_var, end, Facing, passes, agrees}
use Rattle.model.specs.Rows.{row_e, row_a, deep}
use Rattle.records.specs.Records.{Record, record_at, Kept, moved, assigned}
use Rattle.evaluation.specs.declared.expressions.Valued.{Valued}
use Rattle.evaluation.specs.Values.{Evaluates}
use Rattle.turns.specs.Holding.{Holds, weight, weight_in, bank}
use Rattle.turns.specs.Scheduling.{wish, end_of, waiting}
use Rattle.turns.specs.Meeting.{Giving, Choosing, Apart, Meets, Met, Exchanged}
use Rattle.turns.proofs.Found.{standing, Pairing, give_take, choose_offer, pairing}

-- a record is a worker, whatever it is called
pub holds_as : {s m : List ℕ} {r q : Record} {w : Worker} → q ≡ r → Holds s m r w → Holds s m q w
holds_as {s} {m} {w = w} e h = subst (λ (o : Record). Holds s m o w) (sym e) h

-- a worker goes on with another action, which stands at another place
pub holds_moved : {s m : List ℕ} {r : Record} {w : Worker} → Holds s m r w → w.state ≡ running → (p : ℕ) (t : Action) (y : List ℕ) → drop p s ≡ row_a t ++ y → Seconds m p t → deep t ≤ 256 → Holds s m (moved r p) (on w t)
holds_moved h run p t y rows secs nest = record { behind = y; rows = rows; seconds = secs; nested = nest; vars = h.vars; ends = h.ends; left = h.left; state = h.state ∙ run }

-- and a number is put into a variable
pub holds_assigned : {s m : List ℕ} {r : Record} {w : Worker} → Holds s m r w → w.state ≡ running → (x n k p : ℕ) (t : Action) (y : List ℕ) → k ≡ n → drop p s ≡ row_a t ++ y → Seconds m p t → deep t ≤ 256 → Holds s m (moved (assigned r x k) p) (with_var w x n t)
holds_assigned {r = r} {w = w} h run x n k p t y is rows secs nest = record {
  behind = y;
  rows = rows;
  seconds = secs;
  nested = nest;
  vars = let e = h.vars in ap (λ (vs : List ℕ). put vs x k) e ∙ ap (put w.vars x) is;
  ends = h.ends;
  left = h.left;
  state = h.state ∙ run;
}

-- an action stands within the words
pub place_below : {s m : List ℕ} {r : Record} {w : Worker} → Holds s m r w → r.place < length s
place_below {s} {m} {r} {w} h = go w.todo h.rows
  where
    l : length (drop r.place s) ≡ length s - r.place
    l = length-drop r.place s

    go : (t : Action) → drop r.place s ≡ row_a t ++ h.behind → r.place < length s
    go stop e = let k = ap length e in omega (arith, l)
    go (give c x t) e = let k = ap length e in omega (arith, l)
    go (take c x t) e = let k = ap length e in omega (arith, l)
    go (choose c x t) e = let k = ap length e in omega (arith, l)
    go (offer c t u) e = let k = ap length e in omega (arith, l)
    go (set x v t) e = let k = ap length e in omega (arith, l)
    go (if v t u) e = let k = ap length e in omega (arith, l)
    go (show v t) e = let k = ap length e in omega (arith, l)
    go (start f cs es t) e = let k = ap length e in omega (arith, l)
    go (become f cs es) e = let k = ap length e in omega (arith, l)

-- further on there is less to do
pub weight_moved : (n : ℕ) (r : Record) (p : ℕ) → r.state ≡ running → r.place < n → r.place < p → weight n (moved r p) < weight n r
weight_moved n r p run a b =
    let e1 : weight n (moved r p) ≡ (n - p) + bank n r.left = ap (λ k. weight_in k ((n - p) + bank n r.left)) run in
    let e2 : weight n r ≡ (n - r.place) + bank n r.left = ap (λ k. weight_in k ((n - r.place) + bank n r.left)) run in
    omega arith

-- no step together where the instructions are no pair
pub unmet : (s m : List ℕ) (procs procs' : List (List ℕ)) (i j : ℕ) → procs' ≡ procs → (Pairing s (record_at procs i).place (record_at procs j).place → ⊥) → Met s m procs procs' i j false
unmet s m procs procs' i j e n = (e, λ w v w' v' h k t. n (pairing h k t))

-- the first gives, the second takes
module _ (s m : List ℕ) (procs p1 p2 p3 : List (List ℕ)) (i j : ℕ) (v at d x n : ℕ) (two : Instruction) (vs : List ℕ) (given : Valued)
    (gives : Giving s (record_at procs i).place v) (is_at : at ≡ (record_at procs j).place) (is_two : Some two ≡ instruction_at s at) (kind : two ≡ Take d x n) (words : Words s at two)
    (is_vs : vs ≡ (record_at procs i).vars) (ev : Evaluates s vs v 256 given)
    (k1 : Kept procs p1 j (assigned (record_at procs j) x given.value)) (k2 : Kept p1 p2 j (moved (record_at p1 j) n)) (k3 : Kept p2 p3 i (moved (record_at p2 i) given.next))
    (ne : i ≡ j → ⊥) where
  gave_i : record_at p3 i ≡ moved (record_at procs i) given.next
  gave_i = k3.at ∙ ap (λ r. moved r given.next) (k2.others i ne ∙ k1.others i ne)

  gave_j : record_at p3 j ≡ moved (assigned (record_at procs j) x given.value) n
  gave_j = k3.others j (λ e. ne (sym e)) ∙ (k2.at ∙ ap (λ r. moved r n) k1.at)

  gave_apart : Apart procs p3 i j
  gave_apart = record { long = k3.long ∙ (k2.long ∙ k1.long); others = λ k a b. k3.others k a ∙ (k2.others k b ∙ k1.others k b) }

  gave_words : Words s at (Take d x n)
  gave_words = subst (Words s at) kind words

  gave_meets : (w u : Worker) → Holds s m (record_at procs i) w → Holds s m (record_at procs j) u → w.state ≡ running → u.state ≡ running → Meets s m procs p3 i j w u
  gave_meets w u h k r q = go w.todo refl u.todo refl (standing h (record_at procs i).place (Give gives.conversation v) (Give gives.conversation v) refl gives.is refl) (standing k at two (Take d x n) is_at is_two kind)
    where
      go : (a : Action) → w.todo ≡ a → (b : Action) → u.todo ≡ b → Standing s (record_at procs i).place h.behind (Give gives.conversation v) a → Standing s at k.behind (Take d x n) b → Meets s m procs p3 i j w u
      go a is_a b is_b (at_give {e = e} {t = t} rows) (at_take {t = t2} rows2) =
          let c = gives.conversation in
          let nest : deep (give c e t) ≤ 256 = subst (λ a. deep a ≤ 256) is_a h.nested in
          let nest2 : deep (take d x t2) ≤ 256 = subst (λ a. deep a ≤ 256) is_b k.nested in
          let val = ev e (row_a t ++ h.behind) rows (omega arith) in
          let secs : Seconds m ((record_at procs i).place + 2 + length (row_e e)) t = subst (Seconds m (record_at procs i).place) is_a h.seconds in
          let secs2 : Seconds m ((record_at procs j).place + 3) t2 = subst (Seconds m (record_at procs j).place) is_b k.seconds in
          let e1 = gives.starts in
          let e2 = val.ends in
          let z1 : (record_at procs i).place + 2 + length (row_e e) ≡ given.next = omega arith in
          let w2 = gave_words in
          let z2 : (record_at procs j).place + 3 ≡ n = omega arith in
          let g : given.value ≡ value w.vars e = val.value ∙ ap (λ vs. value vs e) (is_vs ∙ h.vars) in
          let run : (record_at procs i).state ≡ running = h.state ∙ r in
          let run2 : (record_at procs j).state ≡ running = k.state ∙ q in
          let b1 = place_below h in
          let b2 = place_below k in
          record {
            first = on w t;
            second' = with_var u x (value w.vars e) t2;
            together = λ f. passes c d x e t t2 is_a is_b (subst (λ o. Facing o (end u.ends d)) (ap (λ a. end_of w.ends (wish a)) is_a) (subst (λ o. Facing (waiting w) o) (ap (λ a. end_of u.ends (wish a)) is_b) f));
            first_runs = refl;
            second_runs = refl;
            first_ends = refl;
            second_ends = refl;
            first_holds = holds_as gave_i (holds_moved h r given.next t h.behind val.rest (subst (λ (p : ℕ). Seconds m p t) z1 secs) (omega arith));
            second_holds = holds_as gave_j (holds_assigned k q x (value w.vars e) given.value n t2 k.behind g rows2 (subst (λ (p : ℕ). Seconds m p t2) z2 secs2) nest2);
            first_less = subst (λ (o : Record). weight (length s) o < weight (length s) (record_at procs i)) (sym gave_i) (weight_moved (length s) (record_at procs i) given.next run b1 (omega arith));
            second_less = subst (λ (o : Record). weight (length s) o < weight (length s) (record_at procs j)) (sym gave_j) (weight_moved (length s) (record_at procs j) n run2 b2 (omega arith));
          }

  pub gave : Apart procs p3 i j × ((w u : Worker) → Holds s m (record_at procs i) w → Holds s m (record_at procs j) u → w.state ≡ running → u.state ≡ running → Meets s m procs p3 i j w u)
  gave = (gave_apart, gave_meets)

-- one of two ways that stand one behind the other
pub record Way (s m : List ℕ) (p to : ℕ) (t : Action) : Type 0 where
  pub behind : List ℕ
  pub rows : drop to s ≡ row_a t ++ behind
  pub seconds : Seconds m to t
  pub further : p < to

pub way_taken : (s m : List ℕ) (p f to : ℕ) (t u : Action) (y : List ℕ) (b : Bool) → drop f s ≡ row_a t ++ (row_a u ++ y) → p < f → Seconds m f t → Seconds m (f + length (row_a t)) u → get_or m p 0 ≡ f + length (row_a t) →
    to ≡ cond b f (get_or m p 0) → Way s m p to (cond b t u)
way_taken s m p f to t u y true rows lt one two second is =
    subst (λ (o : ℕ). Way s m p o t) (sym is) (record { behind = row_a u ++ y; rows = rows; seconds = one; further = lt })
way_taken s m p f to t u y false rows lt one two second is =
    subst (λ (o : ℕ). Way s m p o u) (sym (is ∙ second)) (record { behind = y; rows = rest_at s f (length (row_a t)) rows ∙ drop-append_seam (row_a t) (row_a u ++ y); seconds = two; further = omega arith })

deep_way : (t u : Action) (n : ℕ) (b : Bool) → max (deep t) (deep u) ≤ n → deep (cond b t u) ≤ n
deep_way t u n true h = omega arith
deep_way t u n false h = omega arith

-- the first chooses, the second offers
module _ (s m : List ℕ) (procs p1 p2 : List (List ℕ)) (i j : ℕ) (way next at d f to : ℕ) (two : Instruction)
    (chooses : Choosing s (record_at procs i).place way next) (is_at : at ≡ (record_at procs j).place) (is_two : Some two ≡ instruction_at s at) (kind : two ≡ Offer d f) (words : Words s at two)
    (is_to : to ≡ cond (eqb way 0) f (get_or m at 0))
    (k1 : Kept procs p1 i (moved (record_at procs i) next)) (k2 : Kept p1 p2 j (moved (record_at p1 j) to))
    (ne : i ≡ j → ⊥) where
  chose_i : record_at p2 i ≡ moved (record_at procs i) next
  chose_i = k2.others i ne ∙ k1.at

  chose_j : record_at p2 j ≡ moved (record_at procs j) to
  chose_j = k2.at ∙ ap (λ r. moved r to) (k1.others j (λ e. ne (sym e)))

  chose_apart : Apart procs p2 i j
  chose_apart = record { long = k2.long ∙ k1.long; others = λ k a b. k2.others k b ∙ k1.others k a }

  chose_words : Words s at (Offer d f)
  chose_words = subst (Words s at) kind words

  chose_meets : (w u : Worker) → Holds s m (record_at procs i) w → Holds s m (record_at procs j) u → w.state ≡ running → u.state ≡ running → Meets s m procs p2 i j w u
  chose_meets w u h k r q = go w.todo refl u.todo refl (standing h (record_at procs i).place (Choose chooses.conversation way next) (Choose chooses.conversation way next) refl chooses.is refl) (standing k at two (Offer d f) is_at is_two kind)
    where
      go : (a : Action) → w.todo ≡ a → (b : Action) → u.todo ≡ b → Standing s (record_at procs i).place h.behind (Choose chooses.conversation way next) a → Standing s at k.behind (Offer d f) b → Meets s m procs p2 i j w u
      go a is_a b is_b (at_choose {t = t} rows) (at_offer {t = t2} {u = u2} rows2) =
          let c = chooses.conversation in
          let pi = (record_at procs i).place in
          let pj = (record_at procs j).place in
          let nest : deep (choose c way t) ≤ 256 = subst (λ a. deep a ≤ 256) is_a h.nested in
          let nest2 : deep (offer d t2 u2) ≤ 256 = subst (λ a. deep a ≤ 256) is_b k.nested in
          let secs : Seconds m (pi + 3) t = subst (Seconds m pi) is_a h.seconds in
          let secs2 : (get_or m pj 0 ≡ pj + 2 + length (row_a t2)) × Seconds m (pj + 2) t2 × Seconds m (pj + 2 + length (row_a t2)) u2 = subst (Seconds m pj) is_b k.seconds in
          let e1 = chooses.starts in
          let z1 : pi + 3 ≡ next = omega arith in
          let w2 = chose_words in
          let z2 : pj + 2 ≡ f = omega arith in
          let z3 : pj + 2 + length (row_a t2) ≡ f + length (row_a t2) = omega arith in
          let lt : pj < f = omega arith in
          let to_is : to ≡ cond (eqb way 0) f (get_or m pj 0) = is_to ∙ ap (λ p. cond (eqb way 0) f (get_or m p 0)) is_at in
          let chosen = way_taken s m pj f to t2 u2 k.behind (eqb way 0) rows2 lt (subst (λ (p : ℕ). Seconds m p t2) z2 secs2.1) (subst (λ (p : ℕ). Seconds m p u2) z3 secs2.2) (secs2.0 ∙ z3) to_is in
          let run : (record_at procs i).state ≡ running = h.state ∙ r in
          let run2 : (record_at procs j).state ≡ running = k.state ∙ q in
          let b1 = place_below h in
          let b2 = place_below k in
          let less2 = chosen.further in
          record {
            first = on w t;
            second' = on u (cond (eqb way 0) t2 u2);
            together = λ f. agrees c d way t t2 u2 is_a is_b (subst (λ o. Facing o (end u.ends d)) (ap (λ a. end_of w.ends (wish a)) is_a) (subst (λ o. Facing (waiting w) o) (ap (λ a. end_of u.ends (wish a)) is_b) f));
            first_runs = refl;
            second_runs = refl;
            first_ends = refl;
            second_ends = refl;
            first_holds = holds_as chose_i (holds_moved h r next t h.behind rows (subst (λ (p : ℕ). Seconds m p t) z1 secs) nest);
            second_holds = holds_as chose_j (holds_moved k q to (cond (eqb way 0) t2 u2) chosen.behind chosen.rows chosen.seconds (deep_way t2 u2 256 (eqb way 0) (omega arith)));
            first_less = subst (λ (o : Record). weight (length s) o < weight (length s) (record_at procs i)) (sym chose_i) (weight_moved (length s) (record_at procs i) next run b1 (omega arith));
            second_less = subst (λ (o : Record). weight (length s) o < weight (length s) (record_at procs j)) (sym chose_j) (weight_moved (length s) (record_at procs j) to run2 b2 less2);
          }

  pub chose : Apart procs p2 i j × ((w u : Worker) → Holds s m (record_at procs i) w → Holds s m (record_at procs j) u → w.state ≡ running → u.state ≡ running → Meets s m procs p2 i j w u)
  chose = (chose_apart, chose_meets)

-- which instructions are no pair
module _ (s : List ℕ) (i j : ℕ) where
  clash : (a b : Instruction) → Some a ≡ instruction_at s i → Some b ≡ instruction_at s i → a ≡ b
  clash a b p q = cc

  pub none_first : None ≡ talk_at s i → Pairing s i j → ⊥
  none_first n (give_take c v d x m a b) = let t = give_talks s i c v a in let z : ◌≡◌ {A = ℕ} 0 1 = cc in omega arith
  none_first n (choose_offer c k m d f a b) = let t = choose_talks s i c k m a in let z : ◌≡◌ {A = ℕ} 0 1 = cc in omega arith

  pub none_second : None ≡ talk_at s j → Pairing s i j → ⊥
  none_second n (give_take c v d x m a b) = let t = take_talks s j d x m b in let z : ◌≡◌ {A = ℕ} 0 1 = cc in omega arith
  none_second n (choose_offer c k m d f a b) = let t = offer_talks s j d f b in let z : ◌≡◌ {A = ℕ} 0 1 = cc in omega arith

  pub other_first : (k : Instruction) → Some k ≡ instruction_at s i → ((c v : ℕ) → k ≡ Give c v → ⊥) → ((c w n : ℕ) → k ≡ Choose c w n → ⊥) → Pairing s i j → ⊥
  other_first k is x y (give_take c v d z m a b) = x c v (cc)
  other_first k is x y (choose_offer c w m d f a b) = y c w m (cc)

  pub other_second : (k : Instruction) → Some k ≡ instruction_at s j → ((d x n : ℕ) → k ≡ Take d x n → ⊥) → ((d f : ℕ) → k ≡ Offer d f → ⊥) → Pairing s i j → ⊥
  other_second k is x y (give_take c v d z m a b) = x d z m (cc)
  other_second k is x y (choose_offer c w m d f a b) = y d f (cc)

  pub take_other : (c x n : ℕ) (k : Instruction) → Some (Take c x n) ≡ instruction_at s j → Some k ≡ instruction_at s i → ((d v : ℕ) → k ≡ Give d v → ⊥) → Pairing s i j → ⊥
  take_other c x n k is is2 no_give (give_take c1 v1 d z m a b) = no_give c1 v1 (cc)
  take_other c x n k is is2 no_give (choose_offer c1 w m d f a b) = let z : ◌≡◌ {A = ℕ} 0 1 = cc in omega arith

  pub offer_other : (c f : ℕ) (k : Instruction) → Some (Offer c f) ≡ instruction_at s j → Some k ≡ instruction_at s i → ((d w n : ℕ) → k ≡ Choose d w n → ⊥) → Pairing s i j → ⊥
  offer_other c f k is is2 no_choice (give_take c1 v1 d z m a b) = let z : ◌≡◌ {A = ℕ} 0 1 = cc in omega arith
  offer_other c f k is is2 no_choice (choose_offer c1 w m d f1 a b) = no_choice c1 w m (cc)

  -- who gives or chooses is no second, who takes or offers no first
  pub give_not_second : (k : Instruction) (c v : ℕ) → Some k ≡ instruction_at s j → k ≡ Give c v → Pairing s i j → ⊥
  give_not_second k c v is kind = other_second k is (λ d x n e. let z : ◌≡◌ {A = ℕ} 0 1 = cc in omega arith) (λ d f e. let z : ◌≡◌ {A = ℕ} 0 1 = cc in omega arith)

  pub choose_not_second : (k : Instruction) (c w m : ℕ) → Some k ≡ instruction_at s j → k ≡ Choose c w m → Pairing s i j → ⊥
  choose_not_second k c w m is kind = other_second k is (λ d x n e. let z : ◌≡◌ {A = ℕ} 0 1 = cc in omega arith) (λ d f e. let z : ◌≡◌ {A = ℕ} 0 1 = cc in omega arith)

  pub take_not_first : (k : Instruction) (c x n : ℕ) → Some k ≡ instruction_at s i → k ≡ Take c x n → Pairing s i j → ⊥
  take_not_first k c x n is kind = other_first k is (λ d v e. let z : ◌≡◌ {A = ℕ} 0 1 = cc in omega arith) (λ d w m e. let z : ◌≡◌ {A = ℕ} 0 1 = cc in omega arith)

  pub offer_not_first : (k : Instruction) (c f : ℕ) → Some k ≡ instruction_at s i → k ≡ Offer c f → Pairing s i j → ⊥
  offer_not_first k c f is kind = other_first k is (λ d v e. let z : ◌≡◌ {A = ℕ} 0 1 = cc in omega arith) (λ d w m e. let z : ◌≡◌ {A = ℕ} 0 1 = cc in omega arith)

  pub give_other : (c v : ℕ) (two : Instruction) → Some (Give c v) ≡ instruction_at s i → Some two ≡ instruction_at s j → ((d x n : ℕ) → two ≡ Take d x n → ⊥) → Pairing s i j → ⊥
  give_other c v two is is2 x (give_take c1 v1 d z m a b) = x d z m (cc)
  give_other c v two is is2 x (choose_offer c1 w m d f a b) = let z : ◌≡◌ {A = ℕ} 0 1 = cc in omega arith

  pub choose_other : (c w n : ℕ) (two : Instruction) → Some (Choose c w n) ≡ instruction_at s i → Some two ≡ instruction_at s j → ((d f : ℕ) → two ≡ Offer d f → ⊥) → Pairing s i j → ⊥
  choose_other c w n two is is2 x (give_take c1 v1 d z m a b) = let z : ◌≡◌ {A = ℕ} 0 1 = cc in omega arith
  choose_other c w n two is is2 x (choose_offer c1 w1 m d f a b) = x d f (cc)

-- a give or a choice found at a place
pub giving : (s : List ℕ) (at p c v : ℕ) (k : Instruction) → at ≡ p → Some k ≡ instruction_at s at → k ≡ Give c v → Words s at k → Giving s p v
giving s at p c v k e is kind words =
    let w = subst (Words s at) kind words in
    record { conversation = c; is = ap Some (sym kind) ∙ (is ∙ ap (instruction_at s) e); starts = w.2 ∙ ap (λ n. n + 2) e; within = w.3 }

pub choosing : (s : List ℕ) (at p c w n : ℕ) (k : Instruction) → at ≡ p → Some k ≡ instruction_at s at → k ≡ Choose c w n → Words s at k → Choosing s p w n
choosing s at p c w n k e is kind words =
    let u = subst (Words s at) kind words in
    record { conversation = c; is = ap Some (sym kind) ∙ (is ∙ ap (instruction_at s) e); starts = u.3 ∙ ap (λ n. n + 3) e; within = u.4 }

-- a step together in one order, where the other order is none
module _ (s m : List ℕ) (procs procs' : List (List ℕ)) (i j : ℕ) where
  pub exchanged_first : (b : Bool) → Met s m procs procs' i j b → (Pairing s (record_at procs j).place (record_at procs i).place → ⊥) → Exchanged s m procs procs' i j b
  exchanged_first true t n = inl t
  exchanged_first false t n = (t, unmet s m procs procs' j i t.0 n)

  pub exchanged_second : (b : Bool) → Met s m procs procs' j i b → (Pairing s (record_at procs i).place (record_at procs j).place → ⊥) → Exchanged s m procs procs' i j b
  exchanged_second true t n = inr t
  exchanged_second false t n = (unmet s m procs procs' i j t.0 n, t)
