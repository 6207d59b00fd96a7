-- What each instruction leads to: the action at a place, exactly, from the instruction that is found there.
use Rattle.std.proofs.Common.{◌≡◌, ℕ, ◌+◌, ◌-◌, ◌<◌, ◌≤◌, List, [], ◌∷◌, ◌++◌, length, get_or, take as front, drop, Some, None, sym, refl, ap, ◌∙◌, subst, append_assoc, arith, length-append, length-drop, length-take}
use Rattle.rows.specs.declared.decode.Call.{Call}
use Rattle.rows.specs.declared.decode.Instruction.{Instruction}
use Rattle.rows.specs.declared.decode.Instruction.TheVariants.{Stop, Give, Take, Choose, Offer, Set, If, Show, Start, Become}
use Rattle.rows.specs.Decode.{instruction_at, Words, CallWords}
use Rattle.rows.specs.Reading.{ExpressionAt, NoExpression, ExpressionsAt, NoExpressions, Seconds, ActionAt, NoAction, Stood, Leads, TwoWays, Parting}
use Rattle.rows.proofs.Places.{drop_one, drop_two, drop_three, drop_list}
use Rattle.rows.proofs.Instructions.{Standing, at_give, at_take, at_choose, at_offer, at_set, at_if, at_show, at_start, at_become, instruction_found}
use Rattle.model.specs.Program.{Action, stop, give, take, choose, offer, set, if, show, start, become}
use Rattle.model.specs.Rows.{row_e, row_es, row_a, deep, new}
use Rattle.model.proofs.Writing.{row_e_prefix, row_es_prefix}

-- nothing found, no action
pub no_instruction : (s : List ℕ) (i d r : ℕ) → None ≡ instruction_at s i → NoAction s i d r
no_instruction s i d r is t x h p q =
    let f = instruction_found s i t x h in
    let z : ◌≡◌ {A = ℕ} 0 1 = cc f.is in
    omega arith

-- the instruction found is the beginning of the action that stands there
pub there : (s : List ℕ) (i : ℕ) (k l : Instruction) (t : Action) (x : List ℕ) → Some k ≡ instruction_at s i → k ≡ l → drop i s ≡ row_a t ++ x → Standing s i x l t
there s i k l t x is kind h =
    let f = instruction_found s i t x h in
    let same : f.it ≡ l = cc f.is in
    subst (λ q. Standing s i x q t) same f.standing

-- An action made of a front and the action behind it: `con t` is written as the words `front` and then t.
pub leads : (s : List ℕ) (i d r j r' : ℕ) (con : Action → Action) (front : List ℕ) → drop i s ≡ front ++ drop j s → j ≡ i + length front → 0 < length front → j ≤ length s →
    ((t : Action) → row_a (con t) ≡ front ++ row_a t) → ((t : Action) → deep t ≤ d → deep (con t) ≤ d) → ((t : Action) → new t ≤ r' → new (con t) ≤ r) →
    ((m : List ℕ) (t : Action) → Seconds m j t → Seconds m i (con t)) → ((x : List ℕ) → Stood s i d r x → Stood s j d r' x) → Leads s i d r j d r'
leads s i d r j r' con front rows ends pos within row deeps news secs on = record {
  back = λ m x n a.
      let t = a.stood.it in
      let e : drop i s ≡ front ++ (row_a t ++ x) = rows ∙ ap (λ y. front ++ y) a.stood.rows in
      let l1 = ap length (row t) in
      let l2 = length-append front (row_a t) in
      let l3 = a.long in
      record {
        stood = record { it = con t; rows = e ∙ (sym (append_assoc front (row_a t) x) ∙ ap (λ y. y ++ x) (sym (row t))); deeps = deeps t a.stood.deeps; news = news t a.stood.news };
        seconds = secs m t a.seconds;
        long = omega arith;
      };
  on = on;
  further = omega arith;
  within = within;
}

-- the conversations that a call hands on
abbrev pub handed : List ℕ → Call → List ℕ
handed s g = front g.count (drop g.conversations s)

pub handed_long : (s : List ℕ) (i : ℕ) (g : Call) → CallWords s i g → length (handed s g) ≡ g.count
handed_long s i g cw = simp (length-take, length-drop) (omega arith)

-- the words of a call: its code, the process, and the two lists
pub call_rows : (s : List ℕ) (i : ℕ) (g : Call) → CallWords s i g → drop i s ≡ get_or s i 0 ∷ g.process ∷ g.count ∷ (handed s g ++ (g.expressions ∷ drop g.numbers s))
call_rows s i g cw =
    let o : i + 2 < length s = omega arith in
    let o2 : i + 3 + g.count < length s = omega arith in
    let e1 = drop_three s i o in
    let e2 = drop_list s (i + 3) g.count in
    let e3 = drop_one s (i + 3 + g.count) o2 in
    let e4 : i + 3 + g.count + 1 ≡ g.numbers = omega arith in
    let e5 : drop (i + 3 + g.count) s ≡ g.expressions ∷ drop g.numbers s = e3 ∙ cc in
    cc

-- An instruction is found at place i, where actions nested at most d deep and getting at most r conversations may stand.
pub record Here (s : List ℕ) (i d r : ℕ) (k : Instruction) : Type 0 where
  pub is : Some k ≡ instruction_at s i
  pub words : Words s i k

pub here_as : {s : List ℕ} {i d r : ℕ} {k l : Instruction} → Here s i d r k → k ≡ l → Here s i d r l
here_as {s} {i} {d} {r} h kind = subst (Here s i d r) kind h

-- it is the beginning of the action that stands there
found : {s : List ℕ} {i d r : ℕ} {k : Instruction} → Here s i d r k → (t : Action) (x : List ℕ) → drop i s ≡ row_a t ++ x → Standing s i x k t
found {s} {i} {d} {r} {k} here t x h = there s i k k t x here.is refl h

module _ {s : List ℕ} {i d r : ℕ} where
  pub stop_end : Here s i d r Stop → (m : List ℕ) → ActionAt s m i d r (i + 1)
  stop_end here m =
      let w = here.words in
      record { it = stop; rows = drop_one s i w.1 ∙ cc; deeps = omega arith; news = omega arith; seconds = tt; ends = refl; further = omega arith; within = omega arith }

  pub give_leads : {c v j : ℕ} → Here s i d r (Give c v) → ExpressionAt s v d j → Leads s i d r j d r
  give_leads {c} {v} {j} here a =
      let w = here.words in
      let o : i + 1 < length s = omega arith in
      let e0 : drop i s ≡ 1 ∷ c ∷ drop v s = drop_two s i o ∙ cc in
      let q = a.ends in
      let z : j ≡ i + 2 + length (row_e a.it) = omega arith in
      leads s i d r j r (give c a.it) (1 ∷ c ∷ row_e a.it) (e0 ∙ cc a.rows) (omega arith) (omega arith) a.within
      (λ t. refl) (λ t p. let g = a.deep in omega arith) (λ t p. p) (λ m t p. subst (λ (b : ℕ). Seconds m b t) z p) (λ x b. go x b.it (found here b.it x b.rows) b.deeps b.news)
    where
      go : (x : List ℕ) (t : Action) → Standing s i x (Give c v) t → deep t ≤ d → new t ≤ r → Stood s j d r x
      go x t (at_give {e} {t = u} h) p q = record { it = u; rows = (row_e_prefix a.it e (drop j s) (row_a u ++ x) (sym a.rows ∙ h)).1; deeps = omega arith; news = q }

  pub give_none : {c v : ℕ} → Here s i d r (Give c v) → NoExpression s v d → NoAction s i d r
  give_none {c} {v} here nope t x h p q = go t (found here t x h) p
    where
      go : (t : Action) → Standing s i x (Give c v) t → deep t ≤ d → ⊥
      go t (at_give {e} {t = u} h) p = nope e (row_a u ++ x) h (omega arith)

  pub take_leads : {c y n : ℕ} → Here s i d r (Take c y n) → Leads s i d r n d r
  take_leads {c} {y} {n} here =
      let w = here.words in
      let o : i + 2 < length s = omega arith in
      let z : n ≡ i + 3 = omega arith in
      leads s i d r n r (take c y) (2 ∷ c ∷ y ∷ []) (drop_three s i o ∙ cc) (omega arith) (omega arith) (omega arith)
      (λ t. refl) (λ t p. p) (λ t p. p) (λ m t p. subst (λ (b : ℕ). Seconds m b t) z p) (λ x b. go x b.it (found here b.it x b.rows) b.deeps b.news)
    where
      go : (x : List ℕ) (t : Action) → Standing s i x (Take c y n) t → deep t ≤ d → new t ≤ r → Stood s n d r x
      go x t (at_take {t = u} h) p q = record { it = u; rows = h; deeps = p; news = q }

  pub choose_leads : {c y n : ℕ} → Here s i d r (Choose c y n) → Leads s i d r n d r
  choose_leads {c} {y} {n} here =
      let w = here.words in
      let o : i + 2 < length s = omega arith in
      let z : n ≡ i + 3 = omega arith in
      leads s i d r n r (choose c y) (3 ∷ c ∷ y ∷ []) (drop_three s i o ∙ cc) (omega arith) (omega arith) (omega arith)
      (λ t. refl) (λ t p. p) (λ t p. p) (λ m t p. subst (λ (b : ℕ). Seconds m b t) z p) (λ x b. go x b.it (found here b.it x b.rows) b.deeps b.news)
    where
      go : (x : List ℕ) (t : Action) → Standing s i x (Choose c y n) t → deep t ≤ d → new t ≤ r → Stood s n d r x
      go x t (at_choose {t = u} h) p q = record { it = u; rows = h; deeps = p; news = q }

  pub set_leads : {y v j : ℕ} → Here s i d r (Set y v) → ExpressionAt s v d j → Leads s i d r j d r
  set_leads {y} {v} {j} here a =
      let w = here.words in
      let o : i + 1 < length s = omega arith in
      let e0 : drop i s ≡ 5 ∷ y ∷ drop v s = drop_two s i o ∙ cc in
      let q = a.ends in
      let z : j ≡ i + 2 + length (row_e a.it) = omega arith in
      leads s i d r j r (set y a.it) (5 ∷ y ∷ row_e a.it) (e0 ∙ cc a.rows) (omega arith) (omega arith) a.within
      (λ t. refl) (λ t p. let g = a.deep in omega arith) (λ t p. p) (λ m t p. subst (λ (b : ℕ). Seconds m b t) z p) (λ x b. go x b.it (found here b.it x b.rows) b.deeps b.news)
    where
      go : (x : List ℕ) (t : Action) → Standing s i x (Set y v) t → deep t ≤ d → new t ≤ r → Stood s j d r x
      go x t (at_set {e} {t = u} h) p q = record { it = u; rows = (row_e_prefix a.it e (drop j s) (row_a u ++ x) (sym a.rows ∙ h)).1; deeps = omega arith; news = q }

  pub set_none : {y v : ℕ} → Here s i d r (Set y v) → NoExpression s v d → NoAction s i d r
  set_none {y} {v} here nope t x h p q = go t (found here t x h) p
    where
      go : (t : Action) → Standing s i x (Set y v) t → deep t ≤ d → ⊥
      go t (at_set {e} {t = u} h) p = nope e (row_a u ++ x) h (omega arith)

  pub show_leads : {v j : ℕ} → Here s i d r (Show v) → ExpressionAt s v d j → Leads s i d r j d r
  show_leads {v} {j} here a =
      let w = here.words in
      let o : i < length s = let l = a.within in let f = a.further in omega arith in
      let e0 : drop i s ≡ 7 ∷ drop v s = drop_one s i o ∙ cc in
      let q = a.ends in
      let z : j ≡ i + 1 + length (row_e a.it) = omega arith in
      leads s i d r j r (show a.it) (7 ∷ row_e a.it) (e0 ∙ cc a.rows) (omega arith) (omega arith) a.within
      (λ t. refl) (λ t p. let g = a.deep in omega arith) (λ t p. p) (λ m t p. subst (λ (b : ℕ). Seconds m b t) z p) (λ x b. go x b.it (found here b.it x b.rows) b.deeps b.news)
    where
      go : (x : List ℕ) (t : Action) → Standing s i x (Show v) t → deep t ≤ d → new t ≤ r → Stood s j d r x
      go x t (at_show {e} {t = u} h) p q = record { it = u; rows = (row_e_prefix a.it e (drop j s) (row_a u ++ x) (sym a.rows ∙ h)).1; deeps = omega arith; news = q }

  pub show_none : {v : ℕ} → Here s i d r (Show v) → NoExpression s v d → NoAction s i d r
  show_none {v} here nope t x h p q = go t (found here t x h) p
    where
      go : (t : Action) → Standing s i x (Show v) t → deep t ≤ d → ⊥
      go t (at_show {e} {t = u} h) p = nope e (row_a u ++ x) h (omega arith)

  pub offer_parts : {c f : ℕ} → Here s i d r (Offer c f) → Parting s i d r f
  offer_parts {c} {f} here =
      let w = here.words in
      let o : i + 1 < length s = omega arith in
      let e0 : drop i s ≡ 4 ∷ c ∷ drop f s = drop_two s i o ∙ cc in
      let z : f ≡ i + 2 = omega arith in
      record {
        back = λ m x b s1 s2 g.
            let l = length-append (row_a b.one) (row_a b.two) in
            let p0 = b.some in let p1 = b.deep_one in let p2 = b.deep_two in let p3 = b.new_one in let p4 = b.new_two in
            let z2 : f + length (row_a b.one) ≡ i + 2 + length (row_a b.one) = omega arith in
            record {
              stood = record { it = offer c b.one b.two; rows = e0 ∙ (ap (λ y. 4 ∷ c ∷ y) (b.rows ∙ sym (append_assoc (row_a b.one) (row_a b.two) x))); deeps = omega arith; news = omega arith };
              seconds = (g ∙ z2, subst (λ (q : ℕ). Seconds m q b.one) z s1, subst (λ (q : ℕ). Seconds m q b.two) z2 s2);
              long = omega arith;
            };
        on = λ x b. go x b.it (found here b.it x b.rows) b.deeps b.news;
        further = omega arith;
        within = omega arith;
      }
    where
      go : (x : List ℕ) (t : Action) → Standing s i x (Offer c f) t → deep t ≤ d → new t ≤ r → TwoWays s f d r x
      go x t (at_offer {t = u} {u = v} h) p q = record { one = u; two = v; rows = h; some = omega arith; deep_one = omega arith; deep_two = omega arith; new_one = omega arith; new_two = omega arith }

  pub if_parts : {v j : ℕ} → Here s i d r (If v) → ExpressionAt s v d j → Parting s i d r j
  if_parts {v} {j} here a =
      let w = here.words in
      let a1 = a.within in let a2 = a.further in let a3 = a.ends in let a4 = a.deep in
      let o : i < length s = omega arith in
      let e0 : drop i s ≡ 6 ∷ (row_e a.it ++ drop j s) = drop_one s i o ∙ cc a.rows in
      let z : j ≡ i + 1 + length (row_e a.it) = omega arith in
      record {
        back = λ m x b s1 s2 g.
            let l = length-append (row_a b.one) (row_a b.two) in
            let l2 = length-append (row_e a.it) (row_a b.one ++ row_a b.two) in
            let p0 = b.some in let p1 = b.deep_one in let p2 = b.deep_two in let p3 = b.new_one in let p4 = b.new_two in
            let z2 : j + length (row_a b.one) ≡ i + 1 + length (row_e a.it) + length (row_a b.one) = omega arith in
            let e1 : drop i s ≡ 6 ∷ (row_e a.it ++ (row_a b.one ++ (row_a b.two ++ x))) = e0 ∙ ap (λ y. 6 ∷ (row_e a.it ++ y)) b.rows in
            record {
              stood = record { it = if a.it b.one b.two; rows = e1 ∙ simp append_assoc; deeps = omega arith; news = omega arith };
              seconds = (g ∙ z2, subst (λ (q : ℕ). Seconds m q b.one) z s1, subst (λ (q : ℕ). Seconds m q b.two) z2 s2);
              long = omega arith;
            };
        on = λ x b. go x b.it (found here b.it x b.rows) b.deeps b.news;
        further = omega arith;
        within = omega arith;
      }
    where
      go : (x : List ℕ) (t : Action) → Standing s i x (If v) t → deep t ≤ d → new t ≤ r → TwoWays s j d r x
      go x t (at_if {e} {t = u} {u = y} h) p q = record {
        one = u;
        two = y;
        rows = (row_e_prefix a.it e (drop j s) (row_a u ++ (row_a y ++ x)) (sym a.rows ∙ h)).1;
        some = omega arith;
        deep_one = omega arith;
        deep_two = omega arith;
        new_one = omega arith;
        new_two = omega arith;
      }

  pub if_none : {v : ℕ} → Here s i d r (If v) → NoExpression s v d → NoAction s i d r
  if_none {v} here nope t x h p q = go t (found here t x h) p
    where
      go : (t : Action) → Standing s i x (If v) t → deep t ≤ d → ⊥
      go t (at_if {e} {t = u} {u = y} h) p = nope e (row_a u ++ (row_a y ++ x)) h (omega arith)

  pub start_leads : {g : Call} {j l : ℕ} → Here s i d r (Start g) → (1 ≤ r) × (l ≡ r - 1) → ExpressionsAt s g.numbers d g.expressions j → Leads s i d r j d l
  start_leads {g} {j} {l} here less a =
      let w = here.words in
      let cs = handed s g in
      let es = a.them in
      let e0 = call_rows s i g w.1 in
      let hl = handed_long s i g w.1 in
      let q = a.ends in let cw = w.1 in
      let bound = a.within cw.within in
      let e1 : drop i s ≡ 8 ∷ g.process ∷ length cs ∷ (cs ++ (length es ∷ (row_es es ++ drop j s))) = e0 ∙ cc (a.rows, a.many, hl, w.0) in
      let l1 = length-append cs (length es ∷ row_es es) in
      let z : j ≡ i + 4 + length cs + length (row_es es) = omega arith in
      leads s i d r j l (start g.process cs es) (8 ∷ g.process ∷ length cs ∷ (cs ++ (length es ∷ row_es es))) (e1 ∙ simp append_assoc) (omega arith) (omega arith) bound
      (λ t. simp append_assoc) (λ t p. let b = a.deep in omega arith) (λ t p. omega arith) (λ m t p. subst (λ (b : ℕ). Seconds m b t) z p)
      (λ x b. go x b.it (found here b.it x b.rows) b.deeps b.news)
    where
      go : (x : List ℕ) (t : Action) → Standing s i x (Start g) t → deep t ≤ d → new t ≤ r → Stood s j d l x
      go x t (at_start {es} {t = u} h) p q = record { it = u; rows = (row_es_prefix a.them es (drop j s) (row_a u ++ x) (a.many ∙ h.expressions) (sym a.rows ∙ h.numbers)).1; deeps = omega arith; news = omega arith }

  pub start_none : {g : Call} → Here s i d r (Start g) → NoExpressions s g.numbers d g.expressions → NoAction s i d r
  start_none {g} here nope t x h p q = go t (found here t x h) p
    where
      go : (t : Action) → Standing s i x (Start g) t → deep t ≤ d → ⊥
      go t (at_start {es} {t = u} h) p = nope es (row_a u ++ x) (sym h.expressions) h.numbers (omega arith)

  pub start_full : {g : Call} → Here s i d r (Start g) → (1 ≤ r → ⊥) → NoAction s i d r
  start_full {g} here none t x h p q = go t (found here t x h) q
    where
      go : (t : Action) → Standing s i x (Start g) t → new t ≤ r → ⊥
      go t (at_start {t = u} h) q = omega arith

  pub become_end : {g : Call} {j : ℕ} → Here s i d r (Become g) → ExpressionsAt s g.numbers d g.expressions j → (m : List ℕ) → ActionAt s m i d r j
  become_end {g} {j} here a m =
      let w = here.words in
      let cs = handed s g in
      let es = a.them in
      let e0 = call_rows s i g w.1 in
      let hl = handed_long s i g w.1 in
      let q = a.ends in let cw = w.1 in
      let bound = a.within cw.within in
      let e1 : drop i s ≡ 9 ∷ g.process ∷ length cs ∷ (cs ++ (length es ∷ (row_es es ++ drop j s))) = e0 ∙ cc (a.rows, a.many, hl, w.0) in
      let l1 = length-append cs (length es ∷ row_es es) in
      record {
        it = become g.process cs es;
        rows = e1 ∙ simp append_assoc;
        deeps = a.deep;
        news = omega arith;
        seconds = tt;
        ends = omega arith;
        further = omega arith;
        within = bound;
      }

  pub become_none : {g : Call} → Here s i d r (Become g) → NoExpressions s g.numbers d g.expressions → NoAction s i d r
  become_none {g} here nope t x h p q = go t (found here t x h) p
    where
      go : (t : Action) → Standing s i x (Become g) t → deep t ≤ d → ⊥
      go t (at_become {es} h) p = nope es x (sym h.expressions) h.numbers p
