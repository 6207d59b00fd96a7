-- What is written and marked of an action, from what is written and marked of its parts.
use Rattle.std.proofs.Common.{◌≡◌, ℕ, suc, ◌+◌, List, [], ◌∷◌, ◌++◌, length, vec_items, Vec, Box, sym, refl, ap, ◌∙◌, subst, append_assoc, length-append}
use Rattle.model.specs.Program as model
use Rattle.model.specs.Rows.{row_a, row_e, row_es}
use Rattle.std.specs.declared.alloc.Global.{Global}
use Rattle.syntax.proofs.Added.{append_after, append_after_two}
use Rattle.syntax.specs.Marks.{Wrote, begins}
use Rattle.syntax.specs.Meaning.{action_of, expression_of, expressions_of}
use Rattle.syntax.specs.declared.tree.Action.{Action, Give, Take, Choose, Offer, Set, If, Show, Start}
use Rattle.syntax.specs.declared.tree.Action.TheVariants.{Stop, Become}
use Rattle.syntax.specs.declared.tree.Expression.{Expression}

-- an action x whose own words are h, and after which s comes
pub after_one : (x s : model.Action) (h : List ℕ) → row_a x ≡ h ++ row_a s → ((w : ℕ) → begins w x ≡ w ∷ begins (w + length h) s) → (o o1 o2 m m1 m2 : List ℕ) → o1 ≡ o ++ h → m1 ≡ m ++ (length o ∷ []) → Wrote o1 o2 m1 m2 s → Wrote o o2 m m2 x
after_one x s h er eb o o1 o2 m m1 m2 p k r =
    let n : length o1 ≡ length o + length h = ap length p ∙ length-append o h in
    let q : m2 ≡ m1 ++ begins (length o + length h) s = subst (λ w. m2 ≡ m1 ++ begins w s) n r.marks in
    record { rows = append_after o o1 o2 h (row_a s) p r.rows ∙ ap (λ z. o ++ z) (sym er); marks = append_after m m1 m2 (length o ∷ []) (begins (length o + length h) s) k q ∙ ap (λ z. m ++ z) (sym (eb (length o))) }

-- and one after which s or t comes
pub after_two : (x s t : model.Action) (h : List ℕ) → row_a x ≡ h ++ (row_a s ++ row_a t) → ((w : ℕ) → begins w x ≡ w ∷ (begins (w + length h) s ++ begins (w + length h + length (row_a s)) t)) → (o o1 o2 o3 m m1 m2 m3 : List ℕ) → o1 ≡ o ++ h → m1 ≡ m ++ (length o ∷ []) → Wrote o1 o2 m1 m2 s → Wrote o2 o3 m2 m3 t → Wrote o o3 m m3 x
after_two x s t h er eb o o1 o2 o3 m m1 m2 m3 p k r u =
    let n : length o1 ≡ length o + length h = ap length p ∙ length-append o h in
    let l : length o2 ≡ length o + length h + length (row_a s) = ap length r.rows ∙ (length-append o1 (row_a s) ∙ ap (λ w. w + length (row_a s)) n) in
    let q : m2 ≡ m1 ++ begins (length o + length h) s = subst (λ w. m2 ≡ m1 ++ begins w s) n r.marks in
    let v : m3 ≡ m2 ++ begins (length o + length h + length (row_a s)) t = subst (λ w. m3 ≡ m2 ++ begins w t) l u.marks in
    record { rows = append_after_two o o1 o2 o3 h (row_a s) (row_a t) p r.rows u.rows ∙ ap (λ z. o ++ z) (sym er); marks = append_after_two m m1 m2 m3 (length o ∷ []) (begins (length o + length h) s) (begins (length o + length h + length (row_a s)) t) k q v ∙ ap (λ z. m ++ z) (sym (eb (length o))) }

pub stop_row : (o o1 m m1 : List ℕ) {a : Action} {i : ℕ} → a ≡ Stop i → o1 ≡ o ++ (0 ∷ []) → m1 ≡ m ++ (length o ∷ []) → Wrote o o1 m m1 (action_of a)
stop_row o o1 m m1 {a} {i} is p k = subst (λ z. Wrote o o1 m m1 (action_of z)) (sym is) (record { rows = p; marks = k })

pub give_row : (o o1 o2 o3 m m1 m2 : List ℕ) {a s' : Action} {i c : ℕ} {e : Expression} {s : Box Action Global} → a ≡ Give i c e s → s' ≡ s.value → o1 ≡ o ++ (1 ∷ c ∷ []) → o2 ≡ o1 ++ row_e (expression_of e) → m1 ≡ m ++ (length o ∷ []) → Wrote o2 o3 m1 m2 (action_of s') → Wrote o o3 m m2 (action_of a)
give_row o o1 o2 o3 m m1 m2 {a} {s'} {i} {c} {e} {s} is d p q k r =
    subst (λ z. Wrote o o3 m m2 (action_of z)) (sym is) (after_one (model.give c (expression_of e) (action_of s.value)) (action_of s.value) (1 ∷ c ∷ row_e (expression_of e)) refl (λ w. refl) o o2 o3 m m1 m2 (append_after o o1 o2 (1 ∷ c ∷ []) (row_e (expression_of e)) p q) k (subst (λ w. Wrote o2 o3 m1 m2 (action_of w)) d r))

pub set_row : (o o1 o2 o3 m m1 m2 : List ℕ) {a s' : Action} {i x : ℕ} {e : Expression} {s : Box Action Global} → a ≡ Set i x e s → s' ≡ s.value → o1 ≡ o ++ (5 ∷ x ∷ []) → o2 ≡ o1 ++ row_e (expression_of e) → m1 ≡ m ++ (length o ∷ []) → Wrote o2 o3 m1 m2 (action_of s') → Wrote o o3 m m2 (action_of a)
set_row o o1 o2 o3 m m1 m2 {a} {s'} {i} {x} {e} {s} is d p q k r =
    subst (λ z. Wrote o o3 m m2 (action_of z)) (sym is) (after_one (model.set x (expression_of e) (action_of s.value)) (action_of s.value) (5 ∷ x ∷ row_e (expression_of e)) refl (λ w. refl) o o2 o3 m m1 m2 (append_after o o1 o2 (5 ∷ x ∷ []) (row_e (expression_of e)) p q) k (subst (λ w. Wrote o2 o3 m1 m2 (action_of w)) d r))

pub show_row : (o o1 o2 o3 m m1 m2 : List ℕ) {a s' : Action} {i : ℕ} {e : Expression} {s : Box Action Global} → a ≡ Show i e s → s' ≡ s.value → o1 ≡ o ++ (7 ∷ []) → o2 ≡ o1 ++ row_e (expression_of e) → m1 ≡ m ++ (length o ∷ []) → Wrote o2 o3 m1 m2 (action_of s') → Wrote o o3 m m2 (action_of a)
show_row o o1 o2 o3 m m1 m2 {a} {s'} {i} {e} {s} is d p q k r =
    subst (λ z. Wrote o o3 m m2 (action_of z)) (sym is) (after_one (model.show (expression_of e) (action_of s.value)) (action_of s.value) (7 ∷ row_e (expression_of e)) refl (λ w. refl) o o2 o3 m m1 m2 (append_after o o1 o2 (7 ∷ []) (row_e (expression_of e)) p q) k (subst (λ w. Wrote o2 o3 m1 m2 (action_of w)) d r))

pub take_row : (o o1 o2 m m1 m2 : List ℕ) {a s' : Action} {i c x : ℕ} {s : Box Action Global} → a ≡ Take i c x s → s' ≡ s.value → o1 ≡ o ++ (2 ∷ c ∷ x ∷ []) → m1 ≡ m ++ (length o ∷ []) → Wrote o1 o2 m1 m2 (action_of s') → Wrote o o2 m m2 (action_of a)
take_row o o1 o2 m m1 m2 {a} {s'} {i} {c} {x} {s} is d p k r =
    subst (λ z. Wrote o o2 m m2 (action_of z)) (sym is) (after_one (model.take c x (action_of s.value)) (action_of s.value) (2 ∷ c ∷ x ∷ []) refl (λ w. refl) o o1 o2 m m1 m2 p k (subst (λ w. Wrote o1 o2 m1 m2 (action_of w)) d r))

pub choose_row : (o o1 o2 m m1 m2 : List ℕ) {a s' : Action} {i c x : ℕ} {s : Box Action Global} → a ≡ Choose i c x s → s' ≡ s.value → o1 ≡ o ++ (3 ∷ c ∷ x ∷ []) → m1 ≡ m ++ (length o ∷ []) → Wrote o1 o2 m1 m2 (action_of s') → Wrote o o2 m m2 (action_of a)
choose_row o o1 o2 m m1 m2 {a} {s'} {i} {c} {x} {s} is d p k r =
    subst (λ z. Wrote o o2 m m2 (action_of z)) (sym is) (after_one (model.choose c x (action_of s.value)) (action_of s.value) (3 ∷ c ∷ x ∷ []) refl (λ w. refl) o o1 o2 m m1 m2 p k (subst (λ w. Wrote o1 o2 m1 m2 (action_of w)) d r))

pub offer_row : (o o1 o2 o3 m m1 m2 m3 : List ℕ) {a s' t' : Action} {i c : ℕ} {s t : Box Action Global} → a ≡ Offer i c s t → s' ≡ s.value → t' ≡ t.value → o1 ≡ o ++ (4 ∷ c ∷ []) → m1 ≡ m ++ (length o ∷ []) → Wrote o1 o2 m1 m2 (action_of s') → Wrote o2 o3 m2 m3 (action_of t') → Wrote o o3 m m3 (action_of a)
offer_row o o1 o2 o3 m m1 m2 m3 {a} {s'} {t'} {i} {c} {s} {t} is d e p k r u =
    subst (λ z. Wrote o o3 m m3 (action_of z)) (sym is) (after_two (model.offer c (action_of s.value) (action_of t.value)) (action_of s.value) (action_of t.value) (4 ∷ c ∷ []) refl (λ w. refl) o o1 o2 o3 m m1 m2 m3 p k (subst (λ w. Wrote o1 o2 m1 m2 (action_of w)) d r) (subst (λ w. Wrote o2 o3 m2 m3 (action_of w)) e u))

pub if_row : (o o1 o2 o3 o4 m m1 m2 m3 : List ℕ) {a s' t' : Action} {i : ℕ} {e : Expression} {s t : Box Action Global} → a ≡ If i e s t → s' ≡ s.value → t' ≡ t.value → o1 ≡ o ++ (6 ∷ []) → o2 ≡ o1 ++ row_e (expression_of e) → m1 ≡ m ++ (length o ∷ []) → Wrote o2 o3 m1 m2 (action_of s') → Wrote o3 o4 m2 m3 (action_of t') → Wrote o o4 m m3 (action_of a)
if_row o o1 o2 o3 o4 m m1 m2 m3 {a} {s'} {t'} {i} {e} {s} {t} is d f p q k r u =
    subst (λ z. Wrote o o4 m m3 (action_of z)) (sym is) (after_two (model.if (expression_of e) (action_of s.value) (action_of t.value)) (action_of s.value) (action_of t.value) (6 ∷ row_e (expression_of e)) refl (λ w. refl) o o2 o3 o4 m m1 m2 m3 (append_after o o1 o2 (6 ∷ []) (row_e (expression_of e)) p q) k (subst (λ w. Wrote o2 o3 m1 m2 (action_of w)) d r) (subst (λ w. Wrote o3 o4 m2 m3 (action_of w)) f u))

-- the words of `start` and `become` but for what comes after
abbrev pub handed : ℕ → ℕ → List ℕ → List Expression → List ℕ
handed tag f cs es = tag ∷ f ∷ length cs ∷ (cs ++ (length es ∷ row_es (expressions_of es)))

-- as many expressions mean as many
pub length_expressions : (es : List Expression) → length (expressions_of es) ≡ length es
length_expressions [] = refl
length_expressions (e ∷ es) = ap suc (length_expressions es)

-- and so they are the words that the model has
pub handed_own : (tag f : ℕ) (cs : List ℕ) (es : List Expression) → handed tag f cs es ≡ tag ∷ f ∷ length cs ∷ (cs ++ (length (expressions_of es) ∷ row_es (expressions_of es)))
handed_own tag f cs es = ap (λ n. tag ∷ f ∷ length cs ∷ (cs ++ (n ∷ row_es (expressions_of es)))) (sym (length_expressions es))

pub own_row : (tag f n : ℕ) (cs ws t : List ℕ) → tag ∷ f ∷ length cs ∷ (cs ++ (n ∷ (ws ++ t))) ≡ (tag ∷ f ∷ length cs ∷ (cs ++ (n ∷ ws))) ++ t
own_row tag f n cs ws t = ap (λ z. tag ∷ f ∷ length cs ∷ z) (sym (append_assoc cs (n ∷ ws) t))

pub start_row : (o o1 o2 m m1 m2 : List ℕ) (cs' : List ℕ) (es' : List Expression) {a s' : Action} {i f : ℕ} {cs : Vec ℕ Global} {es : Vec Expression Global} {s : Box Action Global} → a ≡ Start i f cs es s → cs' ≡ vec_items cs → es' ≡ vec_items es → s' ≡ s.value → o1 ≡ o ++ handed 8 f cs' es' → m1 ≡ m ++ (length o ∷ []) → Wrote o1 o2 m1 m2 (action_of s') → Wrote o o2 m m2 (action_of a)
start_row o o1 o2 m m1 m2 cs' es' {a} {s'} {i} {f} {cs} {es} {s} is x y d p k r =
    let h : o1 ≡ o ++ handed 8 f (vec_items cs) (vec_items es) = subst (λ z. o1 ≡ o ++ handed 8 f z (vec_items es)) x (subst (λ z. o1 ≡ o ++ handed 8 f cs' z) y p) in
    let ms = expressions_of (vec_items es) in
    let own = 8 ∷ f ∷ length (vec_items cs) ∷ (vec_items cs ++ (length ms ∷ row_es ms)) in
    let g : o1 ≡ o ++ own = h ∙ ap (λ z. o ++ z) (handed_own 8 f (vec_items cs) (vec_items es)) in
    subst (λ z. Wrote o o2 m m2 (action_of z)) (sym is) (after_one (model.start f (vec_items cs) ms (action_of s.value)) (action_of s.value) own (own_row 8 f (length ms) (vec_items cs) (row_es ms) (row_a (action_of s.value))) (λ w. refl) o o1 o2 m m1 m2 g k (subst (λ w. Wrote o1 o2 m1 m2 (action_of w)) d r))

pub become_row : (o o1 m m1 : List ℕ) (cs' : List ℕ) (es' : List Expression) {a : Action} {i f : ℕ} {cs : Vec ℕ Global} {es : Vec Expression Global} → a ≡ Become i f cs es → cs' ≡ vec_items cs → es' ≡ vec_items es → o1 ≡ o ++ handed 9 f cs' es' → m1 ≡ m ++ (length o ∷ []) → Wrote o o1 m m1 (action_of a)
become_row o o1 m m1 cs' es' {a} {i} {f} {cs} {es} is x y p k =
    let h : o1 ≡ o ++ handed 9 f (vec_items cs) (vec_items es) = subst (λ z. o1 ≡ o ++ handed 9 f z (vec_items es)) x (subst (λ z. o1 ≡ o ++ handed 9 f cs' z) y p) in
    subst (λ z. Wrote o o1 m m1 (action_of z)) (sym is) (record { rows = h ∙ ap (λ z. o ++ z) (handed_own 9 f (vec_items cs) (vec_items es)); marks = k })
