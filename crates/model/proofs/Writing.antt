-- Writings are prefix-free: what they are of, and where they end, can be read off the words.
use mathlib.Core.Path.{◌≡◌, refl}
use mathlib.Core.List.{List, [], ◌∷◌, ◌++◌, append_assoc}
use Prim.Native.Nat.{ℕ, ◌≤◌}
use native.Mathlib.Omega.{arith}
use lib.ListN.{length}
use Rattle.model.specs.Program.{Point, over, gives, takes, chooses, offers, Expression, num, var, add, sub, mul, less, Action, stop, give, take, choose, offer, set, if, show, start, become, Process, Program}
use Rattle.model.specs.Rows.{row_p, row_ps, row_e, row_es, row_a, row_r, row_rs, row_g}
use Rattle.model.specs.Theorems.{OneProgram}

-- the writing of a, whatever follows it, is that of no other
abbrev pub PrefixFree : {A : Type 0} → (A → List ℕ) → A → Type 0
PrefixFree {A} row a = (b : A) (x y : List ℕ) → row a ++ x ≡ row b ++ y → (a ≡ b) × (x ≡ y)

-- lists of one length
pub list_prefix : {A : Type 0} (cs ds x y : List A) → length cs ≡ length ds → cs ++ x ≡ ds ++ y → (cs ≡ ds) × (x ≡ y)
list_prefix [] [] x y l h = (refl, h)
list_prefix [] (d ∷ ds) x y l h = grind arith
list_prefix (c ∷ cs) [] x y l h = grind arith
list_prefix (c ∷ cs) (d ∷ ds) x y l h =
    let r : (cs ≡ ds) × (x ≡ y) = list_prefix cs ds x y (omega arith) (cc) in
    (cc, r.1)

-- one writing after another
pub pair_prefix : {A B : Type 0} (f : A → List ℕ) (g : B → List ℕ) (a c : A) (b d : B) (x y : List ℕ) → PrefixFree f a → PrefixFree g b →
    (f a ++ g b) ++ x ≡ (f c ++ g d) ++ y → (a ≡ c) × (b ≡ d) × (x ≡ y)
pair_prefix f g a c b d x y p q h =
    let u : (a ≡ c) × (g b ++ x ≡ g d ++ y) = p c (g b ++ x) (g d ++ y) (cc (append_assoc (f a) (g b) x, append_assoc (f c) (g d) y)) in
    let v : (b ≡ d) × (x ≡ y) = q d x y u.1 in
    (u.0, v.0, v.1)

-- which expression begins with which word; and a writing is not empty
pub data ShapeE : ℕ → Expression → Type 0 where
  is_num : (n : ℕ) → ShapeE 0 (num n)
  is_var : (x : ℕ) → ShapeE 1 (var x)
  is_add : (a b : Expression) → ShapeE 2 (add a b)
  is_sub : (a b : Expression) → ShapeE 3 (sub a b)
  is_mul : (a b : Expression) → ShapeE 4 (mul a b)
  is_less : (a b : Expression) → ShapeE 5 (less a b)

pub row_e_front : (e : Expression) → (k : ℕ) × (b : List ℕ) × (row_e e ≡ k ∷ b) × ShapeE k e × (k ≤ 5)
row_e_front (num n) = (0, n ∷ [], refl, is_num n, omega arith)
row_e_front (var x) = (1, x ∷ [], refl, is_var x, omega arith)
row_e_front (add a b) = (2, row_e a ++ row_e b, refl, is_add a b, omega arith)
row_e_front (sub a b) = (3, row_e a ++ row_e b, refl, is_sub a b, omega arith)
row_e_front (mul a b) = (4, row_e a ++ row_e b, refl, is_mul a b, omega arith)
row_e_front (less a b) = (5, row_e a ++ row_e b, refl, is_less a b, omega arith)

pub row_e_shape : (k : ℕ) (t : List ℕ) (e : Expression) (y : List ℕ) → k ∷ t ≡ row_e e ++ y → ShapeE k e
row_e_shape k t e y h = let f = row_e_front e in let q : k ≡ f.0 = cc f.2 in rw q f.3

pub row_e_first : (k : ℕ) (t : List ℕ) (e : Expression) (y : List ℕ) → k ∷ t ≡ row_e e ++ y → k ≤ 5
row_e_first k t e y h = let f = row_e_front e in let q : k ≡ f.0 = cc f.2 in omega arith

pub row_e_some : (e : Expression) (y : List ℕ) → [] ≡ row_e e ++ y → ⊥
row_e_some e y h = let f = row_e_front e in let z : ◌≡◌ {A = ℕ} 0 1 = cc f.2 in omega arith

-- an expression and one that begins with the same word
row_e_num : (n : ℕ) (f : Expression) (x y : List ℕ) → ShapeE 0 f → 0 ∷ n ∷ x ≡ row_e f ++ y → (num n ≡ f) × (x ≡ y)
row_e_num n f x y (is_num m) h = (cc, cc)

row_e_var : (n : ℕ) (f : Expression) (x y : List ℕ) → ShapeE 1 f → 1 ∷ n ∷ x ≡ row_e f ++ y → (var n ≡ f) × (x ≡ y)
row_e_var n f x y (is_var m) h = (cc, cc)

row_e_add : (a b f : Expression) (x y : List ℕ) → PrefixFree row_e a → PrefixFree row_e b → ShapeE 2 f → 2 ∷ ((row_e a ++ row_e b) ++ x) ≡ row_e f ++ y → (add a b ≡ f) × (x ≡ y)
row_e_add a b f x y p q (is_add c d) h = let r = pair_prefix row_e row_e a c b d x y p q (cc) in (cc, r.2)

row_e_sub : (a b f : Expression) (x y : List ℕ) → PrefixFree row_e a → PrefixFree row_e b → ShapeE 3 f → 3 ∷ ((row_e a ++ row_e b) ++ x) ≡ row_e f ++ y → (sub a b ≡ f) × (x ≡ y)
row_e_sub a b f x y p q (is_sub c d) h = let r = pair_prefix row_e row_e a c b d x y p q (cc) in (cc, r.2)

row_e_mul : (a b f : Expression) (x y : List ℕ) → PrefixFree row_e a → PrefixFree row_e b → ShapeE 4 f → 4 ∷ ((row_e a ++ row_e b) ++ x) ≡ row_e f ++ y → (mul a b ≡ f) × (x ≡ y)
row_e_mul a b f x y p q (is_mul c d) h = let r = pair_prefix row_e row_e a c b d x y p q (cc) in (cc, r.2)

row_e_less : (a b f : Expression) (x y : List ℕ) → PrefixFree row_e a → PrefixFree row_e b → ShapeE 5 f → 5 ∷ ((row_e a ++ row_e b) ++ x) ≡ row_e f ++ y → (less a b ≡ f) × (x ≡ y)
row_e_less a b f x y p q (is_less c d) h = let r = pair_prefix row_e row_e a c b d x y p q (cc) in (cc, r.2)

pub row_e_prefix : (e f : Expression) (x y : List ℕ) → row_e e ++ x ≡ row_e f ++ y → (e ≡ f) × (x ≡ y)
row_e_prefix (num n) f x y h = row_e_num n f x y (row_e_shape 0 (n ∷ x) f y h) h
row_e_prefix (var n) f x y h = row_e_var n f x y (row_e_shape 1 (n ∷ x) f y h) h
row_e_prefix (add a b) f x y h = row_e_add a b f x y (row_e_prefix a) (row_e_prefix b) (row_e_shape 2 ((row_e a ++ row_e b) ++ x) f y h) h
row_e_prefix (sub a b) f x y h = row_e_sub a b f x y (row_e_prefix a) (row_e_prefix b) (row_e_shape 3 ((row_e a ++ row_e b) ++ x) f y h) h
row_e_prefix (mul a b) f x y h = row_e_mul a b f x y (row_e_prefix a) (row_e_prefix b) (row_e_shape 4 ((row_e a ++ row_e b) ++ x) f y h) h
row_e_prefix (less a b) f x y h = row_e_less a b f x y (row_e_prefix a) (row_e_prefix b) (row_e_shape 5 ((row_e a ++ row_e b) ++ x) f y h) h

-- equally many writings one after another
rows_prefix : {A : Type 0} (row : A → List ℕ) (rows : List A → List ℕ) → rows [] ≡ [] → ((a : A) (l : List A) → rows (a ∷ l) ≡ row a ++ rows l) → ((a : A) → PrefixFree row a) →
    (l m : List A) (x y : List ℕ) → length l ≡ length m → rows l ++ x ≡ rows m ++ y → (l ≡ m) × (x ≡ y)
rows_prefix row rows n c p [] [] x y q h = (refl, cc)
rows_prefix row rows n c p [] (b ∷ m) x y q h = grind arith
rows_prefix row rows n c p (a ∷ l) [] x y q h = grind arith
rows_prefix row rows n c p (a ∷ l) (b ∷ m) x y q h =
    let u : (a ≡ b) × (rows l ++ x ≡ rows m ++ y) = p a b (rows l ++ x) (rows m ++ y)
    (cc (c a l, c b m, append_assoc (row a) (rows l) x, append_assoc (row b) (rows m) y)) in
    let v : (l ≡ m) × (x ≡ y) = rows_prefix row rows n c p l m x y (omega arith) u.1 in
    (cc, v.1)

-- writings that are not empty, one after another to the end
rows_prefix_free : {A : Type 0} (row : A → List ℕ) (rows : List A → List ℕ) → rows [] ≡ [] → ((a : A) (l : List A) → rows (a ∷ l) ≡ row a ++ rows l) → ((a : A) → PrefixFree row a) →
    ((a : A) → (k : ℕ) × (b : List ℕ) × (row a ≡ k ∷ b)) → (l m : List A) → rows l ≡ rows m → l ≡ m
rows_prefix_free row rows n c p w [] [] h = refl
rows_prefix_free row rows n c p w [] (b ∷ m) h = let u = (w b).2 in cc (c b m, n)
rows_prefix_free row rows n c p w (a ∷ l) [] h = let u = (w a).2 in cc (c a l, n)
rows_prefix_free row rows n c p w (a ∷ l) (b ∷ m) h =
    let u : (a ≡ b) × (rows l ≡ rows m) = p a b (rows l) (rows m) (cc (c a l, c b m)) in
    let v : l ≡ m = rows_prefix_free row rows n c p w l m u.1 in
    cc

pub row_es_prefix : (es fs : List Expression) (x y : List ℕ) → length es ≡ length fs → row_es es ++ x ≡ row_es fs ++ y → (es ≡ fs) × (x ≡ y)
row_es_prefix = rows_prefix row_e row_es refl (λ e es. refl) row_e_prefix

-- which action begins with which word; and a writing is not empty
pub data ShapeA : ℕ → Action → Type 0 where
  is_stop : ShapeA 0 stop
  is_give : (c : ℕ) (e : Expression) (s : Action) → ShapeA 1 (give c e s)
  is_take : (c x : ℕ) (s : Action) → ShapeA 2 (take c x s)
  is_choose : (c k : ℕ) (s : Action) → ShapeA 3 (choose c k s)
  is_offer : (c : ℕ) (s t : Action) → ShapeA 4 (offer c s t)
  is_set : (x : ℕ) (e : Expression) (s : Action) → ShapeA 5 (set x e s)
  is_if : (e : Expression) (s t : Action) → ShapeA 6 (if e s t)
  is_show : (e : Expression) (s : Action) → ShapeA 7 (show e s)
  is_start : (f : ℕ) (cs : List ℕ) (es : List Expression) (s : Action) → ShapeA 8 (start f cs es s)
  is_become : (f : ℕ) (cs : List ℕ) (es : List Expression) → ShapeA 9 (become f cs es)

pub row_a_front : (t : Action) → (k : ℕ) × (b : List ℕ) × (row_a t ≡ k ∷ b) × ShapeA k t × (k ≤ 9)
row_a_front stop = (0, [], refl, is_stop, omega arith)
row_a_front (give c e s) = (1, c ∷ (row_e e ++ row_a s), refl, is_give c e s, omega arith)
row_a_front (take c x s) = (2, c ∷ x ∷ row_a s, refl, is_take c x s, omega arith)
row_a_front (choose c k s) = (3, c ∷ k ∷ row_a s, refl, is_choose c k s, omega arith)
row_a_front (offer c s t) = (4, c ∷ (row_a s ++ row_a t), refl, is_offer c s t, omega arith)
row_a_front (set x e s) = (5, x ∷ (row_e e ++ row_a s), refl, is_set x e s, omega arith)
row_a_front (if e s t) = (6, row_e e ++ (row_a s ++ row_a t), refl, is_if e s t, omega arith)
row_a_front (show e s) = (7, row_e e ++ row_a s, refl, is_show e s, omega arith)
row_a_front (start f cs es s) = (8, f ∷ length cs ∷ (cs ++ (length es ∷ (row_es es ++ row_a s))), refl, is_start f cs es s, omega arith)
row_a_front (become f cs es) = (9, f ∷ length cs ∷ (cs ++ (length es ∷ row_es es)), refl, is_become f cs es, omega arith)

pub row_a_shape : (k : ℕ) (b : List ℕ) (t : Action) (y : List ℕ) → k ∷ b ≡ row_a t ++ y → ShapeA k t
row_a_shape k b t y h = let f = row_a_front t in let e : k ≡ f.0 = cc f.2 in rw e f.3

pub row_a_first : (k : ℕ) (b : List ℕ) (t : Action) (y : List ℕ) → k ∷ b ≡ row_a t ++ y → k ≤ 9
row_a_first k b t y h = let f = row_a_front t in let q : k ≡ f.0 = cc f.2 in omega arith

pub row_a_some : (t : Action) (y : List ℕ) → [] ≡ row_a t ++ y → ⊥
row_a_some t y h = let f = row_a_front t in let z : ◌≡◌ {A = ℕ} 0 1 = cc f.2 in omega arith

-- what is handed on, with its counts
pub handed_prefix : (cs ds : List ℕ) (es fs : List Expression) (x y : List ℕ) → length cs ≡ length ds → cs ++ (length es ∷ (row_es es ++ x)) ≡ ds ++ (length fs ∷ (row_es fs ++ y)) →
    (cs ≡ ds) × (es ≡ fs) × (x ≡ y)
handed_prefix cs ds es fs x y l h =
    let u : (cs ≡ ds) × (length es ∷ (row_es es ++ x) ≡ length fs ∷ (row_es fs ++ y)) = list_prefix cs ds (length es ∷ (row_es es ++ x)) (length fs ∷ (row_es fs ++ y)) l h in
    let v : (es ≡ fs) × (x ≡ y) = row_es_prefix es fs x y (cc) (cc) in
    (u.0, v.0, v.1)

-- an action and one that begins with the same word
row_a_stop : (t : Action) (x y : List ℕ) → ShapeA 0 t → 0 ∷ x ≡ row_a t ++ y → (stop ≡ t) × (x ≡ y)
row_a_stop t x y is_stop h = (refl, cc)

row_a_give : (c : ℕ) (e : Expression) (s t : Action) (x y : List ℕ) → PrefixFree row_a s → ShapeA 1 t → row_a (give c e s) ++ x ≡ row_a t ++ y → (give c e s ≡ t) × (x ≡ y)
row_a_give c e s t x y p (is_give d f u) h = let r = pair_prefix row_e row_a e f s u x y (row_e_prefix e) p (cc) in (cc, r.2)

row_a_take : (c v : ℕ) (s t : Action) (x y : List ℕ) → PrefixFree row_a s → ShapeA 2 t → row_a (take c v s) ++ x ≡ row_a t ++ y → (take c v s ≡ t) × (x ≡ y)
row_a_take c v s t x y p (is_take d w u) h = let r = p u x y (cc) in (cc, r.1)

row_a_choose : (c k : ℕ) (s t : Action) (x y : List ℕ) → PrefixFree row_a s → ShapeA 3 t → row_a (choose c k s) ++ x ≡ row_a t ++ y → (choose c k s ≡ t) × (x ≡ y)
row_a_choose c k s t x y p (is_choose d m u) h = let r = p u x y (cc) in (cc, r.1)

row_a_offer : (c : ℕ) (s s' t : Action) (x y : List ℕ) → PrefixFree row_a s → PrefixFree row_a s' → ShapeA 4 t → row_a (offer c s s') ++ x ≡ row_a t ++ y → (offer c s s' ≡ t) × (x ≡ y)
row_a_offer c s s' t x y p q (is_offer d u u') h = let r = pair_prefix row_a row_a s u s' u' x y p q (cc) in (cc, r.2)

row_a_set : (v : ℕ) (e : Expression) (s t : Action) (x y : List ℕ) → PrefixFree row_a s → ShapeA 5 t → row_a (set v e s) ++ x ≡ row_a t ++ y → (set v e s ≡ t) × (x ≡ y)
row_a_set v e s t x y p (is_set w f u) h = let r = pair_prefix row_e row_a e f s u x y (row_e_prefix e) p (cc) in (cc, r.2)

row_a_if : (e : Expression) (s s' t : Action) (x y : List ℕ) → PrefixFree row_a s → PrefixFree row_a s' → ShapeA 6 t → row_a (if e s s') ++ x ≡ row_a t ++ y → (if e s s' ≡ t) × (x ≡ y)
row_a_if e s s' t x y p q (is_if f u u') h =
    let z : (e ≡ f) × ((row_a s ++ row_a s') ++ x ≡ (row_a u ++ row_a u') ++ y) = row_e_prefix e f ((row_a s ++ row_a s') ++ x) ((row_a u ++ row_a u') ++ y)
    (cc (append_assoc (row_e e) (row_a s ++ row_a s') x, append_assoc (row_e f) (row_a u ++ row_a u') y)) in
    let r = pair_prefix row_a row_a s u s' u' x y p q z.1 in (cc, r.2)

row_a_show : (e : Expression) (s t : Action) (x y : List ℕ) → PrefixFree row_a s → ShapeA 7 t → row_a (show e s) ++ x ≡ row_a t ++ y → (show e s ≡ t) × (x ≡ y)
row_a_show e s t x y p (is_show f u) h = let r = pair_prefix row_e row_a e f s u x y (row_e_prefix e) p (cc) in (cc, r.2)

-- what follows the word `become` or `start`, its counts and lists, read from the left
pub start_row : (f : ℕ) (cs : List ℕ) (es : List Expression) (s : Action) (x : List ℕ) → row_a (start f cs es s) ++ x ≡ 8 ∷ f ∷ length cs ∷ (cs ++ (length es ∷ (row_es es ++ (row_a s ++ x))))
start_row f cs es s x = simp append_assoc

pub become_row : (f : ℕ) (cs : List ℕ) (es : List Expression) (x : List ℕ) → row_a (become f cs es) ++ x ≡ 9 ∷ f ∷ length cs ∷ (cs ++ (length es ∷ (row_es es ++ x)))
become_row f cs es x = simp append_assoc

row_a_start : (f : ℕ) (cs : List ℕ) (es : List Expression) (s t : Action) (x y : List ℕ) → PrefixFree row_a s → ShapeA 8 t → row_a (start f cs es s) ++ x ≡ row_a t ++ y → (start f cs es s ≡ t) × (x ≡ y)
row_a_start f cs es s t x y p (is_start g ds fs u) h =
    let a = start_row f cs es s x in let b = start_row g ds fs u y in
    let z = handed_prefix cs ds es fs (row_a s ++ x) (row_a u ++ y) (cc) (cc) in
    let r = p u x y z.2 in (cc, r.1)

row_a_become : (f : ℕ) (cs : List ℕ) (es : List Expression) (t : Action) (x y : List ℕ) → ShapeA 9 t → row_a (become f cs es) ++ x ≡ row_a t ++ y → (become f cs es ≡ t) × (x ≡ y)
row_a_become f cs es t x y (is_become g ds fs) h =
    let a = become_row f cs es x in let b = become_row g ds fs y in
    let z = handed_prefix cs ds es fs x y (cc) (cc) in (cc, z.2)

pub row_a_prefix : (s t : Action) (x y : List ℕ) → row_a s ++ x ≡ row_a t ++ y → (s ≡ t) × (x ≡ y)
row_a_prefix stop t x y h = row_a_stop t x y (row_a_shape 0 _ t y h) h
row_a_prefix (give c e s) t x y h = row_a_give c e s t x y (row_a_prefix s) (row_a_shape 1 _ t y h) h
row_a_prefix (take c v s) t x y h = row_a_take c v s t x y (row_a_prefix s) (row_a_shape 2 _ t y h) h
row_a_prefix (choose c k s) t x y h = row_a_choose c k s t x y (row_a_prefix s) (row_a_shape 3 _ t y h) h
row_a_prefix (offer c s s') t x y h = row_a_offer c s s' t x y (row_a_prefix s) (row_a_prefix s') (row_a_shape 4 _ t y h) h
row_a_prefix (set v e s) t x y h = row_a_set v e s t x y (row_a_prefix s) (row_a_shape 5 _ t y h) h
row_a_prefix (if e s s') t x y h = row_a_if e s s' t x y (row_a_prefix s) (row_a_prefix s') (row_a_shape 6 _ t y h) h
row_a_prefix (show e s) t x y h = row_a_show e s t x y (row_a_prefix s) (row_a_shape 7 _ t y h) h
row_a_prefix (start f cs es s) t x y h = row_a_start f cs es s t x y (row_a_prefix s) (row_a_shape 8 _ t y h) h
row_a_prefix (become f cs es) t x y h = row_a_become f cs es t x y (row_a_shape 9 _ t y h) h

-- which point begins with which word; and a writing is not empty
pub data ShapeP : ℕ → Point → Type 0 where
  is_over : ShapeP 0 over
  is_gives : (n : ℕ) → ShapeP 1 (gives n)
  is_takes : (n : ℕ) → ShapeP 2 (takes n)
  is_chooses : (n m : ℕ) → ShapeP 3 (chooses n m)
  is_offers : (n m : ℕ) → ShapeP 4 (offers n m)

pub row_p_front : (p : Point) → (k : ℕ) × (b : List ℕ) × (row_p p ≡ k ∷ b) × ShapeP k p × (k ≤ 4)
row_p_front over = (0, [], refl, is_over, omega arith)
row_p_front (gives n) = (1, n ∷ [], refl, is_gives n, omega arith)
row_p_front (takes n) = (2, n ∷ [], refl, is_takes n, omega arith)
row_p_front (chooses n m) = (3, n ∷ m ∷ [], refl, is_chooses n m, omega arith)
row_p_front (offers n m) = (4, n ∷ m ∷ [], refl, is_offers n m, omega arith)

pub row_p_shape : (k : ℕ) (b : List ℕ) (p : Point) (y : List ℕ) → k ∷ b ≡ row_p p ++ y → ShapeP k p
row_p_shape k b p y h = let f = row_p_front p in let e : k ≡ f.0 = cc f.2 in rw e f.3

pub row_p_first : (k : ℕ) (b : List ℕ) (p : Point) (y : List ℕ) → k ∷ b ≡ row_p p ++ y → k ≤ 4
row_p_first k b p y h = let f = row_p_front p in let q : k ≡ f.0 = cc f.2 in omega arith

pub row_p_some : (p : Point) (y : List ℕ) → [] ≡ row_p p ++ y → ⊥
row_p_some p y h = let f = row_p_front p in let z : ◌≡◌ {A = ℕ} 0 1 = cc f.2 in omega arith

pub row_p_prefix : (p q : Point) (x y : List ℕ) → row_p p ++ x ≡ row_p q ++ y → (p ≡ q) × (x ≡ y)
row_p_prefix p q x y h = grind arith

pub row_ps_prefix : (ps qs : List Point) (x y : List ℕ) → length ps ≡ length qs → row_ps ps ++ x ≡ row_ps qs ++ y → (ps ≡ qs) × (x ≡ y)
row_ps_prefix = rows_prefix row_p row_ps refl (λ p ps. refl) row_p_prefix

-- records with equal fields
pub process_path : (p q : Process) → p.talks ≡ q.talks → p.nums ≡ q.nums → p.vars ≡ q.vars → p.body ≡ q.body → p ≡ q
process_path p q a b c d = λ i. record { talks = a i; nums = b i; vars = c i; body = d i }

pub program_path : (g h : Program) → g.points ≡ h.points → g.other ≡ h.other → g.procs ≡ h.procs → g ≡ h
program_path g h a b c = λ i. record { points = a i; other = b i; procs = c i }

-- the writing of a process, read from the left
pub row_r_row : (p : Process) (x : List ℕ) → row_r p ++ x ≡ length p.talks ∷ (p.talks ++ (p.nums ∷ p.vars ∷ (row_a p.body ++ x)))
row_r_row p x = simp append_assoc

pub row_r_prefix : (p q : Process) (x y : List ℕ) → row_r p ++ x ≡ row_r q ++ y → (p ≡ q) × (x ≡ y)
row_r_prefix p q x y h =
    let a = row_r_row p x in let b = row_r_row q y in
    let z = list_prefix p.talks q.talks (p.nums ∷ p.vars ∷ (row_a p.body ++ x)) (q.nums ∷ q.vars ∷ (row_a q.body ++ y)) (cc) (cc) in
    let r = row_a_prefix p.body q.body x y (cc) in
    (process_path p q z.0 (cc) (cc) r.0, r.1)

pub row_r_front : (p : Process) → (k : ℕ) × (b : List ℕ) × (row_r p ≡ k ∷ b)
row_r_front p = (length p.talks, p.talks ++ (p.nums ∷ p.vars ∷ row_a p.body), refl)

pub row_rs_prefix : (ps qs : List Process) (x y : List ℕ) → length ps ≡ length qs → row_rs ps ++ x ≡ row_rs qs ++ y → (ps ≡ qs) × (x ≡ y)
row_rs_prefix = rows_prefix row_r row_rs refl (λ p ps. refl) row_r_prefix

pub row_rs_prefix_free : (ps qs : List Process) → row_rs ps ≡ row_rs qs → ps ≡ qs
row_rs_prefix_free = rows_prefix_free row_r row_rs refl (λ p ps. refl) row_r_prefix row_r_front

pub one_program : OneProgram
one_program s g h p q =
    let e : row_g g ≡ row_g h = cc in
    let a = row_ps_prefix g.points h.points (g.other ++ row_rs g.procs) (h.other ++ row_rs h.procs) (cc) (cc) in
    let b = list_prefix g.other h.other (row_rs g.procs) (row_rs h.procs) (cc) a.1 in
    let c = row_rs_prefix_free g.procs h.procs b.1 in
    program_path g h a.0 b.0 c
