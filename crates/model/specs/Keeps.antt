-- Which programs keep to their conversations: the type discipline, as a function that computes.
--
-- A process is gone through with each of its conversations at a point. An action is allowed where the point says
-- so, and moves the conversation on; `offer` and `if` are gone through both ways.
use Rattle.std.specs.Prelude.{Bool, true, false, ◌&&◌, not, cond, List, [], ◌∷◌, ◌++◌, ℕ, suc, length, eqb, ltb}
use Rattle.std.proofs.Math.Option.{Option, some, none}
use Rattle.model.specs.Program.{nth, or, put, Point, over, gives, takes, chooses, offers, Expression, num, var, add, sub, mul, less, Action, stop, give, take, choose, offer, set, if, show, start, become, Process, Program}

-- a test of what an option holds, which fails where it holds nothing
abbrev pub then : {A : Type 0} → Option A → (A → Bool) → Bool
then none k = false
then (some x) k = k x

-- an option holds this number
abbrev pub is : Option ℕ → ℕ → Bool
is none n = false
is (some m) n = eqb m n

-- the points at which a choice goes on
pub data Ways : Type 0 where
  ways : ℕ → ℕ → Ways

-- the point at which way k goes on: the first for 0, else the second
abbrev pub way : ℕ → Ways → ℕ
way k (ways m o) = cond (eqb k 0) m o

-- what a point says: that the conversation is over; or where it goes on after a give, a take, a choice, an offer
abbrev pub is_over : Point → Bool
is_over over = true
is_over (gives n) = false
is_over (takes n) = false
is_over (chooses n m) = false
is_over (offers n m) = false

abbrev pub after_give : Point → Option ℕ
after_give over = none
after_give (gives n) = some n
after_give (takes n) = none
after_give (chooses n m) = none
after_give (offers n m) = none

abbrev pub after_take : Point → Option ℕ
after_take over = none
after_take (gives n) = none
after_take (takes n) = some n
after_take (chooses n m) = none
after_take (offers n m) = none

abbrev pub after_choose : Point → Option Ways
after_choose over = none
after_choose (gives n) = none
after_choose (takes n) = none
after_choose (chooses n m) = some (ways n m)
after_choose (offers n m) = none

abbrev pub after_offer : Point → Option Ways
after_offer over = none
after_offer (gives n) = none
after_offer (takes n) = none
after_offer (chooses n m) = none
after_offer (offers n m) = some (ways n m)

-- at which point each conversation of a process is; none where it was handed on
abbrev pub At : Type 0
At = List (Option ℕ)

-- conversation c is at a point that passes a test
abbrev pub at_point : Program → At → ℕ → (Point → Bool) → Bool
at_point g a c k = then (or none (nth a c)) (λ t. then (nth g.points t) k)

-- conversation c is where `next` allows an action: go on with it at the next point
abbrev pub moves : {A : Type 0} → Program → At → ℕ → (Point → Option A) → (A → Bool) → Bool
moves g a c next k = at_point g a c (λ p. then (next p) k)

-- every conversation that is left is over
abbrev pub all_over : Program → At → Bool
all_over g [] = true
all_over g (none ∷ a) = all_over g a
all_over g (some t ∷ a) = then (nth g.points t) is_over && all_over g a

-- the variables of an expression are among n
abbrev pub ok : ℕ → Expression → Bool
ok n (num k) = true
ok n (var x) = ltb x n
ok n (add a b) = ok n a && ok n b
ok n (sub a b) = ok n a && ok n b
ok n (mul a b) = ok n a && ok n b
ok n (less a b) = ok n a && ok n b

abbrev pub oks : ℕ → List Expression → Bool
oks n [] = true
oks n (e ∷ es) = ok n e && oks n es

-- conversations cs are at the points ts, each once: what is left after handing them on
abbrev pub hands : At → List ℕ → List ℕ → Option At
hands a [] [] = some a
hands a [] (t ∷ ts) = none
hands a (c ∷ cs) [] = none
hands a (c ∷ cs) (t ∷ ts) = cond (is (or none (nth a c)) t) (hands (put a c none) cs ts) none

-- the points of a started process: its first conversation is the new line, the rest are handed to it
abbrev pub first : List ℕ → Option ℕ
first [] = none
first (t ∷ ts) = some t

abbrev pub rest : List ℕ → List ℕ
rest [] = []
rest (t ∷ ts) = ts

-- two tests come out alike
abbrev pub alike : Bool → Bool → Bool
alike true b = b
alike false b = not b

-- Doing this with n variables and conversations at these points keeps to the conversations; r says whether this
-- is process 0, which alone shows, becomes only itself, and is become by no other.
abbrev pub keeps : Program → ℕ → Bool → Action → At → Bool
keeps g n r stop a = all_over g a
keeps g n r (give c e s) a = ok n e && moves g a c after_give (λ m. keeps g n r s (put a c (some m)))
keeps g n r (take c x s) a = ltb x n && moves g a c after_take (λ m. keeps g n r s (put a c (some m)))
keeps g n r (choose c k s) a = ltb k 2 && moves g a c after_choose (λ w. keeps g n r s (put a c (some (way k w))))
keeps g n r (offer c s t) a = moves g a c after_offer (λ w. keeps g n r s (put a c (some (way 0 w))) && keeps g n r t (put a c (some (way 1 w))))
keeps g n r (set x e s) a = ltb x n && (ok n e && keeps g n r s a)
keeps g n r (if e s t) a = ok n e && (keeps g n r s a && keeps g n r t a)
keeps g n r (show e s) a = r && (ok n e && keeps g n r s a)
keeps g n r (start f cs es s) a = oks n es && then (nth g.procs f) (λ p. eqb (length es) p.nums && then (hands a cs (rest p.talks)) (λ b.
    then (first p.talks) (λ t. then (nth g.other t) (λ u. keeps g n r s (b ++ (some u ∷ []))))))
keeps g n r (become f cs es) a = oks n es && then (nth g.procs f) (λ p. eqb (length es) p.nums && (alike r (eqb f 0) && then (hands a cs p.talks) (λ b. all_over g b)))

-- a process begins with its conversations at their points
abbrev pub begins : List ℕ → At
begins [] = []
begins (t ∷ ts) = some t ∷ begins ts

-- every process from number i on keeps
abbrev pub all_keep : Program → ℕ → List Process → Bool
all_keep g i [] = true
all_keep g i (p ∷ ps) = keeps g p.vars (eqb i 0) p.body (begins p.talks) && all_keep g (suc i) ps

-- points i and j are each other's other side
abbrev pub mutual_sides : Program → ℕ → ℕ → Bool
mutual_sides g i j = is (nth g.other i) j && is (nth g.other j) i

abbrev pub mutual_ways : Program → ℕ → ℕ → Ways → Bool
mutual_ways g n m (ways o q) = mutual_sides g n o && mutual_sides g m q

-- what one side says fits what the other says: over and over, gives and takes, chooses and offers, and the next
-- points are each other's other side
abbrev pub faces : Program → Point → Point → Bool
faces g over p = is_over p
faces g (gives n) p = then (after_take p) (mutual_sides g n)
faces g (takes n) p = then (after_give p) (mutual_sides g n)
faces g (chooses n m) p = then (after_offer p) (mutual_ways g n m)
faces g (offers n m) p = then (after_choose p) (mutual_ways g n m)

-- every point from number i on has another side that fits, whichever way one looks
abbrev pub points_fit : Program → ℕ → List Point → Bool
points_fit g i [] = true
points_fit g i (p ∷ ps) = then (nth g.other i) (λ j. mutual_sides g i j && then (nth g.points j) (faces g p)) && points_fit g (suc i) ps

-- process 0 is there, and begins without conversations and numbers
abbrev pub root : Program → Bool
root g = then (nth g.procs 0) (λ p. eqb (length p.talks) 0 && eqb p.nums 0)

-- a program keeps to its conversations
abbrev pub kept : Program → Bool
kept g = root g && (points_fit g 0 g.points && all_keep g 0 g.procs)
