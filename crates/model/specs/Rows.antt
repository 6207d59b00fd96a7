-- Programs as rows of 32-bit words, and the limits of a program.
use Rattle.std.specs.Prelude.{◌≡◌, List, [], ◌∷◌, ◌++◌, ℕ, suc, ◌+◌, ◌≤◌, max, length}
use Rattle.model.specs.Program.{Point, over, gives, takes, chooses, offers, Expression, num, var, add, sub, mul, less, Action, stop, give, take, choose, offer, set, if, show, start, become, Process, Program}

-- the writing of a point, and of several
abbrev pub row_p : Point → List ℕ
row_p over = 0 ∷ []
row_p (gives n) = 1 ∷ n ∷ []
row_p (takes n) = 2 ∷ n ∷ []
row_p (chooses n m) = 3 ∷ n ∷ m ∷ []
row_p (offers n m) = 4 ∷ n ∷ m ∷ []

abbrev pub row_ps : List Point → List ℕ
row_ps [] = []
row_ps (p ∷ ps) = row_p p ++ row_ps ps

-- the writing of an expression, and of several
abbrev pub row_e : Expression → List ℕ
row_e (num n) = 0 ∷ n ∷ []
row_e (var x) = 1 ∷ x ∷ []
row_e (add a b) = 2 ∷ (row_e a ++ row_e b)
row_e (sub a b) = 3 ∷ (row_e a ++ row_e b)
row_e (mul a b) = 4 ∷ (row_e a ++ row_e b)
row_e (less a b) = 5 ∷ (row_e a ++ row_e b)

abbrev pub row_es : List Expression → List ℕ
row_es [] = []
row_es (e ∷ es) = row_e e ++ row_es es

-- the writing of what a process does
abbrev pub row_a : Action → List ℕ
row_a stop = 0 ∷ []
row_a (give c e s) = 1 ∷ c ∷ (row_e e ++ row_a s)
row_a (take c x s) = 2 ∷ c ∷ x ∷ row_a s
row_a (choose c k s) = 3 ∷ c ∷ k ∷ row_a s
row_a (offer c s t) = 4 ∷ c ∷ (row_a s ++ row_a t)
row_a (set x e s) = 5 ∷ x ∷ (row_e e ++ row_a s)
row_a (if e s t) = 6 ∷ (row_e e ++ (row_a s ++ row_a t))
row_a (show e s) = 7 ∷ (row_e e ++ row_a s)
row_a (start f cs es s) = 8 ∷ f ∷ length cs ∷ (cs ++ (length es ∷ (row_es es ++ row_a s)))
row_a (become f cs es) = 9 ∷ f ∷ length cs ∷ (cs ++ (length es ∷ row_es es))

-- the writing of a process, of several, and of a program
abbrev pub row_r : Process → List ℕ
row_r p = length p.talks ∷ (p.talks ++ (p.nums ∷ p.vars ∷ row_a p.body))

abbrev pub row_rs : List Process → List ℕ
row_rs [] = []
row_rs (p ∷ ps) = row_r p ++ row_rs ps

abbrev pub row_g : Program → List ℕ
row_g g = length g.points ∷ (row_ps g.points ++ (g.other ++ row_rs g.procs))

-- how deep expressions, and what stands in the two ways of offer and if, are nested; what comes one after the
-- other is not nested
abbrev pub deep_e : Expression → ℕ
deep_e (num n) = 1
deep_e (var x) = 1
deep_e (add a b) = suc (max (deep_e a) (deep_e b))
deep_e (sub a b) = suc (max (deep_e a) (deep_e b))
deep_e (mul a b) = suc (max (deep_e a) (deep_e b))
deep_e (less a b) = suc (max (deep_e a) (deep_e b))

abbrev pub deep_es : List Expression → ℕ
deep_es [] = 0
deep_es (e ∷ es) = max (deep_e e) (deep_es es)

abbrev pub deep : Action → ℕ
deep stop = 0
deep (give c e s) = max (deep_e e) (deep s)
deep (take c x s) = deep s
deep (choose c k s) = deep s
deep (offer c s t) = suc (max (deep s) (deep t))
deep (set x e s) = max (deep_e e) (deep s)
deep (if e s t) = max (deep_e e) (suc (max (deep s) (deep t)))
deep (show e s) = max (deep_e e) (deep s)
deep (start f cs es s) = max (deep_es es) (deep s)
deep (become f cs es) = deep_es es

-- how many conversations a process gets by starting others, along the worst way
abbrev pub new : Action → ℕ
new stop = 0
new (give c e s) = new s
new (take c x s) = new s
new (choose c k s) = new s
new (offer c s t) = max (new s) (new t)
new (set x e s) = new s
new (if e s t) = max (new s) (new t)
new (show e s) = new s
new (start f cs es s) = suc (new s)
new (become f cs es) = 0

-- the limits of a process: 16 conversations with those it gets on the way, 16 variables, no more numbers handed
-- in than variables, nesting of 256
pub record Fine (p : Process) : Type 0 where
  pub talks : length p.talks + new p.body ≤ 16
  pub vars : p.vars ≤ 16
  pub nums : p.nums ≤ p.vars
  pub nested : deep p.body ≤ 256

abbrev pub AllFine : List Process → Type 0
AllFine [] = Unit {0}
AllFine (p ∷ ps) = Fine p × AllFine ps

-- these words are the writing of this program, which is within the limits: 16,384 words, 256 points, each with
-- its other side's, and 64 processes
pub record Reads (s : List ℕ) (g : Program) : Type 0 where
  pub rows : row_g g ≡ s
  pub words : length s ≤ 16384
  pub points : length g.points ≤ 256
  pub sides : length g.other ≡ length g.points
  pub procs : length g.procs ≤ 64
  pub fine : AllFine g.procs
