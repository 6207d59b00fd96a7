-- Programs: protocol points, and processes that hold conversations at such points.
use Rattle.std.specs.Prelude.{Bool, true, false, List, [], ◌∷◌, ℕ, zero, suc, ◌+◌, ◌-◌, ◌*◌, ◌%◌, ◌^◌, ltb}
use Rattle.std.proofs.Math.Option.{Option, some, none}

-- the element at a place of a list, if there is one
abbrev pub nth : {A : Type 0} → List A → ℕ → Option A
nth [] n = none
nth (x ∷ xs) zero = some x
nth (x ∷ xs) (suc n) = nth xs n

-- the list with another element at a place; as it was where there is no such place
abbrev pub put : {A : Type 0} → List A → ℕ → A → List A
put [] n v = []
put (x ∷ xs) zero v = v ∷ xs
put (x ∷ xs) (suc n) v = x ∷ put xs n v

-- what an option holds, or else a default
abbrev pub or : {A : Type 0} → A → Option A → A
or a none = a
or a (some b) = b

-- A protocol point: what comes next in a conversation, as one side sees it. It is over; a number goes out, or
-- comes in; this side chooses one of two ways, or offers them. The numbers are the points at which it goes on.
pub data Point : Type 0 where
  over : Point
  gives : ℕ → Point
  takes : ℕ → Point
  chooses : ℕ → ℕ → Point
  offers : ℕ → ℕ → Point

-- Expressions over a process's number variables.
pub data Expression : Type 0 where
  num : ℕ → Expression
  var : ℕ → Expression
  add : Expression → Expression → Expression
  sub : Expression → Expression → Expression
  mul : Expression → Expression → Expression
  less : Expression → Expression → Expression

-- What a process does. A conversation is named by its number in the process, a process by its number in the program.
pub data Action : Type 0 where
  stop : Action
  give : ℕ → Expression → Action → Action
  take : ℕ → ℕ → Action → Action
  choose : ℕ → ℕ → Action → Action
  offer : ℕ → Action → Action → Action
  set : ℕ → Expression → Action → Action
  if : Expression → Action → Action → Action
  show : Expression → Action → Action
  start : ℕ → List ℕ → List Expression → Action → Action
  become : ℕ → List ℕ → List Expression → Action

-- A process as it is written: the points at which its conversations begin, how many numbers are handed in, how
-- many variables it has (those handed in come first, the rest begin at 0), and what it does.
pub record Process : Type 0 where
  pub talks : List ℕ
  pub nums : ℕ
  pub vars : ℕ
  pub body : Action

-- A program: its points, for each point the other side's point, and its processes, the first of which begins.
pub record Program : Type 0 where
  pub points : List Point
  pub other : List ℕ
  pub procs : List Process

-- a truth value as a number
abbrev pub bit : Bool → ℕ
bit true = 1
bit false = 0

-- the value of an expression; arithmetic wraps at 32 bits, and a variable that is not there is 0
abbrev pub value : List ℕ → Expression → ℕ
value vs (num n) = n
value vs (var x) = or 0 (nth vs x)
value vs (add a b) = (value vs a + value vs b) % 2 ^ 32
value vs (sub a b) = (value vs a + 2 ^ 32 - value vs b) % 2 ^ 32
value vs (mul a b) = value vs a * value vs b % 2 ^ 32
value vs (less a b) = bit (ltb (value vs a) (value vs b))

-- the values of several expressions
abbrev pub values : List ℕ → List Expression → List ℕ
values vs [] = []
values vs (e ∷ es) = value vs e ∷ values vs es
