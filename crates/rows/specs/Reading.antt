-- What the reader promises of a stretch of the rows: an expression, several, or an action stands there, within the
-- limits; or none does.
use Rattle.std.specs.Prelude.{◌≡◌, ℕ, ◌+◌, ◌-◌, ◌<◌, ◌≤◌, List, ◌++◌, length, drop, Option, MatchOption, slice_index}
use Rattle.rows.specs.declared.actions.Pass.{Pass}
use Rattle.rows.specs.declared.actions.Pass.TheVariants.{End, On, Fork}
use Rattle.model.specs.Program.{Expression, Action, stop, give, take, choose, offer, set, if, show, start, become}
use Rattle.model.specs.Rows.{row_e, row_es, row_a, deep_e, deep_es, deep, new}

-- An expression, nested at most d deep, stands from place i up to place j.
pub record ExpressionAt (s : List ℕ) (i d j : ℕ) : Type 0 where
  pub it : Expression
  pub rows : drop i s ≡ row_e it ++ drop j s
  pub deep : deep_e it ≤ d
  pub ends : j ≡ i + length (row_e it)
  pub further : i < j
  pub within : j ≤ length s

-- No expression so nested stands at place i, whatever follows.
abbrev pub NoExpression : List ℕ → ℕ → ℕ → Type 0
NoExpression s i d = (e : Expression) (x : List ℕ) → drop i s ≡ row_e e ++ x → deep_e e ≤ d → ⊥

abbrev pub ExpressionEnd : List ℕ → ℕ → ℕ → Option ℕ → Type 0
ExpressionEnd s i d r = MatchOption r (NoExpression s i d) (ExpressionAt s i d)

-- So many expressions, each nested at most d deep, stand one after the other from place i up to place j.
pub record ExpressionsAt (s : List ℕ) (i d n j : ℕ) : Type 0 where
  pub them : List Expression
  pub many : length them ≡ n
  pub rows : drop i s ≡ row_es them ++ drop j s
  pub deep : deep_es them ≤ d
  pub ends : j ≡ i + length (row_es them)
  pub within : i ≤ length s → j ≤ length s

-- No such expressions stand at place i, whatever follows.
abbrev pub NoExpressions : List ℕ → ℕ → ℕ → ℕ → Type 0
NoExpressions s i d n = (es : List Expression) (x : List ℕ) → length es ≡ n → drop i s ≡ row_es es ++ x → deep_es es ≤ d → ⊥

abbrev pub ExpressionsEnd : List ℕ → ℕ → ℕ → ℕ → Option ℕ → Type 0
ExpressionsEnd s i d n r = MatchOption r (NoExpressions s i d n) (ExpressionsAt s i d n)

-- At every offer and if of an action that is written from place i on, the table m says where its second way begins.
abbrev pub Seconds : List ℕ → ℕ → Action → Type 0
Seconds m i stop = Unit {0}
Seconds m i (give c e t) = Seconds m (i + 2 + length (row_e e)) t
Seconds m i (take c x t) = Seconds m (i + 3) t
Seconds m i (choose c k t) = Seconds m (i + 3) t
Seconds m i (offer c t u) = (slice_index m i ≡ i + 2 + length (row_a t)) × Seconds m (i + 2) t × Seconds m (i + 2 + length (row_a t)) u
Seconds m i (set x e t) = Seconds m (i + 2 + length (row_e e)) t
Seconds m i (if e t u) = (slice_index m i ≡ i + 1 + length (row_e e) + length (row_a t)) × Seconds m (i + 1 + length (row_e e)) t × Seconds m (i + 1 + length (row_e e) + length (row_a t)) u
Seconds m i (show e t) = Seconds m (i + 1 + length (row_e e)) t
Seconds m i (start f cs es t) = Seconds m (i + 4 + length cs + length (row_es es)) t
Seconds m i (become f cs es) = Unit {0}

-- An action, nested at most d deep and getting at most r conversations by starting others, stands from place i up
-- to place j, and the table m has its second ways.
pub record ActionAt (s m : List ℕ) (i d r j : ℕ) : Type 0 where
  pub it : Action
  pub rows : drop i s ≡ row_a it ++ drop j s
  pub deeps : deep it ≤ d
  pub news : new it ≤ r
  pub seconds : Seconds m i it
  pub ends : j ≡ i + length (row_a it)
  pub further : i < j
  pub within : j ≤ length s

-- No such action stands at place i, whatever follows.
abbrev pub NoAction : List ℕ → ℕ → ℕ → ℕ → Type 0
NoAction s i d r = (t : Action) (x : List ℕ) → drop i s ≡ row_a t ++ x → deep t ≤ d → new t ≤ r → ⊥

abbrev pub ActionEnd : List ℕ → List ℕ → ℕ → ℕ → ℕ → Option ℕ → Type 0
ActionEnd s m i d r e = MatchOption e (NoAction s i d r) (ActionAt s m i d r)

-- two tables agree below place i
abbrev pub SameBelow : ℕ → List ℕ → List ℕ → Type 0
SameBelow i m m' = (k : ℕ) → k < i → slice_index m k ≡ slice_index m' k

-- An action stands at place i, with the words x behind it; in Written its writing has n words, and the table m has its second ways.
pub record Stood (s : List ℕ) (i d r : ℕ) (x : List ℕ) : Type 0 where
  pub it : Action
  pub rows : drop i s ≡ row_a it ++ x
  pub deeps : deep it ≤ d
  pub news : new it ≤ r

pub record Written (s m : List ℕ) (i d r : ℕ) (x : List ℕ) (n : ℕ) : Type 0 where
  pub stood : Stood s i d r x
  pub seconds : Seconds m i stood.it
  pub long : length (row_a stood.it) ≡ n

-- From place i one comes to place j: an action that stands at j is the rest of one that stands at i, and the other way round.
pub record Leads (s : List ℕ) (i d r j d' r' : ℕ) : Type 0 where
  pub back : (m x : List ℕ) (n : ℕ) → Written s m j d' r' x n → Written s m i d r x ((j - i) + n)
  pub on : (x : List ℕ) → Stood s i d r x → Stood s j d' r' x
  pub further : i < j
  pub within : j ≤ length s

-- At place i two ways part, the first of which begins at f.
pub record TwoWays (s : List ℕ) (f d r : ℕ) (x : List ℕ) : Type 0 where
  pub one : Action
  pub two : Action
  pub rows : drop f s ≡ row_a one ++ (row_a two ++ x)
  pub some : 0 < d
  pub deep_one : deep one ≤ d - 1
  pub deep_two : deep two ≤ d - 1
  pub new_one : new one ≤ r
  pub new_two : new two ≤ r

pub record Parting (s : List ℕ) (i d r f : ℕ) : Type 0 where
  pub back : (m x : List ℕ) (w : TwoWays s f d r x) → Seconds m f w.one → Seconds m (f + length (row_a w.one)) w.two → slice_index m i ≡ f + length (row_a w.one) →
      Written s m i d r x ((f - i) + (length (row_a w.one) + length (row_a w.two)))
  pub on : (x : List ℕ) → Stood s i d r x → TwoWays s f d r x
  pub further : i < f
  pub within : f ≤ length s

-- what an instruction leads to, where an action that keeps the limits may stand
abbrev pub LeadsTo : List ℕ → ℕ → ℕ → ℕ → Pass → Type 0
LeadsTo s i d r (End j) = (m : List ℕ) → ActionAt s m i d r j
LeadsTo s i d r (On j r') = Leads s i d r j d r'
LeadsTo s i d r (Fork f) = Parting s i d r f

abbrev pub Passed : List ℕ → ℕ → ℕ → ℕ → Option Pass → Type 0
Passed s i d r p = MatchOption p (NoAction s i d r) (LeadsTo s i d r)
