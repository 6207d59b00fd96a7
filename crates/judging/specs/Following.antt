-- What the judge promises of an action that it looks at: with conversations at points a, does it keep to the
-- conversations, or what decides that? The setting w has the rows, how many variables there are, and whether this is process 0.
use Rattle.std.specs.Prelude.{◌≡◌, ℕ, suc, ◌+◌, ◌-◌, ◌<◌, ◌≤◌, Bool, true, false, ◌&&◌, List, [], ◌∷◌, ◌++◌, length, take as front, drop, Some, None, Option, MatchOption, IfSome, ◌==◌}
use Rattle.std.proofs.Math.Option.{some}
use Rattle.rows.specs.declared.decode.Call.{Call}
use Rattle.rows.specs.Mapped.{Of}
use Rattle.judging.specs.declared.conversations.Conversations.{Conversations}
use Rattle.judging.specs.declared.course.Course.{Course}
use Rattle.judging.specs.declared.course.Course.TheVariants.{Kept, On, Parted}
use Rattle.judging.specs.declared.setting.Setting.{Setting}
use Rattle.judging.specs.Judging.{Verdict}
use Rattle.judging.specs.Standing.{stand}
use Rattle.model.specs.Program.{nth, Expression, Action, stop, give, take, choose, offer, set, if, show, start, become, Program}
use Rattle.model.specs.Rows.{row_e, row_es, row_a, deep_es, deep, new}
use Rattle.model.specs.Keeps.{At, then, hands, first, rest, alike, all_over, keeps}

-- the words of the program, and whether an action keeps with conversations at these points
abbrev pub words : Setting → List ℕ
words w = w.rows.words.now

abbrev pub keeping : Setting → Program → Action → At → Bool
keeping w g t a = keeps g w.variables w.root t a

-- An action stands at place j, with the words x behind it, and decides b.
pub record Decides (w : Setting) (g : Program) (j d : ℕ) (c : Conversations) (x : List ℕ) (b : Bool) : Type 0 where
  pub it : Action
  pub rows : drop j (words w) ≡ row_a it ++ x
  pub deeps : deep it ≤ d
  pub room : length (stand c) + new it ≤ 16
  pub same : b ≡ keeping w g it (stand c)

-- Two ways stand from place j on, and decide b together.
pub record Decide2 (w : Setting) (g : Program) (j d : ℕ) (c c' : Conversations) (x : List ℕ) (b : Bool) : Type 0 where
  pub one : Action
  pub two : Action
  pub rows : drop j (words w) ≡ row_a one ++ (row_a two ++ x)
  pub pos : 0 < d
  pub deep_one : deep one ≤ d - 1
  pub deep_two : deep two ≤ d - 1
  pub room_one : length (stand c) + new one ≤ 16
  pub room_two : length (stand c') + new two ≤ 16
  pub same : b ≡ keeping w g one (stand c) && keeping w g two (stand c')

-- what an action comes to, where b says whether it keeps
abbrev pub Comes : Setting → Program → ℕ → List ℕ → Bool → Course → Type 0
Comes w g d x b (Kept j) = (b ≡ true) × (drop j (words w) ≡ x)
Comes w g d x b (On j c) = Decides w g j d c x b
Comes w g d x b (Parted j c c') = Decide2 w g j d c c' x b

abbrev pub Outcome : Setting → Program → ℕ → List ℕ → Bool → Option Course → Type 0
Outcome w g d x b o = MatchOption o (b ≡ false) (Comes w g d x b)

-- whatever action stands at place i, this is what it comes to
abbrev pub FollowSays : Setting → ℕ → ℕ → At → Option Course → Type 0
FollowSays w i d a o = Of w.rows (λ g. (t : Action) (x : List ℕ) → drop i (words w) ≡ row_a t ++ x → deep t ≤ d → length a + new t ≤ 16 → Outcome w g d x (keeping w g t a) o)

abbrev pub WalkSays : Setting → ℕ → ℕ → At → Option ℕ → Type 0
WalkSays w i d a e = Of w.rows (λ g. (t : Action) (x : List ℕ) → drop i (words w) ≡ row_a t ++ x → deep t ≤ d → length a + new t ≤ 16 → Verdict (words w) x (keeping w g t a) e)

-- the place that is come to
abbrev pub place : Course → ℕ
place (Kept j) = j
place (On j c) = j
place (Parted j c c') = j

-- it lies no earlier than place k
abbrev pub CourseFrom : List ℕ → ℕ → Option Course → Type 0
CourseFrom s k o = IfSome o (λ c. (k ≤ place c) × (k ≤ length s → place c ≤ length s))

-- it lies behind place i, within the rows
abbrev pub CourseBehind : List ℕ → ℕ → Option Course → Type 0
CourseBehind s i o = IfSome o (λ c. (i < place c) × (place c ≤ length s))

-- the same of each kind of action, whose operands stand at place v
abbrev pub GiveSays : Setting → ℕ → ℕ → ℕ → At → Option Course → Type 0
GiveSays w c v d a o = Of w.rows (λ g. (e : Expression) (t : Action) (x : List ℕ) → drop v (words w) ≡ row_e e ++ (row_a t ++ x) → deep (give c e t) ≤ d → length a + new t ≤ 16 →
    Outcome w g d x (keeping w g (give c e t) a) o)

abbrev pub TakeSays : Setting → ℕ → ℕ → ℕ → At → Option Course → Type 0
TakeSays w c y v a o = Of w.rows (λ g. (d : ℕ) (t : Action) (x : List ℕ) → drop v (words w) ≡ row_a t ++ x → deep t ≤ d → length a + new t ≤ 16 → Outcome w g d x (keeping w g (take c y t) a) o)

abbrev pub ChooseSays : Setting → ℕ → ℕ → ℕ → At → Option Course → Type 0
ChooseSays w c k v a o = Of w.rows (λ g. (d : ℕ) (t : Action) (x : List ℕ) → drop v (words w) ≡ row_a t ++ x → deep t ≤ d → length a + new t ≤ 16 → Outcome w g d x (keeping w g (choose c k t) a) o)

abbrev pub OfferSays : Setting → ℕ → ℕ → At → Option Course → Type 0
OfferSays w c v a o = Of w.rows (λ g. (d : ℕ) (t u : Action) (x : List ℕ) → drop v (words w) ≡ row_a t ++ (row_a u ++ x) → deep (offer c t u) ≤ d → length a + new (offer c t u) ≤ 16 →
    Outcome w g d x (keeping w g (offer c t u) a) o)

abbrev pub StopSays : Setting → ℕ → At → Option Course → Type 0
StopSays w v a o = Of w.rows (λ g. (d : ℕ) (x : List ℕ) → drop v (words w) ≡ x → Outcome w g d x (keeping w g stop a) o)

abbrev pub SetSays : Setting → ℕ → ℕ → ℕ → At → Option Course → Type 0
SetSays w y v d a o = Of w.rows (λ g. (e : Expression) (t : Action) (x : List ℕ) → drop v (words w) ≡ row_e e ++ (row_a t ++ x) → deep (set y e t) ≤ d → length a + new t ≤ 16 →
    Outcome w g d x (keeping w g (set y e t) a) o)

abbrev pub IfSays : Setting → ℕ → ℕ → At → Option Course → Type 0
IfSays w v d a o = Of w.rows (λ g. (e : Expression) (t u : Action) (x : List ℕ) → drop v (words w) ≡ row_e e ++ (row_a t ++ (row_a u ++ x)) → deep (if e t u) ≤ d → length a + new (if e t u) ≤ 16 →
    Outcome w g d x (keeping w g (if e t u) a) o)

abbrev pub ShowSays : Setting → ℕ → ℕ → At → Option Course → Type 0
ShowSays w v d a o = Of w.rows (λ g. (e : Expression) (t : Action) (x : List ℕ) → drop v (words w) ≡ row_e e ++ (row_a t ++ x) → deep (show e t) ≤ d → length a + new t ≤ 16 →
    Outcome w g d x (keeping w g (show e t) a) o)

-- the conversations that a call lists
abbrev pub listed : List ℕ → Call → List ℕ
listed s k = front k.count (drop k.conversations s)

-- what is left after a start of process f with so many numbers, handing on conversations cs: the starter goes on with it
abbrev pub StartSays : Program → At → ℕ → List ℕ → ℕ → Option Conversations → Type 0
StartSays g a f cs many None = (k : At → Bool) →
    then (nth g.procs f) (λ p. (many == p.nums) && then (hands a cs (rest p.talks)) (λ b. then (first p.talks) (λ t. then (nth g.other t) (λ u. k (b ++ (some u ∷ [])))))) ≡ false
StartSays g a f cs many (Some c) = ((k : At → Bool) →
    then (nth g.procs f) (λ p. (many == p.nums) && then (hands a cs (rest p.talks)) (λ b. then (first p.talks) (λ t. then (nth g.other t) (λ u. k (b ++ (some u ∷ [])))))) ≡ k (stand c)) ×
    (length (stand c) ≡ suc (length a))

-- becoming process f with so many numbers, handing on conversations cs, keeps
abbrev pub becomes_well : Program → Bool → At → ℕ → List ℕ → ℕ → Bool
becomes_well g r a f cs many = then (nth g.procs f) (λ p. (many == p.nums) && (alike r (f == 0) && then (hands a cs p.talks) (λ b. all_over g b)))

-- the same of a start and a become, by their operands and the conversations cs that are handed on
abbrev pub StartLooks : Setting → Call → List ℕ → ℕ → At → Option Course → Type 0
StartLooks w k cs d a o = Of w.rows (λ g. (es : List Expression) (t : Action) (x : List ℕ) → length es ≡ k.expressions → drop k.numbers (words w) ≡ row_es es ++ (row_a t ++ x) →
    deep (start k.process cs es t) ≤ d → length a + new (start k.process cs es t) ≤ 16 → Outcome w g d x (keeping w g (start k.process cs es t) a) o)

abbrev pub BecomeLooks : Setting → Call → List ℕ → ℕ → At → Option Course → Type 0
BecomeLooks w k cs d a o = Of w.rows (λ g. (es : List Expression) (x : List ℕ) → length es ≡ k.expressions → drop k.numbers (words w) ≡ row_es es ++ x → deep_es es ≤ d →
    Outcome w g d x (keeping w g (become k.process cs es) a) o)
