-- The program that a tree stands for.
use Rattle.std.specs.Prelude.{ℕ, List, map, vec_items}
use Rattle.model.specs.Program as model
use Rattle.syntax.specs.declared.tree.Action.{Action}
use Rattle.syntax.specs.declared.tree.Action.TheVariants.{Stop, Give', Take', Choose', Offer', Set', If', Show', Start', Become}
use Rattle.syntax.specs.declared.tree.Expression.{Expression}
use Rattle.syntax.specs.declared.tree.Expression.TheVariants.{Num, Var, Add', Sub', Mul', Less'}
use Rattle.syntax.specs.declared.tree.Point.{Point}
use Rattle.syntax.specs.declared.tree.Process.{Process}
use Rattle.syntax.specs.declared.tree.Point.TheVariants.{Over, Gives, Takes, Chooses, Offers}

abbrev pub point_of : Point → model.Point
point_of Over = model.over
point_of (Gives n) = model.gives n
point_of (Takes n) = model.takes n
point_of (Chooses n m) = model.chooses n m
point_of (Offers n m) = model.offers n m

abbrev pub expression_of : Expression → model.Expression
expression_of (Num n) = model.num n
expression_of (Var x) = model.var x
expression_of (Add' p a q b) = model.add (expression_of a) (expression_of b)
expression_of (Sub' p a q b) = model.sub (expression_of a) (expression_of b)
expression_of (Mul' p a q b) = model.mul (expression_of a) (expression_of b)
expression_of (Less' p a q b) = model.less (expression_of a) (expression_of b)

abbrev pub expressions_of : List Expression → List model.Expression
expressions_of es = map expression_of es

abbrev pub action_of : Action → model.Action
action_of (Stop i) = model.stop
action_of (Give' i c e p s) = model.give c (expression_of e) (action_of s)
action_of (Take' i c x p s) = model.take c x (action_of s)
action_of (Choose' i c k p s) = model.choose c k (action_of s)
action_of (Offer' i c p s q t) = model.offer c (action_of s) (action_of t)
action_of (Set' i x e p s) = model.set x (expression_of e) (action_of s)
action_of (If' i e p s q t) = model.if (expression_of e) (action_of s) (action_of t)
action_of (Show' i e p s) = model.show (expression_of e) (action_of s)
action_of (Start' i f cs es p s) = model.start f (vec_items cs) (expressions_of (vec_items es)) (action_of s)
action_of (Become i f cs es) = model.become f (vec_items cs) (expressions_of (vec_items es))

abbrev pub process_of : Process → model.Process
process_of p = record { talks = vec_items p.talks; nums = p.nums; vars = p.vars; body = action_of p.body }

abbrev pub points_of : List Point → List model.Point
points_of ps = map point_of ps

abbrev pub processes_of : List Process → List model.Process
processes_of ps = map process_of ps

abbrev pub program_of : List Point → List ℕ → List Process → model.Program
program_of points other procs = record { points = points_of points; other = other; procs = processes_of procs }
