-- By what the recursions over a tree end.
use Rattle.std.proofs.Common.{◌≡◌, ℕ, ◌+◌, ◌<◌, Box, ap, arith}
use Rattle.std.specs.declared.alloc.Global.{Global}
use Rattle.syntax.specs.declared.tree.Action.{Action}
use Rattle.syntax.specs.declared.tree.Action.TheVariants.{Stop, Give', Take', Choose', Offer', Set', If', Show', Start', Become}
use Rattle.syntax.specs.declared.tree.Expression.{Expression, Add, Sub, Mul, Less}
use Rattle.syntax.specs.declared.tree.Expression.TheVariants.{Num, Var, Add', Sub', Mul', Less'}

abbrev pub nodes : Expression → ℕ
nodes (Num n) = 1
nodes (Var x) = 1
nodes (Add' p a q b) = nodes a + nodes b + 2
nodes (Sub' p a q b) = nodes a + nodes b + 2
nodes (Mul' p a q b) = nodes a + nodes b + 2
nodes (Less' p a q b) = nodes a + nodes b + 2

pub fewer_add : {e a b : Expression} {l r : Box Expression Global} {t : ℕ} → e ≡ Add l r → a ≡ l.value → b ≡ r.value → nodes e ≡ t → nodes a + nodes b + 1 < t
fewer_add i p q m = omega (arith, ap nodes i, ap nodes p, ap nodes q)

pub fewer_sub : {e a b : Expression} {l r : Box Expression Global} {t : ℕ} → e ≡ Sub l r → a ≡ l.value → b ≡ r.value → nodes e ≡ t → nodes a + nodes b + 1 < t
fewer_sub i p q m = omega (arith, ap nodes i, ap nodes p, ap nodes q)

pub fewer_mul : {e a b : Expression} {l r : Box Expression Global} {t : ℕ} → e ≡ Mul l r → a ≡ l.value → b ≡ r.value → nodes e ≡ t → nodes a + nodes b + 1 < t
fewer_mul i p q m = omega (arith, ap nodes i, ap nodes p, ap nodes q)

pub fewer_less : {e a b : Expression} {l r : Box Expression Global} {t : ℕ} → e ≡ Less l r → a ≡ l.value → b ≡ r.value → nodes e ≡ t → nodes a + nodes b + 1 < t
fewer_less i p q m = omega (arith, ap nodes i, ap nodes p, ap nodes q)

abbrev pub actions : Action → ℕ
actions (Stop i) = 1
actions (Give' i c e p s) = actions s + 1
actions (Take' i c x p s) = actions s + 1
actions (Choose' i c k p s) = actions s + 1
actions (Offer' i c p s q t) = actions s + actions t + 1
actions (Set' i x e p s) = actions s + 1
actions (If' i e p s q t) = actions s + actions t + 1
actions (Show' i e p s) = actions s + 1
actions (Start' i f cs es p s) = actions s + 1
actions (Become i f cs es) = 1
