-- One append after another.
use Rattle.std.proofs.Common.{◌≡◌, ℕ, List, ◌++◌, append_assoc}

pub append_after : (a b c x y : List ℕ) → b ≡ a ++ x → c ≡ b ++ y → c ≡ a ++ (x ++ y)
append_after a b c x y e f = rw (f, e, append_assoc)

pub append_after_two : (o o1 o2 o3 x y z : List ℕ) → o1 ≡ o ++ x → o2 ≡ o1 ++ y → o3 ≡ o2 ++ z → o3 ≡ o ++ (x ++ (y ++ z))
append_after_two o o1 o2 o3 x y z p q r = append_after o o1 o3 x (y ++ z) p (append_after o1 o2 o3 y z q r)

pub append_after_three : (o o1 o2 o3 o4 x y z w : List ℕ) → o1 ≡ o ++ x → o2 ≡ o1 ++ y → o3 ≡ o2 ++ z → o4 ≡ o3 ++ w → o4 ≡ o ++ (x ++ (y ++ (z ++ w)))
append_after_three o o1 o2 o3 o4 x y z w p q r s = append_after o o1 o4 x (y ++ (z ++ w)) p (append_after_two o1 o2 o3 o4 y z w q r s)
