-- The expression at a place, exactly: from its term, and the expressions that follow it.
use Rattle.std.proofs.Common.{◌≡◌, ℕ, ◌+◌, ◌-◌, ◌<◌, ◌≤◌, List, ◌∷◌, ◌++◌, length, drop, Some, None, Option, sym, refl, ap, ◌∙◌, subst, append_assoc, arith, length-append}
use Rattle.rows.specs.declared.decode.Term.{Term}
use Rattle.rows.specs.declared.decode.Term.TheVariants.{Number, Variable, Pair}
use Rattle.rows.specs.declared.decode.Operator.{Operator}
use Rattle.rows.specs.Decode.{term_at, operator_code, TermWords}
use Rattle.rows.specs.Reading.{ExpressionAt, NoExpression, ExpressionEnd}
use Rattle.rows.proofs.Places.{drop_one, drop_two}
use Rattle.rows.proofs.Terms.{operation, row_e_operation, deep_e_operation, TermStanding, at_pair, term_found}
use Rattle.model.specs.Program.{Expression, num, var, add, sub, mul, less}
use Rattle.model.specs.Rows.{row_e, deep_e}
use Rattle.model.proofs.Writing.{row_e_prefix}

pub deep_e_pos : (e : Expression) → 0 < deep_e e
deep_e_pos (num n) = omega arith
deep_e_pos (var n) = omega arith
deep_e_pos (add a b) = omega arith
deep_e_pos (sub a b) = omega arith
deep_e_pos (mul a b) = omega arith
deep_e_pos (less a b) = omega arith

pub shallow : (s : List ℕ) (i d : ℕ) → d ≡ 0 → NoExpression s i d
shallow s i d z e x h k = let p = deep_e_pos e in omega arith

-- what a place with an expression has as its term
pub term_there : (s : List ℕ) (i : ℕ) (e : Expression) (x : List ℕ) (k : Term) → drop i s ≡ row_e e ++ x → Some k ≡ term_at s i → TermStanding s i x k e
term_there s i e x k h is =
    let f = term_found s i e x h in
    let same : f.it ≡ k = cc f.is in
    subst (λ t. TermStanding s i x t e) same f.standing

pub no_term : (s : List ℕ) (i d : ℕ) → None ≡ term_at s i → NoExpression s i d
no_term s i d is e x h k =
    let f = term_found s i e x h in
    let z : ◌≡◌ {A = ℕ} 0 1 = cc f.is in
    omega arith

pub number_at : (s : List ℕ) (i d n : ℕ) (k : Term) → 0 < d → TermWords s i k → k ≡ Number n → ExpressionAt s i d (i + 2)
number_at s i d n k p w' e =
    let w = subst (TermWords s i) e w' in
    let h : i + 1 < length s = omega arith in
    record { it = num n; rows = drop_two s i h ∙ cc; deep = p; ends = refl; further = omega arith; within = omega arith }

pub variable_at : (s : List ℕ) (i d n : ℕ) (k : Term) → 0 < d → TermWords s i k → k ≡ Variable n → ExpressionAt s i d (i + 2)
variable_at s i d n k p w' e =
    let w = subst (TermWords s i) e w' in
    let h : i + 1 < length s = omega arith in
    record { it = var n; rows = drop_two s i h ∙ cc; deep = p; ends = refl; further = omega arith; within = omega arith }

module _ (s : List ℕ) (i d f : ℕ) (o : Operator) (k : Term) (p : 0 < d) (is : Some k ≡ term_at s i) (w : TermWords s i k) (kind : k ≡ Pair o f) where
  pub pair_no_first : NoExpression s f (d - 1) → NoExpression s i d
  pair_no_first no1 e x h l = go e (subst (λ q. TermStanding s i x q e) kind (term_there s i e x k h is)) l
    where
      go : (e : Expression) → TermStanding s i x (Pair o f) e → deep_e e ≤ d → ⊥
      go e (at_pair a b r) k = let q = deep_e_operation o a b in no1 a (row_e b ++ x) r (omega arith)

  pair_at : {j m : ℕ} → ExpressionAt s f (d - 1) j → ExpressionAt s j (d - 1) m → ExpressionAt s i d m
  pair_at {j} {m} a b =
      let w' = subst (TermWords s i) kind w in
      let h : i < length s = omega arith in
      let q = deep_e_operation o a.it b.it in
      let e1 : drop i s ≡ operator_code o ∷ drop f s = drop_one s i h ∙ cc in
      let e2 : drop i s ≡ operator_code o ∷ (row_e a.it ++ (row_e b.it ++ drop m s)) = e1 ∙ cc (a.rows, b.rows) in
      let l1 = ap length (row_e_operation o a.it b.it) in
      let l2 = length-append (row_e a.it) (row_e b.it) in
      record {
        it = operation o a.it b.it;
        rows = e2 ∙ rw (row_e_operation, append_assoc);
        deep = omega arith;
        ends = omega arith;
        further = omega arith;
        within = b.within;
      }

  pair_no_second : {j : ℕ} → ExpressionAt s f (d - 1) j → NoExpression s j (d - 1) → NoExpression s i d
  pair_no_second {j} a no2 e x h l = go e (subst (λ q. TermStanding s i x q e) kind (term_there s i e x k h is)) l
    where
      go : (e : Expression) → TermStanding s i x (Pair o f) e → deep_e e ≤ d → ⊥
      go e (at_pair c b r) k =
          let q = deep_e_operation o c b in
          no2 b x (row_e_prefix a.it c (drop j s) (row_e b ++ x) (sym a.rows ∙ r)).1 (omega arith)

  pub pair_end : {j : ℕ} (r : Option ℕ) → ExpressionAt s f (d - 1) j → ExpressionEnd s j (d - 1) r → ExpressionEnd s i d r
  pair_end None a no2 = pair_no_second a no2
  pair_end (Some m) a b = pair_at a b
