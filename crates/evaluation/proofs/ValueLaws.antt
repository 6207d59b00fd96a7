-- The value of an expression from its term and the values of its parts.
use Rattle.std.proofs.Common.{◌≡◌, ℕ, zero, suc, ◌+◌, ◌-◌, ◌≤◌, List, [], ◌∷◌, ◌++◌, length, get_or, Some, None, refl, ap, subst, arith, length-append}
use Rattle.model.specs.Program.{Expression, value}
use Rattle.model.specs.Rows.{row_e, deep_e}
use Rattle.rows.specs.declared.decode.Operator.{Operator}
use Rattle.rows.specs.declared.decode.Operator.TheVariants.{Sum, Difference, Product, Less}
use Rattle.rows.specs.declared.decode.Term.{Term}
use Rattle.rows.specs.declared.decode.Term.TheVariants.{Number, Variable, Pair}
use Rattle.rows.specs.Decode.{term_at, TermWords}
use Rattle.rows.proofs.Terms.{operation, row_e_operation, deep_e_operation, TermStanding, at_num, at_var, at_pair}
use Rattle.rows.proofs.ExpressionLaws.{shallow, no_term, term_there}
use Rattle.evaluation.specs.declared.expressions.Valued.{Valued}
use Rattle.evaluation.specs.Values.{applied, at_or_0, Evaluated, Evaluates}

pub value_operation : (vs : List ℕ) (o : Operator) (a b : Expression) → value vs (operation o a b) ≡ applied o (value vs a) (value vs b)
value_operation vs Sum a b = refl
value_operation vs Difference a b = refl
value_operation vs Product a b = refl
value_operation vs Less a b = refl

pub at_or_0_is : (vs : List ℕ) (x : ℕ) → get_or vs x 0 ≡ at_or_0 vs x
at_or_0_is [] x = refl
at_or_0_is (v ∷ vs) zero = refl
at_or_0_is (v ∷ vs) (suc x) = at_or_0_is vs x

module _ (s vs : List ℕ) (i d : ℕ) where
  pub nothing_deep : (r : Valued) → d ≡ 0 → Evaluates s vs i d r
  nothing_deep r z e x h k = absurd (shallow s i d z e x h k)

  pub nothing_there : (r : Valued) → None ≡ term_at s i → Evaluates s vs i d r
  nothing_there r is e x h k = absurd (no_term s i d is e x h k)

  pub number_value : (n : ℕ) (k : Term) → Some k ≡ term_at s i → k ≡ Number n → Evaluates s vs i d (record { value = n; next = i + 2 })
  number_value n k is kind e x h p = go e (subst (λ q. TermStanding s i x q e) kind (term_there s i e x k h is))
    where
      go : (e : Expression) → TermStanding s i x (Number n) e → Evaluated s vs i e x (record { value = n; next = i + 2 })
      go e (at_num r) = record { value = refl; rest = r; ends = refl }

  pub variable_value : (y v : ℕ) (k : Term) → Some k ≡ term_at s i → k ≡ Variable y → v ≡ at_or_0 vs y → Evaluates s vs i d (record { value = v; next = i + 2 })
  variable_value y v k is kind is_v e x h p = go e (subst (λ q. TermStanding s i x q e) kind (term_there s i e x k h is))
    where
      go : (e : Expression) → TermStanding s i x (Variable y) e → Evaluated s vs i e x (record { value = v; next = i + 2 })
      go e (at_var r) = record { value = is_v; rest = r; ends = refl }

  pub pair_value : (o : Operator) (f : ℕ) (k : Term) (a b : Valued) (v : ℕ) → Some k ≡ term_at s i → TermWords s i k → k ≡ Pair o f →
      Evaluates s vs f (d - 1) a → Evaluates s vs a.next (d - 1) b → v ≡ applied o a.value b.value → Evaluates s vs i d (record { value = v; next = b.next })
  pair_value o f k a b v is w kind ev_a ev_b is_v e x h p = go e (subst (λ q. TermStanding s i x q e) kind (term_there s i e x k h is)) p
    where
      w' : TermWords s i (Pair o f)
      w' = subst (TermWords s i) kind w

      go : (e : Expression) → TermStanding s i x (Pair o f) e → deep_e e ≤ d → Evaluated s vs i e x (record { value = v; next = b.next })
      go e (at_pair l r rows) p =
          let q = deep_e_operation o l r in
          let first = ev_a l (row_e r ++ x) rows (omega arith) in
          let second = ev_b r x first.rest (omega arith) in
          let l1 = ap length (row_e_operation o l r) in
          let l2 = length-append (row_e l) (row_e r) in
          let e1 = first.ends in
          let e2 = second.ends in
          let u = w' in
          let v1 = first.value in
          let v2 = second.value in
          let t = value_operation vs o l r in
          record { value = cc; rest = second.rest; ends = omega arith }
