-- Expressions one after the other, exactly.
use Rattle.std.proofs.Common.{◌≡◌, ℕ, ◌+◌, ◌<◌, ◌≤◌, List, [], ◌∷◌, ◌++◌, length, drop, sym, refl, ap, ◌∙◌, subst, append_assoc, arith, length-append}
use Rattle.rows.specs.Reading.{ExpressionAt, NoExpression, ExpressionsAt, NoExpressions}
use Rattle.rows.proofs.Series.{rows_snoc, rows_front}
use Rattle.model.specs.Program.{Expression}
use Rattle.model.specs.Rows.{row_e, row_es, deep_e, deep_es}
use Rattle.model.proofs.Writing.{row_e_prefix}

deep_snoc : (d : ℕ) (es : List Expression) (e : Expression) → deep_es es ≤ d → deep_e e ≤ d → deep_es (es ++ (e ∷ [])) ≤ d
deep_snoc d [] e p q = omega arith
deep_snoc d (f ∷ es) e p q = let h = deep_snoc d es e (omega arith) q in omega arith

deep_rest : (d : ℕ) (es fs : List Expression) → deep_es (es ++ fs) ≤ d → deep_es fs ≤ d
deep_rest d [] fs p = p
deep_rest d (e ∷ es) fs p = deep_rest d es fs (omega arith)

pub expressions_none : (s : List ℕ) (i d : ℕ) → ExpressionsAt s i d 0 i
expressions_none s i d = record { them = []; many = refl; rows = refl; deep = omega arith; ends = omega arith; within = λ h. h }

module _ {s : List ℕ} {i d k j : ℕ} (a : ExpressionsAt s i d k j) where
  pub expressions_more : {l : ℕ} → ExpressionAt s j d l → ExpressionsAt s i d (k + 1) l
  expressions_more {l} b =
      let snoc = rows_snoc row_e row_es refl (λ c cs. refl) a.them b.it in
      let e = ap length (snoc []) in
      let l1 = length-append (row_es (a.them ++ (b.it ∷ []))) [] in
      let l2 = length-append (row_es a.them) (row_e b.it ++ []) in
      let l3 = length-append (row_e b.it) [] in
      let many = a.many in let p = a.ends in let q = b.ends in
      record {
        them = a.them ++ (b.it ∷ []);
        many = simp length-append (omega arith);
        rows = a.rows ∙ (ap (λ y. row_es a.them ++ y) b.rows ∙ sym (snoc (drop l s)));
        deep = deep_snoc d a.them b.it a.deep b.deep;
        ends = omega arith;
        within = λ h. b.within;
      }

  pub expressions_stuck : {n : ℕ} → k < n → NoExpression s j d → NoExpressions s i d n
  expressions_stuck {n} lt nope es x many h deep =
      let e = a.many in
      let r = rows_front row_e row_es refl (λ b bs. refl) row_e_prefix a.them es (drop j s) x (omega arith) (sym a.rows ∙ h) in
      go r.them (ap length r.all ∙ length-append a.them r.them) r.here (deep_rest d a.them r.them (subst (λ fs. deep_es fs ≤ d) r.all deep))
    where
      go : (fs : List Expression) → length es ≡ length a.them + length fs → drop j s ≡ row_es fs ++ x → deep_es fs ≤ d → ⊥
      go [] l h p = let e = a.many in omega arith
      go (f ∷ fs) l h p = nope f (row_es fs ++ x) (h ∙ append_assoc (row_e f) (row_es fs) x) (omega arith)
