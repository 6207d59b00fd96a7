-- The variables of the expressions at a place.
use Rattle.std.proofs.Common.{◌≡◌, ℕ, ◌+◌, ◌-◌, ◌<◌, ◌≤◌, Bool, true, false, ◌&&◌, List, [], ◌∷◌, ◌++◌, length, drop, Some, None, Option, sym, refl, ap, ◌∙◌, subst, append_assoc, arith, ltb}
use Rattle.std.specs.Bool.{then_some}
use Rattle.rows.specs.declared.decode.Term.TheVariants.{Number, Variable, Pair}
use Rattle.rows.specs.declared.decode.Operator.{Operator}
use Rattle.rows.specs.Decode.{term_at}
use Rattle.rows.proofs.Terms.{deep_e_operation, ok_operation, TermStanding, at_num, at_var, at_pair}
use Rattle.rows.proofs.ExpressionLaws.{shallow, no_term, term_there}
use Rattle.judging.specs.Judging.{Verdict, VariablesSay, AllVariablesSay}
use Rattle.model.specs.Program.{Expression}
use Rattle.model.specs.Rows.{row_e, row_es, deep_e, deep_es}
use Rattle.model.specs.Keeps.{ok, oks}

module _ (s : List ℕ) (i d n : ℕ) where
  pub deep_says : d ≡ 0 → VariablesSay s i d n None
  deep_says z e x h p = absurd (shallow s i d z e x h p)

  pub none_says : None ≡ term_at s i → VariablesSay s i d n None
  none_says is e x h p = absurd (no_term s i d is e x h p)

  pub number_says : {m : ℕ} → Some (Number m) ≡ term_at s i → VariablesSay s i d n (Some (i + 2))
  number_says {m} is e x h p = go e (term_there s i e x (Number m) h is)
    where
      go : (e : Expression) → TermStanding s i x (Number m) e → Verdict s x (ok n e) (Some (i + 2))
      go e (at_num r) = (refl, r)

  pub variable_says : {y : ℕ} {r : Option ℕ} → Some (Variable y) ≡ term_at s i → r ≡ then_some (ltb y n) (i + 2) → VariablesSay s i d n r
  variable_says {y} {r} is e1 e x h p = subst (Verdict s x (ok n e)) (sym e1) (go e (term_there s i e x (Variable y) h is))
    where
      either : drop (i + 2) s ≡ x → (b : Bool) → Verdict s x b (then_some b (i + 2))
      either r true = (refl, r)
      either r false = refl

      go : (e : Expression) → TermStanding s i x (Variable y) e → Verdict s x (ok n e) (then_some (ltb y n) (i + 2))
      go e (at_var r) = either r (ltb y n)

  module _ {o : Operator} {f : ℕ} (is : Some (Pair o f) ≡ term_at s i) (pos : 0 < d) where
    pub first_missing : VariablesSay s f (d - 1) n None → VariablesSay s i d n None
    first_missing a e x h p = go e (term_there s i e x (Pair o f) h is) p
      where
        go : (e : Expression) → TermStanding s i x (Pair o f) e → deep_e e ≤ d → Verdict s x (ok n e) None
        go e (at_pair b c r) p =
            let q = deep_e_operation o b c in
            let v : ok n b ≡ false = a b (row_e c ++ x) r (omega arith) in
            ok_operation n o b c ∙ rw v

    pub second_says : (j : ℕ) (r : Option ℕ) → VariablesSay s f (d - 1) n (Some j) → VariablesSay s j (d - 1) n r → VariablesSay s i d n r
    second_says j r a a2 e x h p = go e (term_there s i e x (Pair o f) h is) p
      where
        both : (b c : Bool) (r : Option ℕ) → b ≡ true → Verdict s x c r → Verdict s x (b && c) r
        both true c r e v = v
        both false c r e v = let z : ◌≡◌ {A = ℕ} 0 1 = cc in absurd (omega arith)

        go : (e : Expression) → TermStanding s i x (Pair o f) e → deep_e e ≤ d → Verdict s x (ok n e) r
        go e (at_pair b c q) p =
            let w = deep_e_operation o b c in
            let v = a b (row_e c ++ x) q (omega arith) in
            let v2 = a2 c x v.1 (omega arith) in
            subst (λ t. Verdict s x t r) (sym (ok_operation n o b c)) (both (ok n b) (ok n c) r v.0 v2)

-- So many expressions from place i on were passed, up to place j, and their variables are there: the rest decides.
pub record Rest (s : List ℕ) (j d n left : ℕ) (x : List ℕ) (b : Bool) : Type 0 where
  pub them : List Expression
  pub many : length them ≡ left
  pub rows : drop j s ≡ row_es them ++ x
  pub deeps : deep_es them ≤ d
  pub same : b ≡ oks n them

pub record Checked (s : List ℕ) (i d n count k j : ℕ) : Type 0 where
  pub on : (es : List Expression) (x : List ℕ) → length es ≡ count → drop i s ≡ row_es es ++ x → deep_es es ≤ d → Rest s j d n (count - k) x (oks n es)
  pub order : i ≤ j
  pub within : i ≤ length s → j ≤ length s

module _ {s : List ℕ} {i d n count k j : ℕ} (a : Checked s i d n count k j) (lt : k < count) where
  first_of : {A : Type 0} (es : List Expression) (x : List ℕ) → length es ≡ count - k → drop j s ≡ row_es es ++ x → deep_es es ≤ d →
      ((e : Expression) (fs : List Expression) → es ≡ e ∷ fs → length fs ≡ count - (k + 1) → drop j s ≡ row_e e ++ (row_es fs ++ x) → deep_e e ≤ d → deep_es fs ≤ d → A) → A
  first_of [] x m h p f = absurd (omega arith)
  first_of (e ∷ fs) x m h p f = f e fs refl (omega arith) (h ∙ append_assoc (row_e e) (row_es fs) x) (omega arith) (omega arith)

  pub checked_more : {l : ℕ} → VariablesSay s j d n (Some l) → (j < l) × (l ≤ length s) → Checked s i d n count (k + 1) l
  checked_more {l} v behind = record {
    on = λ es x m h p.
        let r = a.on es x m h p in
        first_of r.them x r.many r.rows r.deeps (λ e fs all many rows de dfs.
        let u = v e (row_es fs ++ x) rows de in
        let eq : oks n r.them ≡ oks n fs = ap (oks n) all ∙ ap (λ b. b && oks n fs) u.0 in
        record { them = fs; many = many; rows = u.1; deeps = dfs; same = r.same ∙ eq });
    order = let o = a.order in omega arith;
    within = λ h. behind.1;
  }

  pub checked_missing : VariablesSay s j d n None → AllVariablesSay s i d n count None
  checked_missing v es x m h p =
      let r = a.on es x m h p in
      first_of r.them x r.many r.rows r.deeps (λ e fs all many rows de dfs.
      let u : ok n e ≡ false = v e (row_es fs ++ x) rows de in
      r.same ∙ (ap (oks n) all ∙ ap (λ b. b && oks n fs) u))
