-- What a start comes to, from the process that is found and what is handed on; and the lists that a call has.
use Rattle.std.proofs.Common.{◌≡◌, ℕ, ◌+◌, ◌-◌, ◌<◌, Bool, true, false, ◌&&◌, eqb, List, [], ◌∷◌, ◌++◌, length, take as front, drop, Some, None, sym, ap, subst, ◌∙◌, arith, length-append, eq-eqb}
use mathlib.Core.Option.{some}
use Rattle.std.proofs.Math.Bool.{and-false}
use Rattle.std.proofs.Math.Seq.{take-append_seam}
use Rattle.rows.specs.declared.decode.Call.{Call}
use Rattle.rows.specs.declared.decode.Head.{Head}
use Rattle.rows.specs.declared.lookup.Rows.{Rows}
use Rattle.rows.specs.Mapped.{Of, ProcessFound}
use Rattle.judging.specs.declared.conversations.Conversations.{Conversations}
use Rattle.judging.specs.declared.course.Course.TheVariants.{On}
use Rattle.judging.specs.declared.setting.Setting.{Setting}
use Rattle.judging.specs.Following.{words, keeping, StartSays, StartLooks}
use Rattle.judging.specs.Judging.{AllVariablesSay}
use Rattle.judging.specs.Program.{Begins}
use Rattle.judging.specs.Standing.{stand}
use Rattle.judging.proofs.HandingLaws.{hands_length}
use Rattle.model.specs.Program.{nth, Program}
use Rattle.model.specs.Rows.{row_a}
use Rattle.model.specs.Keeps.{At, then, hands, first, rest, oks}

-- so many words at a place, where a list of so many is written
pub words_listed : (s cs x : List ℕ) (i n : ℕ) → length cs ≡ n → drop i s ≡ cs ++ x → front n (drop i s) ≡ cs
words_listed s cs x i n many h = ap (λ (k : ℕ). front k (drop i s)) (sym many) ∙ (ap (front (length cs)) h ∙ take-append_seam cs x)

pub points_found : (s second : List ℕ) (g : Program) (i : ℕ) (h : Head) (p : ProcessFound s second g i h) → front (h.talks + h.count - h.talks) (drop h.talks s) ≡ p.it.talks
points_found s second g i h p =
    let c = p.head.count in
    let n : length p.it.talks ≡ h.talks + h.count - h.talks = omega arith in
    words_listed s p.it.talks _ h.talks (h.talks + h.count - h.talks) n p.head.talks

module _ {r : Rows} {g : Program} {f : ℕ} {h : Head} {points : List ℕ} (b : Begins r g f h points) {many t : ℕ} {ts : List ℕ} (numbers : many ≡ h.numbers) (begins : points ≡ t ∷ ts) (a : At) (cs : List ℕ) where
  start_opens : (k : At → Bool) →
      then (nth g.procs f) (λ p. eqb many p.nums && then (hands a cs (rest p.talks)) (λ b. then (first p.talks) (λ t. then (nth g.other t) (λ u. k (b ++ (some u ∷ []))))))
      ≡ then (hands a cs ts) (λ b. then (nth g.other t) (λ u. k (b ++ (some u ∷ []))))
  start_opens k =
      let p = b.found.it in
      let talks : p.talks ≡ t ∷ ts = sym b.talks ∙ begins in
      let e : eqb many p.nums ≡ true = eq-eqb many p.nums (numbers ∙ b.found.head.numbers) in
      ap (λ o. then o (λ p. eqb many p.nums && then (hands a cs (rest p.talks)) (λ b. then (first p.talks) (λ t. then (nth g.other t) (λ u. k (b ++ (some u ∷ []))))))) b.found.is
      ∙ (ap (λ q. q && then (hands a cs (rest p.talks)) (λ b. then (first p.talks) (λ t. then (nth g.other t) (λ u. k (b ++ (some u ∷ [])))))) e
      ∙ ap (λ l. then (hands a cs (rest l)) (λ b. then (first l) (λ t. then (nth g.other t) (λ u. k (b ++ (some u ∷ [])))))) talks)

  pub start_goes : {left : At} {u : ℕ} (c : Conversations) → hands a cs ts ≡ some left → nth g.other t ≡ some u → stand c ≡ left ++ (some u ∷ []) → StartSays g a f cs many (Some c)
  start_goes {left} {u} c hs other after =
      let l1 = length-append left (some u ∷ []) in
      let l2 = hands_length a cs ts left hs in
      let l3 = ap length after in
      ((λ k. start_opens k ∙ (ap (λ o. then o (λ b. then (nth g.other t) (λ u. k (b ++ (some u ∷ []))))) hs ∙ (ap (λ o. then o (λ u. k (left ++ (some u ∷ [])))) other ∙ ap k (sym after)))), omega arith)

-- a start, where the numbers are as many as the expressions
starting : Program → At → ℕ → List ℕ → ℕ → (At → Bool) → Bool
starting g a f cs many k =
    then (nth g.procs f) (λ p. eqb many p.nums && then (hands a cs (rest p.talks)) (λ b. then (first p.talks) (λ t. then (nth g.other t) (λ u. k (b ++ (some u ∷ []))))))

module _ (w : Setting) (k : Call) (cs : List ℕ) (d : ℕ) (a : At) where
  pub start_careless : Of w.rows (λ g. length a < 16 → StartSays g a k.process cs k.expressions None) → StartLooks w k cs d a None
  unfolding starting
  start_careless st g known es t x le de deeps room =
      let e = subst (λ (n : ℕ). starting g a k.process cs n (keeping w g t) ≡ false) (sym le) (st g known (omega arith) (keeping w g t)) in
      ap (λ q. oks w.variables es && q) e ∙ and-false (oks w.variables es)

  pub start_on : {next : ℕ} (c : Conversations) → AllVariablesSay (words w) k.numbers d w.variables k.expressions (Some next) →
      Of w.rows (λ g. length a < 16 → StartSays g a k.process cs k.expressions (Some c)) → StartLooks w k cs d a (Some (On next c))
  unfolding starting
  start_on {next} c vars st g known es t x le de deeps room =
      let s = st g known (omega arith) in
      let v = vars es (row_a t ++ x) le de (omega arith) in
      let e = subst (λ (n : ℕ). starting g a k.process cs n (keeping w g t) ≡ keeping w g t (stand c)) (sym le) (s.0 (keeping w g t)) in
      let l = s.1 in
      record {
        it = t;
        rows = v.1;
        deeps = omega arith;
        room = omega arith;
        same = ap (λ q. q && starting g a k.process cs (length es) (keeping w g t)) v.0 ∙ e;
      }
