-- Looking up points and processes of a program that was read comes to those of the program.
use Rattle.std.proofs.Common.{◌≡◌, ℕ, zero, suc, ◌<◌, ◌≤◌, List, [], ◌∷◌, length, get_or, drop, Some, Option, sym, refl, ap, ◌∙◌, subst, ◌⊎◌, inl, inr, arith}
use mathlib.Core.Option.{some, none}
use Rattle.rows.specs.declared.decode.Head.{Head}
use Rattle.rows.specs.declared.decode.PointKind.{PointKind}
use Rattle.rows.specs.declared.map.Map.{Map}
use Rattle.rows.specs.Decode.{point_at, head_at}
use Rattle.rows.specs.Reading.{Seconds}
use Rattle.rows.specs.Mapped.{ProcessAt, Known, PointIs, ProcessIs}
use Rattle.rows.proofs.PointLaws.{point_found}
use Rattle.rows.proofs.ProcessLaws.{head_made, head_there, head_found}
use Rattle.model.specs.Program.{nth, Program}
use Rattle.model.proofs.Lists.{nth_there}

pub nth_past : {A : Type 0} (xs : List A) (i : ℕ) → length xs ≤ i → nth xs i ≡ none
nth_past [] i h = refl
nth_past (x ∷ xs) zero h = absurd (omega arith)
nth_past (x ∷ xs) (suc i) h = nth_past xs i (omega arith)

module _ {s : List ℕ} {m : Map} {g : Program} (known : Known s m g) (i : ℕ) where
  pub no_point : (m.points.count ≤ i) ⊎ (256 ≤ i) → nth g.points i ≡ none
  no_point (inl h) = let e = known.mapped.point_count in nth_past g.points i (omega arith)
  no_point (inr h) = let f = known.reads.points in nth_past g.points i (omega arith)

  pub point_is : {at : ℕ} {r : Option PointKind} → (i < m.points.count) × (i < 256) × (at ≡ get_or m.points.at i 0) → r ≡ point_at s at → PointIs g i r
  point_is {at} {r} get e =
      let c = known.mapped.point_count in
      let p = nth_there g.points i (omega arith) in
      let w = known.mapped.points i p.0 p.1 in
      let f = point_found s at p.0 w.0 (ap (λ (n : ℕ). drop n s) get.2 ∙ w.1) in
      let same : Some f.kind ≡ r = sym (e ∙ f.is) in
      subst (PointIs g i) same (p.1 ∙ ap some (sym f.same))

  pub no_other : m.points.count ≤ i → nth g.other i ≡ none
  no_other h = let e = known.mapped.point_count in let f = known.reads.sides in nth_past g.other i (omega arith)

  pub no_process : (m.processes.count ≤ i) ⊎ (64 ≤ i) → nth g.procs i ≡ none
  no_process (inl h) = let e = known.mapped.process_count in nth_past g.procs i (omega arith)
  no_process (inr h) = let f = known.reads.procs in nth_past g.procs i (omega arith)

  pub process_is : {at : ℕ} {r : Option Head} → (i < m.processes.count) × (i < 64) × (at ≡ get_or m.processes.at i 0) → r ≡ head_at s at → ProcessIs s m.second g i r
  process_is {at} {r} get e =
      let c = known.mapped.process_count in
      let p = nth_there g.procs i (omega arith) in
      let a = subst (λ (n : ℕ). ProcessAt s m.second n p.0) (sym get.2) (known.mapped.processes i p.0 p.1) in
      let f = head_found s at p.0 a.behind a.rows in
      let hd = head_there s at p.0 a.behind a.rows (head_made at p.0) (sym f) in
      subst (ProcessIs s m.second g i) (sym (e ∙ f))
      (record { it = p.0; is = p.1; place = at; behind = a.behind; head = hd; seconds = subst (λ (b : ℕ). Seconds m.second b p.0.body) (sym hd.place) a.seconds })
