-- Which ends a record has.
use Rattle.std.proofs.Common.{◌≡◌, ℕ, ◌<◌, ◌≤◌, List, inl, inr, arith}
use mathlib.Core.Option.{some}
use Rattle.model.specs.Steps.{Endpoint, end}
use Rattle.records.specs.Records.{record_of}
use Rattle.records.proofs.RecordLaws.{ends_long, end_past}
use Rattle.model.proofs.Lists.{below?}

-- a record has at most sixteen ends
pub ends_all : (w : List ℕ) (k : ℕ) (e : Endpoint) → 16 ≤ k → ((c : ℕ) → c < k → end (record_of w).ends c ≡ some e → ⊥) → (c : ℕ) → end (record_of w).ends c ≡ some e → ⊥
ends_all w k e h inv c z = elim (below? c k) [
  | inl l ↦ inv c l z
  | inr g ↦ (let n = end_past w c (let l = ends_long w in omega arith) in let y : ◌≡◌ {A = ℕ} 0 1 = cc in omega arith)
]
