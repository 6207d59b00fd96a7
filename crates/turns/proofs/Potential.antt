-- Sums over records, and by how much they fall.
use Rattle.std.proofs.Common.{◌≡◌, ℕ, zero, suc, ◌+◌, ◌<◌, ◌≤◌, List, [], ◌∷◌, ◌++◌, length, sym, ap, inl, inr, arith}
use Rattle.model.proofs.Lists.{same?}
use Rattle.records.specs.Tables.{table}
use Rattle.records.specs.Records.{record_at}
use Rattle.records.proofs.TableLaws.{table_snoc}
use Rattle.turns.specs.Holding.{weight, sum, potential}

pub sum_append : (xs ys : List ℕ) → sum (xs ++ ys) ≡ sum xs + sum ys
sum_append [] ys = omega arith
sum_append (x ∷ xs) ys = let t = sum_append xs ys in omega arith

pub sum_le : (f h : ℕ → ℕ) (b n : ℕ) → ((k : ℕ) → b ≤ k → k < b + n → h k ≤ f k) → sum (table h b n) ≤ sum (table f b n)
sum_le f h b zero le = omega arith
sum_le f h b (suc n) le =
    let a = le b (omega arith) (omega arith) in
    let t = sum_le f h (suc b) n (λ k p q. le k (omega arith) (omega arith)) in
    omega arith

-- one falls by d, none rises
pub sum_drop : (f h : ℕ → ℕ) (b n i d : ℕ) → b ≤ i → i < b + n → ((k : ℕ) → b ≤ k → k < b + n → (k ≡ i → ⊥) → h k ≤ f k) → h i + d ≤ f i → sum (table h b n) + d ≤ sum (table f b n)
sum_drop f h b zero i d lo hi le drop = absurd (omega arith)
sum_drop f h b (suc n) i d lo hi le drop = elim (same? i b) [
  | inl e ↦ (let t = sum_le f h (suc b) n (λ k p q. le k (omega arith) (omega arith) (λ z. omega arith)) in
      let e1 = ap f e in let e2 = ap h e in omega arith)
  | inr ne ↦ (let a = le b (omega arith) (omega arith) (λ z. ne (sym z)) in
      let lo' : suc b ≤ i = omega arith in
      let t = sum_drop f h (suc b) n i d lo' (omega arith) (λ k p q. le k (omega arith) (omega arith)) drop in omega arith)
]

module _ (s : List ℕ) (procs procs' : List (List ℕ)) (count i d : ℕ) (there : i < count) where
  pub potential_drop : ((k : ℕ) → k < count → (k ≡ i → ⊥) → weight (length s) (record_at procs' k) ≤ weight (length s) (record_at procs k)) →
      weight (length s) (record_at procs' i) + d ≤ weight (length s) (record_at procs i) → potential s procs' count + d ≤ potential s procs count
  potential_drop le drop = sum_drop (λ k. weight (length s) (record_at procs k)) (λ k. weight (length s) (record_at procs' k)) 0 count i d (omega arith) (omega arith) (λ k p q ne. le k (omega arith) ne) drop

pub potential_more : (s : List ℕ) (procs : List (List ℕ)) (count : ℕ) → potential s procs (suc count) ≡ potential s procs count + weight (length s) (record_at procs count)
potential_more s procs count =
    let F : ℕ → ℕ = λ k. weight (length s) (record_at procs k) in
    let z : 0 + count ≡ count = omega arith in
    let a = ap sum (table_snoc F 0 count) in
    let b = sum_append (table F 0 count) (F (0 + count) ∷ []) in
    let e = ap F z in
    omega arith
