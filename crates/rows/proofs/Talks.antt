-- A give, take, choose or offer is found by itself exactly where it is found among all instructions; likewise a number or
-- variable among all expressions.
use Rattle.std.proofs.Common.{◌≡◌, ℕ, List, Some, None, arith}
use Rattle.rows.specs.declared.decode.Instruction.{Instruction}
use Rattle.rows.specs.declared.decode.Instruction.TheVariants.{Stop, Give, Take, Choose, Offer, Set, If, Show, Start, Become}
use Rattle.rows.specs.declared.decode.Term.{Term}
use Rattle.rows.specs.Decode.{instruction_at, talk_at, term_at, leaf_at}

-- a give, take, choose or offer
pub data Talk : Instruction → Type 0 where
  gives : (c v : ℕ) → Talk (Give c v)
  takes : (c x n : ℕ) → Talk (Take c x n)
  chooses : (c k n : ℕ) → Talk (Choose c k n)
  offers : (c f : ℕ) → Talk (Offer c f)

module _ (s : List ℕ) (i : ℕ) where
  pub talk_found : (k : Instruction) → Some k ≡ talk_at s i → Some k ≡ instruction_at s i
  talk_found k e = grind arith

  pub give_talks : (c v : ℕ) → Some (Give c v) ≡ instruction_at s i → Some (Give c v) ≡ talk_at s i
  give_talks c v e = grind arith

  pub take_talks : (c x n : ℕ) → Some (Take c x n) ≡ instruction_at s i → Some (Take c x n) ≡ talk_at s i
  take_talks c x n e = grind arith

  pub choose_talks : (c k n : ℕ) → Some (Choose c k n) ≡ instruction_at s i → Some (Choose c k n) ≡ talk_at s i
  choose_talks c k n e = grind arith

  pub offer_talks : (c f : ℕ) → Some (Offer c f) ≡ instruction_at s i → Some (Offer c f) ≡ talk_at s i
  offer_talks c f e = grind arith

  -- only these are found by themselves
  pub talks_only : (k : Instruction) → Some k ≡ talk_at s i → Talk k
  talks_only Stop e = absurd (grind arith)
  talks_only (Give c v) e = gives c v
  talks_only (Take c x n) e = takes c x n
  talks_only (Choose c k n) e = chooses c k n
  talks_only (Offer c f) e = offers c f
  talks_only (Set x v) e = absurd (grind arith)
  talks_only (If v) e = absurd (grind arith)
  talks_only (Show v) e = absurd (grind arith)
  talks_only (Start k) e = absurd (grind arith)
  talks_only (Become k) e = absurd (grind arith)

  -- and where none is found, none stands
  pub talks_none : (k : Instruction) → None ≡ talk_at s i → Some k ≡ instruction_at s i → Talk k → ⊥
  talks_none k n e (gives c v) = let t = give_talks c v e in let z : ◌≡◌ {A = ℕ} 0 1 = cc in omega arith
  talks_none k n e (takes c x m) = let t = take_talks c x m e in let z : ◌≡◌ {A = ℕ} 0 1 = cc in omega arith
  talks_none k n e (chooses c w m) = let t = choose_talks c w m e in let z : ◌≡◌ {A = ℕ} 0 1 = cc in omega arith
  talks_none k n e (offers c f) = let t = offer_talks c f e in let z : ◌≡◌ {A = ℕ} 0 1 = cc in omega arith

  pub leaf_found : (k : Term) → Some k ≡ leaf_at s i → Some k ≡ term_at s i
  leaf_found k e = grind arith
