-- The instruction of an action is found where it stands.
use Rattle.std.proofs.Common.{◌≡◌, ℕ, List, ◌++◌, drop, Some, sym, refl, ap, ◌∙◌, subst}
use mathlib.Core.Option.{some}
use Rattle.rows.specs.declared.decode.Instruction.{Instruction}
use Rattle.rows.specs.declared.decode.Instruction.TheVariants.{Give, Take, Choose, Offer}
use Rattle.rows.specs.Decode.{instruction_at, talk_at, conversation_in}
use Rattle.rows.proofs.Talks.{Talk, gives, takes, chooses, offers, talks_only}
use Rattle.rows.proofs.Instructions.{Standing, at_give, at_take, at_choose, at_offer, instruction_found}
use Rattle.rows.proofs.Passes.{there}
use Rattle.model.specs.Program.{Expression, Action, give, take, choose, offer}
use Rattle.model.specs.Steps.{Worker, Together, passes, agrees}
use Rattle.model.specs.Rows.{row_a}
use Rattle.records.specs.Records.{Record}
use Rattle.turns.specs.Holding.{Holds}
use Rattle.turns.specs.Scheduling.{wish}

-- the action of a worker, by the instruction at its place
pub standing : {s m : List ℕ} {r : Record} {w : Worker} (h : Holds s m r w) (at : ℕ) (k l : Instruction) → at ≡ r.place → Some k ≡ instruction_at s at → k ≡ l → Standing s at h.behind l w.todo
standing {s} {w = w} h at k l e is kind = there s at k l w.todo h.behind is kind (subst (λ p. drop p s ≡ row_a w.todo ++ h.behind) (sym e) h.rows)

-- the instructions of two workers that can take a step together
pub data Pairing (s : List ℕ) (i j : ℕ) : Type 0 where
  give_take : (c v d x n : ℕ) → Some (Give c v) ≡ instruction_at s i → Some (Take d x n) ≡ instruction_at s j → Pairing s i j
  choose_offer : (c k n d f : ℕ) → Some (Choose c k n) ≡ instruction_at s i → Some (Offer d f) ≡ instruction_at s j → Pairing s i j

module _ (s : List ℕ) (i : ℕ) (y : List ℕ) where
  give_found : (c : ℕ) (e : Expression) (t : Action) → drop i s ≡ row_a (give c e t) ++ y → (v : ℕ) × (Some (Give c v) ≡ instruction_at s i)
  give_found c e t h = let f = instruction_found s i (give c e t) y h in go f.it f.is f.standing
    where
      go : (k : Instruction) → instruction_at s i ≡ Some k → Standing s i y k (give c e t) → (v : ℕ) × (Some (Give c v) ≡ instruction_at s i)
      go k is (at_give {v = v} r) = (v, sym is)

  take_found : (c x : ℕ) (t : Action) → drop i s ≡ row_a (take c x t) ++ y → (n : ℕ) × (Some (Take c x n) ≡ instruction_at s i)
  take_found c x t h = let f = instruction_found s i (take c x t) y h in go f.it f.is f.standing
    where
      go : (k : Instruction) → instruction_at s i ≡ Some k → Standing s i y k (take c x t) → (n : ℕ) × (Some (Take c x n) ≡ instruction_at s i)
      go k is (at_take {n = n} r) = (n, sym is)

  choose_found : (c x : ℕ) (t : Action) → drop i s ≡ row_a (choose c x t) ++ y → (n : ℕ) × (Some (Choose c x n) ≡ instruction_at s i)
  choose_found c x t h = let f = instruction_found s i (choose c x t) y h in go f.it f.is f.standing
    where
      go : (k : Instruction) → instruction_at s i ≡ Some k → Standing s i y k (choose c x t) → (n : ℕ) × (Some (Choose c x n) ≡ instruction_at s i)
      go k is (at_choose {n = n} r) = (n, sym is)

  offer_found : (c : ℕ) (t u : Action) → drop i s ≡ row_a (offer c t u) ++ y → (f : ℕ) × (Some (Offer c f) ≡ instruction_at s i)
  offer_found c t u h = let f = instruction_found s i (offer c t u) y h in go f.it f.is f.standing
    where
      go : (k : Instruction) → instruction_at s i ≡ Some k → Standing s i y k (offer c t u) → (f : ℕ) × (Some (Offer c f) ≡ instruction_at s i)
      go k is (at_offer {f = f} r) = (f, sym is)

rows_as : {s m : List ℕ} {r : Record} {w : Worker} (h : Holds s m r w) (a : Action) → w.todo ≡ a → drop r.place s ≡ row_a a ++ h.behind
rows_as h a e = h.rows ∙ ap (λ t. row_a t ++ h.behind) e

pub pairing : {s m : List ℕ} {r q : Record} {w v w' v' : Worker} → Holds s m r w → Holds s m q v → Together w v w' v' → Pairing s r.place q.place
pairing {s} {r = r} {q = q} h k (passes c d x e t u a b f) =
    let one = give_found s r.place h.behind c e t (rows_as h (give c e t) a) in
    let two = take_found s q.place k.behind d x u (rows_as k (take d x u) b) in
    give_take c one.0 d x two.0 one.1 two.1
pairing {s} {r = r} {q = q} h k (agrees c d n t u v a b f) =
    let one = choose_found s r.place h.behind c n t (rows_as h (choose c n t) a) in
    let two = offer_found s q.place k.behind d u v (rows_as k (offer d u v) b) in
    choose_offer c n one.0 d two.0 one.1 two.1

-- the conversation in which a worker waits, by its give, take, choose or offer
pub talk_wish : (s : List ℕ) (at : ℕ) (x : List ℕ) (k : Instruction) (t : Action) → Some k ≡ talk_at s at → Standing s at x k t → wish t ≡ some (conversation_in k)
talk_wish s at x k t is = go k (talks_only s at k is) t
  where
    go : (k : Instruction) → Talk k → (t : Action) → Standing s at x k t → wish t ≡ some (conversation_in k)
    go k (gives c v) t (at_give r) = refl
    go k (takes c y z) t (at_take r) = refl
    go k (chooses c y z) t (at_choose r) = refl
    go k (offers c f) t (at_offer r) = refl
