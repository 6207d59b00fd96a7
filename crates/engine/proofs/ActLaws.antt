-- What an instruction says of the process that is at it.
use Rattle.std.proofs.Common.{◌≡◌, ℕ, List, Some, None, sym, refl, ap, ◌∙◌, subst, arith}
use mathlib.Core.Option.{some}
use Rattle.rows.specs.declared.decode.Instruction.{Instruction}
use Rattle.rows.specs.declared.decode.Instruction.TheVariants.{Stop, Give, Take, Choose, Offer, Set, If, Show, Start, Become}
use Rattle.rows.specs.declared.decode.Call.{Call}
use Rattle.rows.specs.Decode.{instruction_at, talk_at, conversation_in, Words}
use Rattle.rows.proofs.Talks.{gives, takes, chooses, offers, talk_found, talks_none}
use Rattle.rows.proofs.Instructions.{instruction_found}
use Rattle.model.specs.Program.{nth, Program}
use Rattle.model.specs.Steps.{Worker, Configuration}
use Rattle.records.specs.Records.{record_at}
use Rattle.turns.specs.Scheduling.{wish}
use Rattle.turns.specs.Turning.{Before}
use Rattle.turns.specs.Meeting.{Doing}
use Rattle.turns.proofs.Queue.{in_here}
use Rattle.turns.proofs.Found.{standing, talk_wish}

pub doing : (s : List ℕ) (procs : List (List ℕ)) (i at : ℕ) (k l : Instruction) → at ≡ (record_at procs i).place → Some k ≡ instruction_at s at → k ≡ l → Words s at k → Doing s procs i l
doing s procs i at k l e is kind words = record {
  is = ap Some (sym kind) ∙ (is ∙ ap (instruction_at s) e);
  words = subst (λ (p : ℕ). Words s p l) e (subst (Words s at) kind words);
}

module _ (s m : List ℕ) (procs lines : List (List ℕ)) (count i : ℕ) (g : Program) (a : Configuration) (q : List ℕ) (b : Before s m g procs lines count i a q) (at : ℕ) (is_at : at ≡ (record_at procs i).place) where
  pub nothing_there : None ≡ instruction_at s at → ⊥
  nothing_there n =
      let w = b.scheduled.ready i (in_here i q) in
      let h = b.holding.each i w.worker w.there in
      let f = instruction_found s (record_at procs i).place w.worker.todo h.behind h.rows in
      let e = f.is in
      let n' : None ≡ instruction_at s (record_at procs i).place = n ∙ ap (instruction_at s) is_at in
      let z : ◌≡◌ {A = ℕ} 0 1 = cc in omega arith

  -- a give, take, choose or offer waits in its conversation
  pub wish_talk : (k : Instruction) → Some k ≡ talk_at s at → (w : Worker) → nth a.workers i ≡ some w → wish w.todo ≡ some (conversation_in k)
  wish_talk k is w n = talk_wish s at (b.holding.each i w n).behind k w.todo is (standing (b.holding.each i w n) at k k is_at (talk_found s at k is) refl)

-- what is none of these and none of the others is nothing
pub nothing_else : (s : List ℕ) (at : ℕ) (k : Instruction) → None ≡ talk_at s at → Some k ≡ instruction_at s at → (k ≡ Stop → ⊥) → ((x v : ℕ) → k ≡ Set x v → ⊥) → ((v : ℕ) → k ≡ If v → ⊥) → ((v : ℕ) → k ≡ Show v → ⊥) →
    ((c : Call) → k ≡ Start c → ⊥) → ((c : Call) → k ≡ Become c → ⊥) → ⊥
nothing_else s at Stop n e a b c d f g = a refl
nothing_else s at (Give x v) n e a b c d f g = talks_none s at (Give x v) n e (gives x v)
nothing_else s at (Take x y m) n e a b c d f g = talks_none s at (Take x y m) n e (takes x y m)
nothing_else s at (Choose x y m) n e a b c d f g = talks_none s at (Choose x y m) n e (chooses x y m)
nothing_else s at (Offer x y) n e a b c d f g = talks_none s at (Offer x y) n e (offers x y)
nothing_else s at (Set x v) n e a b c d f g = b x v refl
nothing_else s at (If v) n e a b c d f g = c v refl
nothing_else s at (Show v) n e a b c d f g = d v refl
nothing_else s at (Start x) n e a b c d f g = f x refl
nothing_else s at (Become x) n e a b c d f g = g x refl
