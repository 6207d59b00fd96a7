-- Where a start or become is odd, somebody would have too much.
use Rattle.std.proofs.Common.{◌≡◌, ℕ, ◌<◌, ◌⊎◌, List, length, refl, ap, inl, inr, arith}
use Rattle.rows.specs.declared.decode.Call.{Call}
use Rattle.rows.specs.declared.decode.Head.{Head}
use Rattle.rows.specs.declared.decode.Instruction.TheVariants.{Start, Become}
use Rattle.model.specs.Program.{Program}
use Rattle.model.specs.Steps.{Worker}
use Rattle.records.specs.Records.{record_at}
use Rattle.turns.specs.Holding.{Holds}
use Rattle.turns.specs.Meeting.{Doing}
use Rattle.turns.specs.Turning.{Crammed, starting, becoming}
use Rattle.turns.proofs.Found.{standing}
use Rattle.starting.specs.Heads.{HeadIs}
use Rattle.starting.proofs.StartTurns.{StartIs, BecomeIs, start_is, become_is}

module _ (s m : List ℕ) (procs : List (List ℕ)) (i : ℕ) (g : Program) (call : Call) (w : Worker) (h : Holds s m (record_at procs i) w) (head : Head) (f : HeadIs s m g call.process head) where
  module _ (d : Doing s procs i (Start call)) where
    it : StartIs s call w h.behind
    it = start_is s (record_at procs i).place h.behind call w w.todo refl (standing h (record_at procs i).place (Start call) (Start call) refl d.is refl)

    start_crams : (15 < length it.cs) ⊎ ((16 < length it.es) ⊎ (15 < length w.ends)) → Crammed g w
    start_crams z = starting call.process it.cs it.es it.rest f.process it.todo f.is z

    pub start_crams_ends : 15 < call.count → Crammed g w
    start_crams_ends z = start_crams (inl (let e = it.calls.count in omega arith))

    pub start_crams_numbers : 16 < call.expressions → Crammed g w
    start_crams_numbers z = start_crams (inr (inl (let e = it.calls.expressions in omega arith)))

    pub start_crams_own : (n : ℕ) → n ≡ length (record_at procs i).ends → 15 < n → Crammed g w
    start_crams_own n e z = start_crams (inr (inr (let l = ap length h.ends in omega arith)))

  module _ (d : Doing s procs i (Become call)) where
    its : BecomeIs s call w h.behind
    its = become_is s (record_at procs i).place h.behind call w w.todo refl (standing h (record_at procs i).place (Become call) (Become call) refl d.is refl)

    become_crams : (16 < length its.cs) ⊎ (16 < length its.es) → Crammed g w
    become_crams z = becoming call.process its.cs its.es f.process its.todo f.is z

    pub become_crams_ends : 16 < call.count → Crammed g w
    become_crams_ends z = become_crams (inl (let e = its.calls.count in omega arith))

    pub become_crams_numbers : 16 < call.expressions → Crammed g w
    become_crams_numbers z = become_crams (inr (let e = its.calls.expressions in omega arith))
