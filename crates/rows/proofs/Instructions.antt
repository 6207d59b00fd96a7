-- The instruction at a place is exactly the beginning of the action that is written there.
use Rattle.std.proofs.Common.{◌≡◌, ℕ, ◌+◌, List, ◌∷◌, ◌++◌, length, drop, Some, refl, ◌∙◌, append_assoc, arith, length-append}
use lib.Seq.{drop-append_seam}
use Rattle.rows.specs.declared.decode.Call.{Call}
use Rattle.rows.specs.declared.decode.Instruction.{Instruction}
use Rattle.rows.specs.declared.decode.Instruction.TheVariants.{Stop, Give, Take, Choose, Offer, Set, If, Show, Start, Become}
use Rattle.rows.specs.Decode.{instruction_at, call_at}
use Rattle.rows.proofs.Places.{word_at, word_here, words_left, rest_at}
use Rattle.model.specs.Program.{Expression, Action, stop, give, take, choose, offer, set, if, show, start, become}
use Rattle.model.specs.Rows.{row_e, row_es, row_a}

-- The operands of a call are those of a start or become of process f, handing on conversations cs and numbers es, with y behind them.
pub record CallIs (s : List ℕ) (k : Call) (f : ℕ) (cs : List ℕ) (es : List Expression) (y : List ℕ) : Type 0 where
  pub process : k.process ≡ f
  pub count : k.count ≡ length cs
  pub listed : drop k.conversations s ≡ cs ++ (length es ∷ (row_es es ++ y))
  pub expressions : k.expressions ≡ length es
  pub numbers : drop k.numbers s ≡ row_es es ++ y

-- An instruction at place i is the beginning of an action with the words x behind it.
pub data Standing (s : List ℕ) (i : ℕ) (x : List ℕ) : Instruction → Action → Type 0 where
  at_stop : drop (i + 1) s ≡ x → Standing s i x Stop stop
  at_give : {c v : ℕ} {e : Expression} {t : Action} → drop v s ≡ row_e e ++ (row_a t ++ x) → Standing s i x (Give c v) (give c e t)
  at_take : {c y n : ℕ} {t : Action} → drop n s ≡ row_a t ++ x → Standing s i x (Take c y n) (take c y t)
  at_choose : {c k n : ℕ} {t : Action} → drop n s ≡ row_a t ++ x → Standing s i x (Choose c k n) (choose c k t)
  at_offer : {c f : ℕ} {t u : Action} → drop f s ≡ row_a t ++ (row_a u ++ x) → Standing s i x (Offer c f) (offer c t u)
  at_set : {y v : ℕ} {e : Expression} {t : Action} → drop v s ≡ row_e e ++ (row_a t ++ x) → Standing s i x (Set y v) (set y e t)
  at_if : {v : ℕ} {e : Expression} {t u : Action} → drop v s ≡ row_e e ++ (row_a t ++ (row_a u ++ x)) → Standing s i x (If v) (if e t u)
  at_show : {v : ℕ} {e : Expression} {t : Action} → drop v s ≡ row_e e ++ (row_a t ++ x) → Standing s i x (Show v) (show e t)
  at_start : {k : Call} {f : ℕ} {cs : List ℕ} {es : List Expression} {t : Action} → CallIs s k f cs es (row_a t ++ x) → Standing s i x (Start k) (start f cs es t)
  at_become : {k : Call} {f : ℕ} {cs : List ℕ} {es : List Expression} → CallIs s k f cs es x → Standing s i x (Become k) (become f cs es)

-- What stands at a place is found there.
pub record Found (s : List ℕ) (i : ℕ) (x : List ℕ) (t : Action) : Type 0 where
  pub it : Instruction
  pub is : instruction_at s i ≡ Some it
  pub standing : Standing s i x it t

call_made : ℕ → ℕ → List ℕ → List Expression → Call
call_made i f cs es = record { process = f; conversations = i + 3; count = length cs; numbers = i + 4 + length cs; expressions = length es }

module _ (s : List ℕ) (i w f : ℕ) (cs : List ℕ) (es : List Expression) (y : List ℕ) (h : drop i s ≡ w ∷ f ∷ length cs ∷ (cs ++ (length es ∷ (row_es es ++ y)))) where
  call_listed : drop (i + 3) s ≡ cs ++ (length es ∷ (row_es es ++ y))
  call_listed = rest_at s i 3 h

  call_rest : drop (i + 3 + length cs) s ≡ length es ∷ (row_es es ++ y)
  call_rest = rest_at s (i + 3) (length cs) call_listed ∙ drop-append_seam cs (length es ∷ (row_es es ++ y))

  call_numbers : drop (i + 4 + length cs) s ≡ row_es es ++ y
  call_numbers =
      let e : i + 4 + length cs ≡ i + 3 + length cs + 1 = omega arith in
      rw e (rest_at s (i + 3 + length cs) 1 call_rest)

  call_is : CallIs s (call_made i f cs es) f cs es y
  unfolding call_made
  call_is = record { process = refl; count = refl; listed = call_listed; expressions = refl; numbers = call_numbers }

  call_found : call_at s i ≡ Some (call_made i f cs es)
  unfolding call_made
  call_found =
      let a = word_at s i 1 h in
      let b = word_at s i 2 h in
      let m = word_here s (i + 3 + length cs) call_rest in
      let n = words_left s i h in
      let l = length-append cs (length es ∷ (row_es es ++ y)) in
      grind arith

pub instruction_found : (s : List ℕ) (i : ℕ) (t : Action) (x : List ℕ) → drop i s ≡ row_a t ++ x → Found s i x t
instruction_found s i stop x h =
    let a = word_here s i h in
    let n = words_left s i h in
    record { it = Stop; is = grind arith; standing = at_stop (rest_at s i 1 h) }
instruction_found s i (give c e t) x h =
    let a = word_here s i h in
    let b = word_at s i 1 h in
    let n = words_left s i h in
    record { it = Give c (i + 2); is = grind arith; standing = at_give (rest_at s i 2 h ∙ append_assoc (row_e e) (row_a t) x) }
instruction_found s i (take c y t) x h =
    let a = word_here s i h in
    let b = word_at s i 1 h in
    let d = word_at s i 2 h in
    let n = words_left s i h in
    record { it = Take c y (i + 3); is = grind arith; standing = at_take (rest_at s i 3 h) }
instruction_found s i (choose c k t) x h =
    let a = word_here s i h in
    let b = word_at s i 1 h in
    let d = word_at s i 2 h in
    let n = words_left s i h in
    record { it = Choose c k (i + 3); is = grind arith; standing = at_choose (rest_at s i 3 h) }
instruction_found s i (offer c t u) x h =
    let a = word_here s i h in
    let b = word_at s i 1 h in
    let n = words_left s i h in
    record { it = Offer c (i + 2); is = grind arith; standing = at_offer (rest_at s i 2 h ∙ append_assoc (row_a t) (row_a u) x) }
instruction_found s i (set y e t) x h =
    let a = word_here s i h in
    let b = word_at s i 1 h in
    let n = words_left s i h in
    record { it = Set y (i + 2); is = grind arith; standing = at_set (rest_at s i 2 h ∙ append_assoc (row_e e) (row_a t) x) }
instruction_found s i (if e t u) x h =
    let a = word_here s i h in
    let n = words_left s i h in
    record { it = If (i + 1); is = grind arith; standing = at_if (rest_at s i 1 h ∙ simp append_assoc) }
instruction_found s i (show e t) x h =
    let a = word_here s i h in
    let n = words_left s i h in
    record { it = Show (i + 1); is = grind arith; standing = at_show (rest_at s i 1 h ∙ append_assoc (row_e e) (row_a t) x) }
instruction_found s i (start f cs es t) x h =
    let h' : drop i s ≡ 8 ∷ f ∷ length cs ∷ (cs ++ (length es ∷ (row_es es ++ (row_a t ++ x)))) = h ∙ simp append_assoc in
    let k = call_found s i 8 f cs es (row_a t ++ x) h' in
    let a = word_here s i h in
    let n = words_left s i h in
    record { it = Start (call_made i f cs es); is = grind arith; standing = at_start (call_is s i 8 f cs es (row_a t ++ x) h') }
instruction_found s i (become f cs es) x h =
    let h' : drop i s ≡ 9 ∷ f ∷ length cs ∷ (cs ++ (length es ∷ (row_es es ++ x))) = h ∙ simp append_assoc in
    let k = call_found s i 9 f cs es x h' in
    let a = word_here s i h in
    let n = words_left s i h in
    record { it = Become (call_made i f cs es); is = grind arith; standing = at_become (call_is s i 9 f cs es x h') }
