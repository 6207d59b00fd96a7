use Rattle.std.proofs.Common.{◌≡◌, inl, inr}
use Rattle.rows.specs.declared.decode.Instruction.{Instruction}
use Rattle.rows.proofs.Passes.{Here, here_as, no_instruction, stop_end, give_leads, give_none, take_leads, choose_leads, set_leads, set_none, show_leads, show_none, offer_parts, if_parts, if_none, start_leads, start_none, start_full, become_end, become_none}
use Rattle.rows.proofs.actions.advance.Goals as goal
use Rattle.rows.proofs.actions.advance.Goals.{In_ok-instruction_at}

-- the instruction that was found, as its arm has it
here : (c : In_ok-instruction_at) {k : Instruction} → c.in_ok-instruction_at.field-0 ≡ k → Here c.args.p.now c.args.at c.args.depth c.args.room k
here c is = here_as (record { is = c.in_ok-instruction_at.ensures.is; words = c.in_ok-instruction_at.ensures.words }) is

pub returns-in_err-instruction_at : goal.returns-in_err-instruction_at
returns-in_err-instruction_at c = rw c.from_residual.ensures (no_instruction c.args.p.now c.args.at c.args.depth c.args.room c.in_err-instruction_at.ensures.is)

pub returns-in-Stop : goal.returns-in-Stop
returns-in-Stop c = stop_end (here (goal.at.returns-in-Stop c).In_ok-instruction_at c.in-Stop.is)

pub returns-in_err-expression_end-in-Give : goal.returns-in_err-expression_end-in-Give
returns-in_err-expression_end-in-Give c =
    let found = (goal.at.returns-in_err-expression_end-in-Give c).In_ok-instruction_at in
    let nope = c.in_err-expression_end-in-Give.ensures in
    rw c.from_residual-in_err-expression_end-in-Give.ensures (elim c.in-Give.is [
      | inl (n, is) ↦ give_none (here found is) nope
      | inr (inl (n, is)) ↦ set_none (here found is) nope
      | inr (inr is) ↦ show_none (here found is) nope
    ])

pub returns-in_ok-expression_end-in-Give : goal.returns-in_ok-expression_end-in-Give
returns-in_ok-expression_end-in-Give c =
    let found = (goal.at.returns-in_ok-expression_end-in-Give c).In_ok-instruction_at in
    let value = c.in_ok-expression_end-in-Give.ensures in
    elim c.in-Give.is [
      | inl (n, is) ↦ give_leads (here found is) value
      | inr (inl (n, is)) ↦ set_leads (here found is) value
      | inr (inr is) ↦ show_leads (here found is) value
    ]

pub returns-in-Take : goal.returns-in-Take
returns-in-Take c = take_leads (here (goal.at.returns-in-Take c).In_ok-instruction_at c.in-Take.is)

pub returns-in-Choose : goal.returns-in-Choose
returns-in-Choose c = choose_leads (here (goal.at.returns-in-Choose c).In_ok-instruction_at c.in-Choose.is)

pub returns-in-Offer : goal.returns-in-Offer
returns-in-Offer c = offer_parts (here (goal.at.returns-in-Offer c).In_ok-instruction_at c.in-Offer.is)

pub returns-in_err-expression_end-in-If : goal.returns-in_err-expression_end-in-If
returns-in_err-expression_end-in-If c =
    rw c.from_residual-in_err-expression_end-in-If.ensures (if_none (here (goal.at.returns-in_err-expression_end-in-If c).In_ok-instruction_at c.in-If.is) c.in_err-expression_end-in-If.ensures)

pub returns-in_ok-expression_end-in-If : goal.returns-in_ok-expression_end-in-If
returns-in_ok-expression_end-in-If c = if_parts (here (goal.at.returns-in_ok-expression_end-in-If c).In_ok-instruction_at c.in-If.is) c.in_ok-expression_end-in-If.ensures

pub returns-in_err-left-in-Start : goal.returns-in_err-left-in-Start
returns-in_err-left-in-Start c =
    rw c.from_residual-in_err-left-in-Start.ensures (start_full (here (goal.at.returns-in_err-left-in-Start c).In_ok-instruction_at c.in-Start.is) c.in_err-left-in-Start.ensures)

pub returns-in_err-next-in-Start : goal.returns-in_err-next-in-Start
returns-in_err-next-in-Start c =
    rw c.from_residual-in_err-next-in-Start.ensures (start_none (here (goal.at.returns-in_err-next-in-Start c).In_ok-instruction_at c.in-Start.is) c.in_err-next-in-Start.ensures)

pub returns-in_ok-next-in-Start : goal.returns-in_ok-next-in-Start
returns-in_ok-next-in-Start c = start_leads (here (goal.at.returns-in_ok-next-in-Start c).In_ok-instruction_at c.in-Start.is) c.in_ok-left-in-Start.ensures c.in_ok-next-in-Start.ensures

pub returns-in_err-end-in-Become : goal.returns-in_err-end-in-Become
returns-in_err-end-in-Become c =
    rw c.from_residual-in_err-end-in-Become.ensures (become_none (here (goal.at.returns-in_err-end-in-Become c).In_ok-instruction_at c.in-Become.is) c.in_err-end-in-Become.ensures)

pub returns-in_ok-end-in-Become : goal.returns-in_ok-end-in-Become
returns-in_ok-end-in-Become c = become_end (here (goal.at.returns-in_ok-end-in-Become c).In_ok-instruction_at c.in-Become.is) c.in_ok-end-in-Become.ensures
