use Rattle.std.proofs.Common.{sym, arith}
use Rattle.rows.proofs.ProgramLaws.{sides_short, no_processes, program_read}
use Rattle.rows.proofs.sections.fill.Goals as goal

pub returns-then-program-sides : goal.returns-then-program-sides
returns-then-program-sides c = sides_short (sym (c.in_ok-count.ensures.item.3.1 0)) c.in_ok-sides.ensures.places c.if-program-sides.true

pub returns-in_err-processes_end : goal.returns-in_err-processes_end
returns-in_err-processes_end c =
    rw c.from_residual-in_err-processes_end.ensures (no_processes (sym (c.in_ok-count.ensures.item.3.1 0)) c.in_ok-sides.ensures.places c.in_err-processes_end.ensures)

pub returns : goal.returns
returns c =
    let first = c.in_ok-count.ensures.item.3 in
    program_read _ (sym (first.1 0)) c.in_ok-sides.ensures.places c.in_ok-processes_end.ensures c.in_ok-sides.ensures.counted (omega arith) c.if-program-sides.false first.0 (omega arith)
