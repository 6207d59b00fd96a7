use Rattle.std.proofs.Common.{◌∙◌}
use Rattle.judging.proofs.ProgramTests.{process_crowded, process_says}
use Rattle.judging.proofs.program.process_keeps.Goals as goal

pub returns-in_default-begun : goal.returns-in_default-begun
returns-in_default-begun c g known = absurd (process_crowded known (c.in-Some.ensures g known) c.in_default-begun.ensures)

pub returns : goal.returns
returns c g known =
    c.is_some.ensures ∙ process_says known (c.in-Some.ensures g known) c.in-Some-begun.conversations c.keeps_from.result c.in-Some-begun.ensures c.keeps_from.ensures.says
