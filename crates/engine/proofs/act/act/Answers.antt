use Rattle.std.proofs.Common.{sym, ap, ◌∙◌, length}
use mathlib.Core.Option.{some}
use Rattle.engine.proofs.ActLaws.{wish_talk}
use Rattle.engine.proofs.act.act.Goals as goal

pub returns-in-Some-clause-turns : goal.returns-in-Some-clause-turns
returns-in-Some-clause-turns c g a q reads mapped b =
    c.communicate.ensures.communicates (length c.args.processes.now) g a q b (λ w n. wish_talk c.args.rows.now.words.now c.args.rows.now.map.now.second c.args.processes.now c.args.lines.now c.args.count c.args.i g a q b c.place.result c.place.ensures.place
    c.in-Some.what c.in-Some.ensures.is w n ∙ ap some (sym c.conversation_in.ensures))
