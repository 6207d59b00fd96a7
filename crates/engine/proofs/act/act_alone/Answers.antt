use Rattle.std.proofs.Common.{length}
use Rattle.engine.proofs.ActLaws.{nothing_there}
use Rattle.engine.proofs.act.act_alone.Goals as goal

pub returns-in_default-clause-begins : goal.returns-in_default-clause-begins
returns-in_default-clause-begins c lines g a q reads mapped b = absurd (nothing_there c.args.rows.now.words.now c.args.rows.now.map.now.second c.args.processes.now lines c.args.count c.args.i g a q b c.place.result c.place.ensures.place c.in_default.ensures.is)

pub returns-in-Stop-clause-begins : goal.returns-in-Stop-clause-begins
returns-in-Stop-clause-begins c lines g a q reads mapped b = c.stop.ensures (length c.args.processes.now) lines g a q b

pub returns-in-Set-clause-begins : goal.returns-in-Set-clause-begins
returns-in-Set-clause-begins c lines g a q reads mapped b = c.assign.ensures.acts (length c.args.processes.now) lines g a q b

pub returns-in-If-clause-begins : goal.returns-in-If-clause-begins
returns-in-If-clause-begins c lines g a q reads mapped b = c.fork.ensures.acts (length c.args.processes.now) lines g a q b

pub returns-in-Show-clause-begins : goal.returns-in-Show-clause-begins
returns-in-Show-clause-begins c lines g a q reads mapped b = c.show.ensures.acts (length c.args.processes.now) lines g a q b
