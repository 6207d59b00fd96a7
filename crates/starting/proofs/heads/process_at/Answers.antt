use Rattle.starting.proofs.HeadLaws.{head_of}
use Rattle.starting.proofs.heads.process_at.Goals as goal

pub returns-clause-is : goal.returns-clause-is
returns-clause-is c = head_of c.args.rows.now.words.now c.args.rows.now.map.now c.args.number c.process.result c.process.ensures.is
