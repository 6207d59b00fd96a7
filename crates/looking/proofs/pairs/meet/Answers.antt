use Rattle.looking.proofs.PairLaws.{met_one}
use Rattle.looking.proofs.pairs.meet.Goals as goal

pub returns : goal.returns
returns c = met_one c.args.rows.now.words.now c.args.rows.now.map.now.second c.args.processes.now c.args.i c.args.j c.exchange_facing.new.processes c.exchange_facing.result c.if-j-i.false c.if-not-is_running.ensures c.exchange_facing.ensures
