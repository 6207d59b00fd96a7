use Rattle.std.proofs.Common.{◌∙◌, [], ap, subst, sym, get_or-set_same, arith}
use Rattle.records.specs.Records.{record_of}
use Rattle.engine.proofs.SettingLaws.{Clear, ready_is, begins_running}
use Rattle.engine.proofs.set_up.set_up.Goals as goal

pub returns-clause-begins : goal.returns-clause-begins
returns-clause-begins c = (
  omega arith,
  λ g shown r reads mapped b.
      begins_running c.args.rows.now.words.now c.args.rows.now.map.now.second shown c.args.turns g c.in-Some.head (c.in-Some.ensures.is g reads mapped) r
      (ap record_of (b.first ∙ get_or-set_same c.args.processes.now 0 c.begin.new.process [] (omega arith)) ∙ c.begin.ensures)
      (subst Clear (sym b.sides) c.clear.ensures)
      (rw (b.ring, b.head, b.ready) (ready_is c.args.slots.now (omega arith))) b.count b.total,
)
