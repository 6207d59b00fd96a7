use Rattle.std.proofs.Common.{refl}
use Rattle.records.specs.Records.{endpoint}
use Rattle.looking.proofs.PairLaws.{first_nowhere, second_nowhere, ends_apart, nothing_apart, something, exchanged}
use Rattle.looking.proofs.pairs.exchange_facing.Goals as goal

pub returns-in_default : goal.returns-in_default
returns-in_default c = (refl, first_nowhere c.args.rows.now.words.now c.args.rows.now.map.now.second c.args.processes.now c.args.i c.args.j c.in_default.ensures)

pub returns-in_default-waits_at : goal.returns-in_default-waits_at
returns-in_default-waits_at c = (refl, second_nowhere c.args.rows.now.words.now c.args.rows.now.map.now.second c.args.processes.now c.args.i c.args.j c.in_default-waits_at.ensures)

pub returns-then-not-face : goal.returns-then-not-face
returns-then-not-face c = (refl, ends_apart c.args.rows.now.words.now c.args.rows.now.map.now.second c.args.processes.now c.args.i c.args.j (endpoint c.in-Some.e) (endpoint c.in-Some-waits_at.d) c.in-Some.ensures c.in-Some-waits_at.ensures c.if-not-face.ensures)

pub returns-in_default-instruction_at : goal.returns-in_default-instruction_at
returns-in_default-instruction_at c = (
  refl,
  nothing_apart c.args.rows.now.words.now c.args.rows.now.map.now.second c.args.processes.now c.args.i c.args.j (endpoint c.in-Some.e) (endpoint c.in-Some-waits_at.d) c.in-Some.ensures c.in-Some-waits_at.ensures
      (λ n w h. something c.args.rows.now.words.now c.args.rows.now.map.now.second c.args.processes.now c.args.i c.args.j n w h c.place.result c.place.ensures.place c.in_default-instruction_at.ensures.is),
)

pub returns : goal.returns
returns c = exchanged c.args.rows.now.words.now c.args.rows.now.map.now.second c.args.processes.now c.args.i c.args.j (endpoint c.in-Some.e) (endpoint c.in-Some-waits_at.d) c.in-Some.ensures c.in-Some-waits_at.ensures
    c.exchange.new.processes c.exchange.result c.if-not-face.ensures c.exchange.ensures
