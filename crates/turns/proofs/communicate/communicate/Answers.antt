use Rattle.std.proofs.Common.{false, sym, subst, arith}
use Rattle.records.specs.Records.{endpoint}
use Rattle.turns.specs.Meeting.{Exchanged}
use Rattle.turns.proofs.CommunicationTurns.{turn_nowhere, turn_line, turn_odd, turn_first, turn_other, turn_met, turn_unmet}
use Rattle.turns.proofs.communicate.communicate.Goals.{in-Some-waiter+else-j-count+else-exchange, in_default-waiter}
use Rattle.turns.proofs.communicate.communicate.Goals as goal

pub returns-in_default-clause-communicates : goal.returns-in_default-clause-communicates
returns-in_default-clause-communicates c most g a q b wishes =
    turn_nowhere c.args.rows.now.words.now c.args.rows.now.map.now.second c.args.processes.now c.args.lines.now c.args.count c.args.i c.args.conversation g a q b wishes c.in_default.ensures

pub returns-then-e-count-clause-communicates : goal.returns-then-e-count-clause-communicates
returns-then-e-count-clause-communicates c most g a q b wishes =
    let l = turn_line c.args.rows.now.words.now c.args.rows.now.map.now.second c.args.processes.now c.args.lines.now c.args.count c.args.i c.args.conversation g a q b wishes (endpoint c.in-Some.e) c.in-Some.ensures in
    absurd (omega arith)

pub returns-then-j-count-clause-communicates : goal.returns-then-j-count-clause-communicates
returns-then-j-count-clause-communicates c most g a q b wishes =
    let l = turn_other c.args.rows.now.words.now c.args.rows.now.map.now.second c.args.processes.now c.args.lines.now c.args.count c.args.i c.args.conversation g a q b wishes
    (endpoint c.in-Some.e) c.in-Some.ensures (endpoint c.facing_end-far.result) c.facing_end-far.ensures c.in-Some-waiter.j c.in-Some-waiter.ensures in
    absurd (omega arith)

pub returns-then-exchange-clause-communicates : goal.returns-then-exchange-clause-communicates
returns-then-exchange-clause-communicates c most g a q b wishes =
    turn_met c.args.rows.now.words.now c.args.rows.now.map.now.second c.args.processes.now c.args.lines.now c.args.count c.args.i c.args.conversation g a q b wishes
    (endpoint c.in-Some.e) c.in-Some.ensures (endpoint c.facing_end-far.result) c.facing_end-far.ensures c.in-Some-waiter.j c.in-Some-waiter.ensures
    c.exchange.new.processes c.forget.new.lines c.if-exchange.ensures c.forget.ensures

pub returns-then-park-clause-communicates : goal.returns-then-park-clause-communicates
returns-then-park-clause-communicates c most g a q b wishes = elim c.match-waiter.branch [
  | in-Some-waiter+else-j-count+else-exchange w ↦ turn_unmet c.args.rows.now.words.now c.args.rows.now.map.now.second c.args.processes.now c.args.lines.now c.args.count c.args.i c.args.conversation g a q b wishes
      (endpoint c.in-Some.e) c.in-Some.ensures (endpoint c.facing_end-far.result) c.facing_end-far.ensures w.in-Some-waiter.j w.in-Some-waiter.ensures
      c.match-waiter.processes c.park.new.lines (subst (λ p. Exchanged c.args.rows.now.words.now c.args.rows.now.map.now.second c.args.processes.now p c.args.i w.in-Some-waiter.j false) (sym w.processes-is) w.if-exchange.ensures) c.if-park.ensures
  | in_default-waiter w ↦ rw w.processes-is (turn_first c.args.rows.now.words.now c.args.rows.now.map.now.second c.args.processes.now c.args.lines.now c.args.count c.args.i c.args.conversation g a q b wishes
      (endpoint c.in-Some.e) c.in-Some.ensures (endpoint c.facing_end-far.result) c.facing_end-far.ensures c.park.new.lines w.in_default-waiter.ensures c.if-park.ensures)
]

pub returns-clause-communicates : goal.returns-clause-communicates
returns-clause-communicates c most g a q b wishes =
    turn_odd c.args.rows.now.words.now c.args.rows.now.map.now.second c.args.processes.now c.args.lines.now c.args.count c.args.i c.args.conversation g a q b wishes (endpoint c.in-Some.e) c.in-Some.ensures c.park.new.lines c.if-park.ensures
