use Rattle.std.proofs.Common.{◌-◌, ◌∷◌, take, set, refl, ap, ◌∙◌, length-set, arith}
use mathlib.Core.Option.{some}
use Rattle.model.specs.Steps.{spent, far_end}
use Rattle.records.specs.Records.{record_at, ended}
use Rattle.records.proofs.RecordLaws.{kept_set}
use Rattle.evaluation.specs.Handing.{ends_in}
use Rattle.evaluation.proofs.HandingLaws.{ends_part, numbers_part}
use Rattle.starting.specs.Beginning.{begun_with, released}
use Rattle.starting.proofs.StartTurns.{start_spent, start_missing, start_crowded, start_many_ends, start_many_numbers, start_many_own, start_started}
use Rattle.starting.proofs.EndLaws.{handed_ends, listed_slice}
use Rattle.starting.proofs.Settling.{start_crams_ends, start_crams_numbers, start_crams_own}
use Rattle.starting.proofs.start.start.Goals as goal

pub returns-then-left-eq0-clause-begins : goal.returns-then-left-eq0-clause-begins
returns-then-left-eq0-clause-begins c lines g a q reads mapped b =
    start_spent c.args.rows.now.words.now c.args.rows.now.map.now.second c.args.processes.now lines c.args.count c.args.i g a q b c.args.call c.turns-left.result c.turns-left.ensures c.requires.doing _ c.if-left-eq0.true (kept_set c.args.processes.now c.args.i c.halt.new.process (ended (record_at c.args.processes.now c.args.i) spent) (omega arith) c.halt.ensures)

pub returns-in_default-clause-begins : goal.returns-in_default-clause-begins
returns-in_default-clause-begins c lines g a q reads mapped b =
    start_missing c.args.rows.now.words.now c.args.rows.now.map.now.second c.args.processes.now lines c.args.count c.args.i g a q b c.args.call c.turns-left.result c.turns-left.ensures c.requires.doing _ refl c.if-left-eq0.false (c.in_default.ensures.is g reads mapped)

pub returns-then-count-processes-clause-begins : goal.returns-then-count-processes-clause-begins
returns-then-count-processes-clause-begins c lines g a q reads mapped b = (start_crowded c.args.rows.now.words.now c.args.rows.now.map.now.second c.args.processes.now lines c.args.count c.args.i g a q b c.args.call c.turns-left.result c.turns-left.ensures c.requires.doing c.in-Some.head (c.in-Some.ensures.is g reads mapped) c.if-left-eq0.false, c.if-count-processes.true)

pub returns-then-call-gt15-clause-begins : goal.returns-then-call-gt15-clause-begins
returns-then-call-gt15-clause-begins c lines g a q reads mapped b = start_many_ends c.args.rows.now.words.now c.args.rows.now.map.now.second c.args.processes.now lines c.args.count c.args.i g a q b c.args.call c.turns-left.result c.turns-left.ensures c.requires.doing c.in-Some.head (c.in-Some.ensures.is g reads mapped) c.if-left-eq0.false c.if-call-gt15.true

pub returns-then-call-gt15-clause-settles : goal.returns-then-call-gt15-clause-settles
returns-then-call-gt15-clause-settles c g w reads mapped h = start_crams_ends c.args.rows.now.words.now c.args.rows.now.map.now.second c.args.processes.now c.args.i g c.args.call w h c.in-Some.head (c.in-Some.ensures.is g reads mapped) c.requires.doing c.if-call-gt15.true

pub returns-then-call-gt16-clause-begins : goal.returns-then-call-gt16-clause-begins
returns-then-call-gt16-clause-begins c lines g a q reads mapped b = start_many_numbers c.args.rows.now.words.now c.args.rows.now.map.now.second c.args.processes.now lines c.args.count c.args.i g a q b c.args.call c.turns-left.result c.turns-left.ensures c.requires.doing c.in-Some.head (c.in-Some.ensures.is g reads mapped) c.if-left-eq0.false c.if-call-gt16.true

pub returns-then-call-gt16-clause-settles : goal.returns-then-call-gt16-clause-settles
returns-then-call-gt16-clause-settles c g w reads mapped h = start_crams_numbers c.args.rows.now.words.now c.args.rows.now.map.now.second c.args.processes.now c.args.i g c.args.call w h c.in-Some.head (c.in-Some.ensures.is g reads mapped) c.requires.doing c.if-call-gt16.true

pub returns-then-ends_count-gt15-clause-begins : goal.returns-then-ends_count-gt15-clause-begins
returns-then-ends_count-gt15-clause-begins c lines g a q reads mapped b =
    start_many_own c.args.rows.now.words.now c.args.rows.now.map.now.second c.args.processes.now lines c.args.count c.args.i g a q b c.args.call c.turns-left.result c.turns-left.ensures c.requires.doing c.in-Some.head (c.in-Some.ensures.is g reads mapped) c.if-left-eq0.false c.ends_count.result c.ends_count.ensures.is c.if-ends_count-gt15.true

pub returns-then-ends_count-gt15-clause-settles : goal.returns-then-ends_count-gt15-clause-settles
returns-then-ends_count-gt15-clause-settles c g w reads mapped h = start_crams_own c.args.rows.now.words.now c.args.rows.now.map.now.second c.args.processes.now c.args.i g c.args.call w h c.in-Some.head (c.in-Some.ensures.is g reads mapped) c.requires.doing c.ends_count.result c.ends_count.ensures.is c.if-ends_count-gt15.true

pub returns-clause-begins : goal.returns-clause-begins
returns-clause-begins c lines g a q reads mapped b = (
  start_started c.args.rows.now.words.now c.args.rows.now.map.now.second c.args.processes.now lines c.args.count c.args.i g a q b c.args.call c.turns-left.result c.turns-left.ensures c.requires.doing c.in-Some.head (c.in-Some.ensures.is g reads mapped) c.if-left-eq0.false
      c.numbers_at-numbers.result c.conversations_at-ends.result c.variables-own.result.now _ _ _ c.max-variables.result c.variables-own.ensures c.numbers_at-numbers.ensures.numbers
      (handed_ends c.args.rows.now.words.now _ (record_at c.args.processes.now c.args.i).ends c.conversations_at-ends.result c.args.call.conversations c.args.call.count
      (listed_slice c.args.rows.now.words.now c.args.call.conversations c.args.call.count (let w = c.requires.doing.words in omega arith)) c.conversations_at-ends.ensures.ends)
      refl c.max-variables.ensures
      (kept_set c.args.processes.now c.args.count c.begin_started.new.process _ (omega arith) (c.begin_started.ensures ∙
      (ap (λ es. begun_with c.in-Some.head.body (c.turns-left.result - 1) (some (far_end (c.args.count - 1)) ∷ es) (take c.max-variables.result c.numbers_at-numbers.result.values)) (ends_part c.conversations_at-ends.result c.args.call.count (let w = c.conversations_at-ends.ensures.wide in omega arith)) ∙
      ap (begun_with c.in-Some.head.body (c.turns-left.result - 1) (some (far_end (c.args.count - 1)) ∷ ends_in c.conversations_at-ends.result c.args.call.count)) (numbers_part c.numbers_at-numbers.result c.max-variables.result (let w = c.numbers_at-numbers.ensures.wide in omega arith)))))
      (kept_set _ c.args.i c.release.new.process _ (let l = length-set c.args.processes.now c.args.count c.begin_started.new.process in omega arith) (c.release.ensures ∙
      ap (λ cs. released (record_at (set c.args.processes.now c.args.count c.begin_started.new.process) c.args.i) cs (c.args.count - 1) (c.turns-left.result - 1) c.numbers_at-numbers.result.next)
      (listed_slice c.args.rows.now.words.now c.args.call.conversations c.args.call.count (let w = c.requires.doing.words in omega arith)))),
  omega arith,
)
