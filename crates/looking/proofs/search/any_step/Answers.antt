use Rattle.std.proofs.Common.{None, length, arith}
use Rattle.looking.specs.Searching.{NoStep}
use Rattle.looking.proofs.LookLaws.{step_is}
use Rattle.looking.proofs.SearchLaws.{still_around, none_more}
use Rattle.looking.proofs.search.any_step.Goals as goal

pub loop-k-preserved : goal.loop-k-preserved
loop-k-preserved c =
    none_more c.args.rows.now.words.now c.args.rows.now.map.now c.args.processes.now c.loop-k.processes c.go_on.new.processes c.loop-k.invariant.0 c.args.count c.args.first c.loop-k.k c.around.result c.around.ensures.is
    (step_is c.args.rows.now.words.now c.args.rows.now.map.now c.loop-k.processes c.go_on.new.processes (length c.loop-k.processes) c.args.count (NoStep c.args.rows.now.words.now c.args.rows.now.map.now c.loop-k.processes c.args.count c.around.result)
    c.in_ok-step.field-0 None c.in_default.is c.in_ok-step.ensures) c.loop-k.invariant.1

pub returns : goal.returns
returns c = (c.loop-k.invariant.0, still_around c.args.rows.now.words.now c.args.rows.now.map.now c.args.processes.now c.args.count c.args.first c.requires.first (λ k l. c.loop-k.invariant.1 k (omega arith)))
