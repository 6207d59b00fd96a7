use Rattle.std.proofs.Common.{ℕ, arith}
use Rattle.looking.specs.Pairing.{Unmet}
use Rattle.looking.proofs.PairLaws.{met_moves_from, unmet_more, around_all}
use Rattle.looking.proofs.pairs.meet_any.Goals as goal

pub returns-then-meet : goal.returns-then-meet
returns-then-meet c =
    met_moves_from c.args.rows.now.words.now c.args.rows.now.map.now c.args.processes.now c.loop-k.processes c.meet.new.processes c.loop-k.invariant.0 c.args.count c.args.i c.around.result c.requires.there c.around.ensures.there c.requires.runs c.if-meet.ensures

pub loop-k-preserved : goal.loop-k-preserved
loop-k-preserved c =
    unmet_more c.args.rows.now.words.now c.args.rows.now.map.now c.args.processes.now c.loop-k.processes c.meet.new.processes c.loop-k.invariant.0 c.args.count c.args.from c.args.i c.loop-k.k c.around.result c.around.ensures.is c.if-meet.ensures c.loop-k.invariant.1

pub returns : goal.returns
returns c =
    (c.loop-k.invariant.0, around_all (λ (j : ℕ). Unmet c.args.rows.now.words.now c.args.rows.now.map.now.second c.args.processes.now c.args.i j) c.args.count c.args.from c.requires.from (λ k l. c.loop-k.invariant.1 k (omega arith)))
