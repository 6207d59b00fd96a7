use Rattle.std.proofs.Common.{take, ◌∙◌, rules, tests}
use Rattle.std.proofs.lemmas.Iterator.{YieldsList-from_slice}
use Rattle.std.proofs.lemmas.Iterator.Search.{all_from_yields_List}
use Rattle.judging.specs.Judging.{over_one}
use Rattle.judging.specs.Standing.{held}
use Rattle.judging.proofs.HandingLaws.{all_over_each}
use Rattle.judging.proofs.conversations.Conversations.all_over.Goals as goal

pub returns : goal.returns
returns c g known =
    let points = take c.args.self.now.count c.args.self.now.points in
    all_from_yields_List (λ x. over_one g (held x)) _ _ c.all.result c.all.ensures.ran (YieldsList-from_slice points cc) (λ x b q k. search (rules, tests)) ∙ all_over_each g points
