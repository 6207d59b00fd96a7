use Rattle.std.proofs.Common.{[], ◌∷◌, vec_items}
use Rattle.syntax.proofs.Added.{append_after}
use Rattle.syntax.proofs.write.put_three.Goals as goal

pub returns : goal.returns
returns c =
    append_after (vec_items c.args.out.now) (vec_items c.put.new.out) (vec_items c.put_two.new.out) (c.args.first ∷ []) (c.args.second ∷ (c.args.third ∷ [])) c.in_ok-put.ensures c.in_ok-put_two.ensures
