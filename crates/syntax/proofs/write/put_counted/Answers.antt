use Rattle.std.proofs.Common.{[], ◌∷◌, length, vec_items, refl}
use Rattle.std.proofs.lemmas.Slice.{pushed}
use Rattle.syntax.proofs.Added.{append_after}
use Rattle.syntax.proofs.write.put_counted.Goals as goal

pub returns : goal.returns
returns c =
    let ns = c.args.ns.now in
    append_after (vec_items c.args.out.now) (vec_items c.put_count.new.out) (vec_items c.extend_from_slice.new.self) (length ns ∷ []) ns c.in_ok-put_count.ensures (pushed ns refl c.in_ok-extend_from_slice.was c.extend_from_slice.ensures.items)
