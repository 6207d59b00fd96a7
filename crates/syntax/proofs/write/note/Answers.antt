use Rattle.std.proofs.Common.{[], ◌∷◌, length, vec_items, refl, ap}
use Rattle.std.proofs.lemmas.Slice.{pushed}
use Rattle.syntax.proofs.Programs.{marked}
use Rattle.syntax.proofs.write.note.Goals as goal
use Rattle.syntax.specs.declared.tree.Mark.{Mark}

pub returns : goal.returns
returns c =
    let k : Mark = record { word = length c.as_slice-words.result.now; at = c.args.at } in
    marked (vec_items c.args.marks.now) (vec_items c.push.new.self) k (length (vec_items c.args.out.now)) (pushed (k ∷ []) refl c.in_ok-push.was c.push.ensures.items) (ap length c.as_slice-words.ensures.value)
