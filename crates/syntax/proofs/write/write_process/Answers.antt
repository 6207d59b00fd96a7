use Rattle.std.proofs.Common.{◌≡◌, ◌∷◌, ◌++◌, length, vec_items, subst}
use Rattle.syntax.proofs.Programs.{wrote_process}
use Rattle.syntax.proofs.write.write_process.Goals as goal
use Rattle.syntax.specs.Marks.{words_of}

pub returns : goal.returns
returns c =
    let o = vec_items c.args.out.now in
    let o1 = vec_items c.put_counted.new.out in
    wrote_process c.args.p.now o o1 (vec_items c.put_two.new.out) (vec_items c.write_action.new.out) (words_of (vec_items c.args.marks.now)) (words_of (vec_items c.write_action.new.marks)) (subst (λ ns. o1 ≡ o ++ (length ns ∷ ns)) c.as_slice.ensures.value c.in_ok-put_counted.ensures) c.in_ok-put_two.ensures c.in_ok-write_action.ensures
