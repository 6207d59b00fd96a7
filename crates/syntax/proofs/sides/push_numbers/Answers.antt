use Rattle.std.proofs.Common.{◌≡◌, ◌+◌, [], ◌∷◌, ◌++◌, vec_items, refl, ap, ◌∙◌, arith}
use Rattle.std.proofs.lemmas.Slice.{pushed}
use Rattle.syntax.proofs.Halves.{from_more}
use Rattle.syntax.proofs.sides.push_numbers.Goals as goal
use Rattle.syntax.specs.Mirror.{from}

pub loop-i-preserved : goal.loop-i-preserved
loop-i-preserved c =
    from_more c.args.first c.loop-i.i (vec_items c.args.out.now) (vec_items c.loop-i.out) (vec_items c.push.new.self) c.loop-i.invariant (pushed ((c.args.first + c.loop-i.i) ∷ []) refl c.in_ok-push.was c.push.ensures.items)

pub returns : goal.returns
returns c =
    let e : c.loop-i.i ≡ c.args.count = omega arith in
    c.loop-i.invariant ∙ ap (λ n. vec_items c.args.out.now ++ from c.args.first n) e
