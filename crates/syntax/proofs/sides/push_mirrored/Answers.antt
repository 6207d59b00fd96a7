use Rattle.std.proofs.Common.{[], ◌∷◌, ◌++◌, map, vec_items, sym, refl, ap, ◌∙◌, append-nil}
use Rattle.std.proofs.lemmas.List.{take_all}
use Rattle.std.proofs.lemmas.Slice.{pushed}
use Rattle.syntax.proofs.Halves.{mirrored_more}
use Rattle.syntax.proofs.sides.push_mirrored.Goals as goal
use Rattle.syntax.specs.Meaning.{points_of}
use Rattle.syntax.specs.Mirror.{mirror}
use Rattle.syntax.specs.declared.tree.Point.TheVariants.{Over}

pub loop-p-init : goal.loop-p-init
loop-p-init c = sym (append-nil (points_of (vec_items c.args.out.now)))

pub loop-p-preserved : goal.loop-p-preserved
loop-p-preserved c =
    mirrored_more c.args.half c.args.near.now c.loop-p.p-index Over (vec_items c.args.out.now) (vec_items c.loop-p.out) (vec_items c.push.new.self) c.mirrored.result c.loop-p-test.true c.loop-p.invariant c.mirrored.ensures (pushed (c.mirrored.result ∷ []) refl c.in_ok-push.was c.push.ensures.items)

pub returns : goal.returns
returns c =
    c.loop-p.invariant ∙ ap (λ ps. points_of (vec_items c.args.out.now) ++ map (mirror c.args.half) (points_of ps)) (take_all c.loop-p.p-index c.args.near.now c.loop-p-test.false)
