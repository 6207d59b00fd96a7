use Rattle.std.proofs.Common.{vec_items, sym}
use Rattle.std.proofs.lemmas.Slice.{pushed}
use Rattle.syntax.proofs.Fits.{astray, made_sides, too_many}
use Rattle.syntax.proofs.sides.both_sides.Goals as goal

pub returns-then-near-gt128 : goal.returns-then-near-gt128
returns-then-near-gt128 c = too_many c.args.near.now c.if-near-gt128.true

pub returns-then-not-all_stay_below : goal.returns-then-not-all_stay_below
returns-then-not-all_stay_below c = astray c.args.near.now (sym c.if-not-all_stay_below.ensures)

pub returns : goal.returns
returns c =
    let near = c.args.near.now in
    let copied = pushed near c.new-points.ensures.items c.in_ok-extend_from_slice.was c.extend_from_slice.ensures.items in
    made_sides near (vec_items c.extend_from_slice.new.self) (vec_items c.push_mirrored.new.out) (vec_items c.new-other.result) (vec_items c.push_numbers.new.out) (vec_items c.push_numbers-2.new.out) (sym c.if-not-all_stay_below.ensures) copied c.in_ok-push_mirrored.ensures c.new-other.ensures.items c.in_ok-push_numbers.ensures c.in_ok-push_numbers-2.ensures
