use Rattle.std.proofs.Common.{◌<◌, ◌≤◌, length, ap, arith}
use native.Mathlib.Nat.{min-le_right}
use Rattle.text.proofs.Bytes.{spot_end, spot_more}
use Rattle.text.proofs.place.place_of.Goals as goal
use Rattle.text.specs.Reached.{spot_of}

pub loop-i-preserved : goal.loop-i-preserved
loop-i-preserved c =
    let bs = c.as_bytes-bytes.result.now in
    let l : c.loop-i.i < length bs = omega (arith, c.min-end.ensures, min-le_right c.args.at (length bs)) in
    (spot_more bs c.loop-i.i (spot_of c.loop-i.place) (spot_of c.after_byte-place.result) l c.loop-i.invariant.0 c.after_byte-place.ensures.value, omega (arith, c.loop-i.invariant.1, c.after_byte-place.ensures.bound), omega (arith, c.loop-i.invariant.2, c.after_byte-place.ensures.bound))

pub returns : goal.returns
returns c =
    let bs = c.as_bytes-bytes.result.now in
    let m : c.min-end.result ≤ length c.args.text.now = omega (arith, c.min-end.ensures, min-le_right c.args.at (length bs), ap length c.as_bytes-bytes.ensures.value) in
    record {
      value = spot_end bs c.args.text.now c.loop-i.i c.min-end.result c.args.at (spot_of c.loop-i.place) c.as_bytes-bytes.ensures.value c.min-end.ensures c.loop-i.auto.i-end c.loop-i-test.false c.loop-i.invariant.0;
      bound = (omega (arith, c.loop-i.invariant.1), omega (arith, c.loop-i.invariant.2));
    }
