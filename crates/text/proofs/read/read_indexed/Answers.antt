use Rattle.std.proofs.Common.{vec_items, ap}
use Rattle.syntax.specs.Marks.{words_of}
use Rattle.text.proofs.Written.{indexed, rows_of}
use Rattle.text.proofs.read.read_indexed.Goals as goal

pub returns : goal.returns
returns c =
    let p = c.in_ok-parsed.parsed in
    let o = vec_items c.write_marked.new.out in
    let m = words_of (vec_items c.write_marked.new.marks) in
    let i = indexed p.sides c.as_slice.result.now c.as_slice-2.result.now c.as_slice-3.result.now (vec_items c.new-rows.result) o (words_of (vec_items c.new-marks.result)) m c.in_ok-parsed.ensures c.as_slice.ensures.value c.as_slice-2.ensures.value c.new-rows.ensures.items (ap words_of c.new-marks.ensures.items) c.in_ok-write_marked.ensures in
    record { rows = rows_of o m i; marks = i }
