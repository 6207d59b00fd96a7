use Rattle.std.proofs.Common.{[], ◌∷◌}
use Rattle.embedding.specs.Rows.{line_word, side_word, number_word}
use Rattle.embedding.proofs.Laying.{laid_then, laid_as}
use Rattle.embedding.proofs.put_row.Goals as goal

pub returns : goal.returns
returns c =
    let row = c.args.row.now in
    let s0 = c.args.left.now in
    let s1 = c.write_down-a.new.shown in
    let s2 = c.write_down-b.new.shown in
    let s3 = c.write_down-c.new.shown in
    let s4 = c.write_down-d.new.shown in
    let s5 = c.write_down.new.shown in
    let line = laid_as s2 s3 c.write_down-b.result c.write_down-c.result c.line_word.result (line_word row.end) c.line_word.ensures c.write_down-c.ensures in
    let side = laid_as s3 s4 c.write_down-c.result c.write_down-d.result c.side_word.result (side_word row.end) c.side_word.ensures c.write_down-d.ensures in
    let held = laid_as s4 s5 c.write_down-d.result c.write_down.result c.number_word.result (number_word row.holder) c.number_word.ensures c.write_down.ensures in
    laid_then s0 s1 s5 c.args.at c.write_down-a.result c.write_down.result (row.process ∷ []) (row.place ∷ line_word row.end ∷ side_word row.end ∷ number_word row.holder ∷ []) c.write_down-a.ensures
    (laid_then s1 s2 s5 c.write_down-a.result c.write_down-b.result c.write_down.result (row.place ∷ []) (line_word row.end ∷ side_word row.end ∷ number_word row.holder ∷ []) c.write_down-b.ensures
    (laid_then s2 s3 s5 c.write_down-b.result c.write_down-c.result c.write_down.result (line_word row.end ∷ []) (side_word row.end ∷ number_word row.holder ∷ []) line
    (laid_then s3 s4 s5 c.write_down-c.result c.write_down-d.result c.write_down.result (side_word row.end ∷ []) (number_word row.holder ∷ []) side held)))
