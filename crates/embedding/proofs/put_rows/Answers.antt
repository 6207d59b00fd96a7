use Rattle.std.proofs.Common.{take, sym, ap, ◌∙◌, add-one, arith}
use Rattle.engine.specs.Shown.{overlay, counted}
use Rattle.embedding.specs.Rows.{rows_words}
use Rattle.embedding.proofs.Laying.{rows_more, take_all}
use Rattle.embedding.proofs.put_rows.Goals as goal

pub loop-row-preserved : goal.loop-row-preserved
loop-row-preserved c =
    let rows = c.args.rows.now in
    let left = c.args.left.now in
    let x = c.put_row-at.ensures (rows_words (take c.loop-row.row-index rows)) left c.loop-row.invariant.0 c.loop-row.invariant.1 in
    let m = rows_more rows c.loop-row.row-index _ c.loop-row-test.true ∙ ap (λ n. rows_words (take n rows)) (sym (add-one c.loop-row.row-index)) in
    (x.0 ∙ ap (λ l. overlay l left) m, x.1 ∙ ap counted m)

pub returns : goal.returns
returns c = c.loop-row.invariant.0 ∙ ap (λ l. overlay (rows_words l) c.args.left.now) (take_all c.args.rows.now c.loop-row.row-index (omega arith))
