use Rattle.std.proofs.Common.{◌≡◌, take}
use Rattle.engine.specs.Shown.{overlay, counted}
use Rattle.embedding.specs.Rows.{rows_words}
use Rattle.embedding.proofs.put_rows.Given as goal

-- the words of the rows so far are laid over what was there
abbrev pub invariant-loop-row : goal.invariant-loop-row
invariant-loop-row l = (l.left ≡ overlay (rows_words (take l.row-index l.rows)) l.initial.left) × (l.at ≡ counted (rows_words (take l.row-index l.rows)))
