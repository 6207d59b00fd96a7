use Rattle.std.proofs.Common.{[], ◌∷◌, length, vec_items}
use Rattle.model.specs.Rows.{row_es}
use Rattle.syntax.proofs.Added.{append_after_three}
use Rattle.syntax.proofs.write.write_handed.Goals as goal
use Rattle.syntax.specs.Meaning.{expressions_of}

pub returns : goal.returns
returns c =
    let cs = c.args.talks.now in
    let es = c.args.values.now in
    append_after_three (vec_items c.args.out.now) (vec_items c.put_two.new.out) (vec_items c.put_counted.new.out) (vec_items c.put_count.new.out) (vec_items c.write_expressions.new.out) (c.args.tag ∷ (c.args.process ∷ [])) (length cs ∷ cs) (length es ∷ []) (row_es (expressions_of es)) c.in_ok-put_two.ensures c.in_ok-put_counted.ensures c.in_ok-put_count.ensures c.in_ok-write_expressions.ensures
