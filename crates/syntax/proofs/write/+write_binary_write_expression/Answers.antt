use Rattle.std.proofs.Common.{[], ◌∷◌, ◌++◌, vec_items}
use Rattle.model.specs.Rows.{row_e}
use Rattle.syntax.proofs.Sizes.{fewer_add, fewer_less, fewer_mul, fewer_sub}
use Rattle.syntax.specs.Meaning.{expression_of}
use Rattle.syntax.proofs.Added.{append_after}
use Rattle.syntax.proofs.write.+write_binary_write_expression.Goals as goal

pub write_binary-returns : goal.write_binary-returns
write_binary-returns t c =
    let a = row_e (expression_of c.args.a.now) in
    let b = row_e (expression_of c.args.b.now) in
    let o = vec_items c.args.out.now in
    let o1 = vec_items c.put.new.out in
    let o2 = vec_items c.write_expression.new.out in
    let o3 = vec_items c.write_expression-2.new.out in
    append_after o o1 o3 (c.args.tag ∷ []) (a ++ b) c.in_ok-put.ensures (append_after o1 o2 o3 a b c.in_ok-write_expression.ensures c.in_ok-write_expression-2.ensures)

pub write_expression-write_binary-requires : goal.write_expression-write_binary-requires
write_expression-write_binary-requires t c =
    (fewer_add c.in-Add.is c.deref.ensures c.deref-in-Add.ensures c.decreases, tt)

pub write_expression-write_binary-requires-in-Sub : goal.write_expression-write_binary-requires-in-Sub
write_expression-write_binary-requires-in-Sub t c =
    (fewer_sub c.in-Sub.is c.deref-in-Sub.ensures c.deref-in-Sub-2.ensures c.decreases, tt)

pub write_expression-write_binary-requires-in-Mul : goal.write_expression-write_binary-requires-in-Mul
write_expression-write_binary-requires-in-Mul t c =
    (fewer_mul c.in-Mul.is c.deref-in-Mul.ensures c.deref-in-Mul-2.ensures c.decreases, tt)

pub write_expression-write_binary-requires-in-Less : goal.write_expression-write_binary-requires-in-Less
write_expression-write_binary-requires-in-Less t c =
    (fewer_less c.in-Less.is c.deref-in-Less.ensures c.deref-in-Less-2.ensures c.decreases, tt)
