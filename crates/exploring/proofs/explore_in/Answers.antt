use Rattle.std.proofs.Common.{ℕ, List, length, sym, subst, arith}
use Rattle.model.specs.Rows.{Reads}
use Rattle.rows.specs.Mapped.{Mapped}
use Rattle.exploring.proofs.ExploreLaws.{explored_few, explored_unread, explored_rows}
use Rattle.exploring.proofs.explore_in.Goals as goal

pub returns-then-work-most : goal.returns-then-work-most
returns-then-work-most c = explored_few c.args.program.now c.args.most c.args.turns c.args.shown.now c.args.left.now (length c.args.work.now) (omega arith)

pub returns-in_default : goal.returns-in_default
returns-in_default c = explored_unread c.args.program.now c.args.most c.args.turns c.args.shown.now c.args.left.now (length c.args.work.now) (λ x. omega arith) c.in_default.ensures.says

pub run_out-requires : goal.run_out-requires
run_out-requires c =
    let r = c.in-Some.ensures.says in
    let back = sym r.words in
    record {
      lent = omega arith;
      readable = record {
        program = r.program;
        reads = subst (λ (x : List ℕ). Reads x r.program) back r.known.reads;
        mapped = subst (λ (x : List ℕ). Mapped x r.program c.in-Some.rows.map.now) back r.known.mapped;
      };
    }

pub returns : goal.returns
returns c =
    let r = c.in-Some.ensures.says in
    explored_rows c.args.program.now c.args.most c.args.turns c.args.shown.now c.args.left.now (length c.args.work.now) c.run_out.new.shown c.run_out.new.left c.run_out.result (λ x. omega arith) c.in-Some.rows r c.run_out.ensures
