use Rattle.std.proofs.Common.{vec_items}
use Rattle.syntax.proofs.Programs.{wrote_all, wrote_more}
use Rattle.syntax.proofs.write.write_processes.Goals as goal
use Rattle.syntax.specs.Marks.{words_of}

pub loop-p-preserved : goal.loop-p-preserved
loop-p-preserved c =
    wrote_more c.args.procs.now c.loop-p.p-index c.p-item.result c.p-item.result (vec_items c.args.out.now) (vec_items c.loop-p.out) (vec_items c.write_process.new.out) (words_of (vec_items c.args.marks.now)) (words_of (vec_items c.loop-p.marks)) (words_of (vec_items c.write_process.new.marks)) c.loop-p-test.true c.p-item.is c.loop-p.invariant c.in_ok-write_process.ensures

pub returns : goal.returns
returns c =
    wrote_all c.args.procs.now c.loop-p.p-index (vec_items c.args.out.now) (vec_items c.loop-p.out) (words_of (vec_items c.args.marks.now)) (words_of (vec_items c.loop-p.marks)) c.loop-p-test.false c.loop-p.invariant
