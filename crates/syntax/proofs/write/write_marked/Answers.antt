use Rattle.std.proofs.Common.{vec_items, refl}
use Rattle.std.proofs.lemmas.Slice.{pushed}
use Rattle.syntax.proofs.Programs.{wrote_program}
use Rattle.syntax.proofs.write.write_marked.Goals as goal
use Rattle.syntax.specs.Marks.{words_of}

pub returns : goal.returns
returns c =
    wrote_program c.args.points.now c.args.other.now c.args.procs.now (vec_items c.args.out.now) (vec_items c.put_count.new.out) (vec_items c.write_points.new.out) (vec_items c.extend_from_slice.new.self) (vec_items c.write_processes.new.out) (words_of (vec_items c.args.marks.now)) (words_of (vec_items c.write_processes.new.marks)) c.in_ok-put_count.ensures c.in_ok-write_points.ensures (pushed c.args.other.now refl c.in_ok-extend_from_slice.was c.extend_from_slice.ensures.items) c.in_ok-write_processes.ensures
