use Rattle.std.proofs.Common.{take, vec_items}
use Rattle.syntax.proofs.write.write_processes.Given as goal
use Rattle.syntax.specs.Marks.{WroteProcesses, words_of}
use Rattle.syntax.specs.Meaning.{processes_of}

abbrev pub invariant-loop-p : goal.invariant-loop-p
invariant-loop-p l = WroteProcesses (vec_items l.initial.out) (vec_items l.out) (words_of (vec_items l.initial.marks)) (words_of (vec_items l.marks)) (processes_of (take l.p-index l.procs))
