use Rattle.std.proofs.Common.{vec_len}
use Rattle.trees.proofs.trees.Given as goal

abbrev pub decreases-loop-flat : goal.decreases-loop-flat
decreases-loop-flat l = vec_len l.flats
