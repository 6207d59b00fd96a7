use Rattle.std.proofs.Common.{◌+◌, ◌*◌}
use Rattle.printer.proofs.protocols.Protocols.+put_next_put_steps_put_ways.Given as goal

abbrev pub decreases-put_next : goal.decreases-put_next
decreases-put_next l = 3 * l.depth + 1

abbrev pub decreases-put_steps : goal.decreases-put_steps
decreases-put_steps l = 3 * l.depth

abbrev pub decreases-put_ways : goal.decreases-put_ways
decreases-put_ways l = 3 * l.depth + 2
