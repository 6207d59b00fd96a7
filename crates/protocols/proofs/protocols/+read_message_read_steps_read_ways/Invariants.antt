use Rattle.std.proofs.Common.{◌+◌, ◌*◌}
use Rattle.protocols.proofs.protocols.+read_message_read_steps_read_ways.Given as goal

abbrev pub decreases-read_message : goal.decreases-read_message
decreases-read_message l = 2 * l.depth + 1

abbrev pub decreases-read_steps : goal.decreases-read_steps
decreases-read_steps l = 2 * l.depth

abbrev pub decreases-read_ways : goal.decreases-read_ways
decreases-read_ways l = 2 * l.depth + 1
