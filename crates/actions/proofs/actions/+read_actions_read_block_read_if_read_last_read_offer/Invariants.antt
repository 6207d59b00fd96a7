use Rattle.std.proofs.Common.{◌+◌, ◌*◌}
use Rattle.actions.proofs.actions.+read_actions_read_block_read_if_read_last_read_offer.Given as goal

abbrev pub decreases-read_actions : goal.decreases-read_actions
decreases-read_actions l = 4 * l.depth

abbrev pub decreases-read_block : goal.decreases-read_block
decreases-read_block l = 4 * l.depth + 1

abbrev pub decreases-read_if : goal.decreases-read_if
decreases-read_if l = 4 * l.depth + 2

abbrev pub decreases-read_offer : goal.decreases-read_offer
decreases-read_offer l = 4 * l.depth + 2

abbrev pub decreases-read_last : goal.decreases-read_last
decreases-read_last l = 4 * l.depth + 3
