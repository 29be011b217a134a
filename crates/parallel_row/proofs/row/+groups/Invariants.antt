-- groups have fewer threads than there are; of groups, one fewer is left each time
use Rattle.parallel_row.proofs.{◌+◌, ◌*◌, min}
use Rattle.parallel_row.proofs.row.+groups.Given as goal

abbrev pub decreases-in_groups : goal.decreases-in_groups
decreases-in_groups g l = 16 * l.threads

abbrev pub decreases-by_groups : goal.decreases-by_groups
decreases-by_groups g l = 16 * min l.threads l.grain + 3 * l.threads + 3

abbrev pub decreases-group_beside : goal.decreases-group_beside
decreases-group_beside g l = 16 * l.grain + 3 * (l.grain + l.others) + 2

abbrev pub decreases-group_beside-one : goal.decreases-group_beside-one
decreases-group_beside-one g l = 16 * l.grain + 1

abbrev pub decreases-group_beside-more : goal.decreases-group_beside-more
decreases-group_beside-more g l = 16 * min l.others l.grain + 3 * l.others + 4
