-- one thread fewer is left each time
use Rattle.parallel_row.proofs.{◌+◌, ◌*◌}
use Rattle.parallel_row.proofs.row.+row.Given as goal

abbrev pub decreases-in_row : goal.decreases-in_row
decreases-in_row g l = 3 * l.threads

abbrev pub decreases-one_beside : goal.decreases-one_beside
decreases-one_beside g l = 3 * l.others + 2

abbrev pub decreases-one_beside-more : goal.decreases-one_beside-more
decreases-one_beside-more g l = 3 * l.others + 1
