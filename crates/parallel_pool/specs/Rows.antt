-- The type of a seat, for the clause of a call that lends one.
use Rattle.std.specs.Borrow.{RattleType}
use Rattle.parallel_pool.specs.contracts.rayon.job_seat.JobSeat.{the_row}

abbrev pub seat_row : RattleType → RattleType
seat_row T = the_row T
