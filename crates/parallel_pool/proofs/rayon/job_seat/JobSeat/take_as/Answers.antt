-- Told, so that a body which breaks these is refused with no further search.
use Rattle.parallel_pool.proofs.{rules}
use Rattle.parallel_pool.proofs.rayon.job_seat.JobSeat.take_as.Goals as goal

pub returns-in-Broadcast : goal.returns-in-Broadcast
returns-in-Broadcast g c = search rules
