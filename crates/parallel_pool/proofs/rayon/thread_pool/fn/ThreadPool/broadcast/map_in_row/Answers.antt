-- Told, so that a body which breaks these is refused with no further search.
use Rattle.parallel_pool.proofs.{rules}
use Rattle.parallel_pool.proofs.rayon.thread_pool.fn.ThreadPool.broadcast.map_in_row.Goals as goal

pub op-requires : goal.op-requires
op-requires g c = search rules

pub returns : goal.returns
returns g c = search rules
