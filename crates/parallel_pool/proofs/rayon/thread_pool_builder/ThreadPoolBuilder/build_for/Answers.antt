-- Told, so that a body which breaks these is refused with no further search.
use Rattle.parallel_pool.proofs.{rules}
use Rattle.parallel_pool.proofs.rayon.thread_pool_builder.ThreadPoolBuilder.build_for.Goals as goal

pub returns-clause-count : goal.returns-clause-count
returns-clause-count g c = search rules
