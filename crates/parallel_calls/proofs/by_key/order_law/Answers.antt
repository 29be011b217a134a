-- The bound says so.
use Rattle.parallel_calls.proofs.by_key.order_law.Goals as goal

pub returns : goal.returns
returns g c = g.met.K.Ord.total
