-- It is one look at the latch.
use Rattle.parallel_pool.proofs.sleep.Sleep.is_awake.Goals as goal

pub returns-clause-probe : goal.returns-clause-probe
returns-clause-probe g c = let h = c.probe-is_set.ensures.call in (h.0, h.1, h.2, tt)

pub returns-clause-stays : goal.returns-clause-stays
returns-clause-stays g c = λ h. c.probe-is_set.ensures.sees.0 (c.probe-is_set.ensures.stays h)
