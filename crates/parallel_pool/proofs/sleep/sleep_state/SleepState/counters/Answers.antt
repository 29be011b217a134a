-- No more workers are blocked than are inactive.
use Rattle.parallel_pool.proofs.{arith, blocked_inactive}
use Rattle.parallel_pool.proofs.sleep.sleep_state.SleepState.counters.Goals as goal

pub returns-clause-at_most : goal.returns-clause-at_most
returns-clause-at_most c =
    omega (
      arith,
      blocked_inactive c.self.inside.standings.items,
      c.self.invariant.0,
      c.self.invariant.1,
    )
