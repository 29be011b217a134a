-- One more worker sleeps, and there are no more of those than workers.
use Rattle.parallel_pool.proofs.{arith, ap, ◌≡◌, length, set, sleeping_in, Looking, Sleeping, restands, awake_looks, inactive_exists, blocked_inactive}
use Rattle.parallel_pool.specs.IdleState.{worker_of}
use Rattle.parallel_pool.proofs.sleep.sleep_state.SleepState.try_block.Goals as goal

pub overflow_add-sleeping : goal.overflow_add-sleeping
overflow_add-sleeping c =
    let before = c.args.self.now.workers in
    let worker = worker_of c.args.idle.now in
    let workers : c.self.inside.standings.items ≡ before = ap (λ v. v.workers) c.self.view_is in
    let h = restands before worker Looking Sleeping
    (inactive_exists before worker c.requires.inactive)
    (awake_looks _ c.requires.inactive c.requires.awake) in
    omega (
      arith,
      c.sleeping.ensures,
      c.self.invariant.0,
      ap sleeping_in workers,
      h.sleeping,
      h.most,
      blocked_inactive (set before worker Sleeping),
      ap length workers,
      c.self.inside.standings.ok.0,
      c.self.invariant.2,
    )
