-- One more worker is inactive, and there are no more of those than workers.
use Rattle.parallel_pool.proofs.{arith, ap, ◌≡◌, length, inactive_in, Working, Looking, restands, active_works}
use Rattle.parallel_pool.proofs.sleep.sleep_state.SleepState.start_looking.Goals as goal

pub overflow_add-inactive : goal.overflow_add-inactive
overflow_add-inactive c =
    let workers : c.self.inside.standings.items ≡ c.args.self.now.workers =
    ap (λ v. v.workers) c.self.view_is in
    let h = restands c.args.self.now.workers c.args.worker_index Working Looking c.requires.exists
    (active_works _ c.requires.active) in
    omega (
      arith,
      c.inactive.ensures,
      c.self.invariant.1,
      ap inactive_in workers,
      h.inactive,
      h.most,
      ap length workers,
      c.self.inside.standings.ok.0,
      c.self.invariant.2,
    )
