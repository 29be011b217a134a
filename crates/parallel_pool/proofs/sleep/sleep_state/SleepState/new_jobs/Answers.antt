-- The awake ones that look are the inactive ones without those that sleep.
use Rattle.parallel_pool.proofs.{arith, ap, ◌≡◌, ◌-◌, ◌∙◌, take, if◌then◌else◌, looking_in, blocked_of, looking_or_blocked, blocked_inactive}
use Rattle.parallel_pool.proofs.sleep.sleep_state.SleepState.new_jobs.Goals as goal
use Rattle.parallel_pool.proofs.sleep.sleep_state.SleepState.new_jobs.Goals.{then-queue_was_empty, else-queue_was_empty}

pub overflow_sub-awake_but_idle : goal.overflow_sub-awake_but_idle
overflow_sub-awake_but_idle c =
    omega (
      arith,
      c.sleeping-sleeping.ensures,
      c.inactive-inactive.ensures,
      c.self.invariant.0,
      c.self.invariant.1,
      blocked_inactive c.self.inside.standings.items,
    )

pub returns-clause-woken : goal.returns-clause-woken
returns-clause-woken c =
    let before = c.args.self.now.workers in
    let workers : c.self.inside.standings.items ≡ before = ap (λ v. v.workers) c.self.view_is in
    let awake : c.inactive-inactive.result - c.sleeping-sleeping.result ≡ looking_in before =
    omega (
      arith,
      c.sleeping-sleeping.ensures,
      c.inactive-inactive.ensures,
      c.self.invariant.0,
      c.self.invariant.1,
      looking_or_blocked c.self.inside.standings.items,
      ap looking_in workers,
    )
    in
    let most : c.if-queue_was_empty.most ≡ (if c.args.queue_was_empty
    then c.args.jobs - looking_in before else c.args.jobs) =
    elim c.if-queue_was_empty.branch [
      | then-queue_was_empty w ↦ rw w.if-queue_was_empty.true
          (w.most-is ∙ (w.saturating_sub-most.ensures ∙ ap (λ n. c.args.jobs - n) awake))
      | else-queue_was_empty w ↦ rw w.if-queue_was_empty.false w.most-is
    ] in
    c.wake_any.ensures.woken ∙ (ap (λ all. take c.if-queue_was_empty.most (blocked_of all)) workers
    ∙ ap (λ n. take n (blocked_of before)) most)
