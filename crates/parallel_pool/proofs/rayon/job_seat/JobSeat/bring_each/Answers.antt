-- One more job was pushed, to the next worker.
use Rattle.parallel_pool.proofs.{ap, ◌∙◌, ◌++◌, pushes_on}
use Rattle.parallel_pool.proofs.rayon.job_seat.JobSeat.bring_each.Goals as goal

pub loop-worker-preserved : goal.loop-worker-preserved
loop-worker-preserved g c =
    let known = c.loop-worker.invariant in
    pushes_on c.args.jobs.items known.0 c.pop_front.new.self.items c.loop-worker.worker
    c.in-Some.job c.args.self.now c.loop-worker.self c.push_for.new.self
    (known.1 ∙ ap (λ l. known.0 ++ l) c.in-Some.ensures.items) known.2 known.3 known.4
    c.in_default-push_for.ensures
