-- There is a pass for each queue so far, and none has seen anything.
use Rattle.parallel_pool.proofs.{◌≡◌, All, vec_len, new_pass}
use Rattle.parallel_pool.proofs.rayon.job_queues.thief_passes.Given as goal

abbrev pub invariant-loop-place : goal.invariant-loop-place
invariant-loop-place g l = record {
  count : vec_len l.all ≡ l.place;
  fresh : All (λ view. view ≡ new_pass) l.all.items;
}
