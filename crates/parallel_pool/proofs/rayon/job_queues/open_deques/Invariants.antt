-- There is a deque for each turn, and none has seen anything.
use Rattle.parallel_pool.proofs.{◌≡◌, All, vec_len, new_pass}
use Rattle.parallel_pool.proofs.rayon.job_queues.open_deques.Given as goal

abbrev pub invariant-loop : goal.invariant-loop
invariant-loop g l = record {
  count : vec_len l.all ≡ l.counter;
  fresh : All (λ view. view ≡ new_pass) l.all.items;
}
