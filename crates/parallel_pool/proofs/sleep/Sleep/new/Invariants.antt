-- There is a parker for each turn.
use Rattle.parallel_pool.proofs.{◌≡◌, vec_len}
use Rattle.parallel_pool.proofs.sleep.Sleep.new.Given as goal

abbrev pub invariant-loop : goal.invariant-loop
invariant-loop l = vec_len l.parkers ≡ l.counter
