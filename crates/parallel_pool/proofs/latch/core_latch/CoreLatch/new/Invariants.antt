-- There is a seat of the latch for each turn, and none has seen a call.
use Rattle.parallel_pool.proofs.{◌≡◌, All, vec_len, newcomer, IsLatchSeatOf, known}
use Rattle.parallel_pool.proofs.latch.core_latch.CoreLatch.new.Given as goal

abbrev pub invariant-loop : goal.invariant-loop
invariant-loop l = record {
  count : vec_len l.all ≡ l.counter;
  founder : IsLatchSeatOf l.latch l.founder;
  seats : All (IsLatchSeatOf l.latch) l.all.items;
  fresh : All (λ seat. known seat ≡ newcomer) l.all.items;
}
