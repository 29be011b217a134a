-- The shares stay those of the latch, each unspent.
use Rattle.std.proofs.Common.{◌≡◌, All}
use Rattle.parallel_pool.specs.CountLatch.{IsShareOf, unspent}
use Rattle.pool_tests.proofs.latches.give_all.Given as goal

abbrev pub invariant-loop : goal.invariant-loop
invariant-loop l = record {
  belong : All (IsShareOf l.latch) l.shares.items;
  unspent : All (λ share. unspent share ≡ 1) l.shares.items;
}
