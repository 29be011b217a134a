-- There is an unspent share for each turn, and the founder has those that are left.
use Rattle.parallel_pool.proofs.{◌≡◌, ◌+◌, All, [], vec_len}
use Rattle.std.specs.NonZero.{non_zero_usize_get}
use Rattle.parallel_pool.specs.CountLatch.{IsShareOf, share_count, unspent, gives_seen}
use Rattle.parallel_pool.proofs.latch.count_latch.CountLatch.with_count.Given as goal

abbrev pub invariant-loop : goal.invariant-loop
invariant-loop l = record {
  of : share_count l.latch ≡ non_zero_usize_get l.fn.count;
  count : vec_len l.all ≡ l.counter;
  founder : IsShareOf l.latch l.founder;
  left : unspent l.founder + l.counter ≡ non_zero_usize_get l.fn.count;
  belong : All (IsShareOf l.latch) l.all.items;
  unspent : All (λ share. unspent share ≡ 1) l.all.items;
  fresh : All (λ share. gives_seen share ≡ []) l.all.items;
}
