-- The blocked workers so far were woken, up to `most`, and the list still has its room.
use Rattle.parallel_pool.proofs.{◌≡◌, ◌≤◌, vec_len, vec_capacity, IsWokenBelow}
use Rattle.parallel_pool.proofs.sleep.wake.wake_first.Given as goal

abbrev pub invariant-loop-worker : goal.invariant-loop-worker
invariant-loop-worker l = record {
  woken : IsWokenBelow l.most l.fn.standings l.worker l.woken.items l.standings;
  few : vec_len l.woken ≤ l.worker;
  room : vec_capacity l.woken ≡ vec_capacity l.fn.woken;
}
