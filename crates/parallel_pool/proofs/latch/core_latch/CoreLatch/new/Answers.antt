-- One seat more, for one turn more.
use Rattle.std.proofs.lemmas.List.Elements.{All-push}
use Rattle.parallel_pool.proofs.{◌≡◌, All, IsLatchSeatOf, known, newcomer, rules, subst, sym}
use Rattle.parallel_pool.proofs.latch.core_latch.CoreLatch.new.Goals as goal

pub loop-preserved : goal.loop-preserved
loop-preserved c =
    let so_far = c.loop.invariant in
    let more = sym c.in_ok-push.ensures.items in
    record {
      count = search rules;
      founder = search rules;
      seats =
          subst (All (IsLatchSeatOf c.in_ok-latch.latch)) more
          (All-push (IsLatchSeatOf c.in_ok-latch.latch) _ _ so_far.seats (search rules));
      fresh =
          subst (All (λ seat. known seat ≡ newcomer)) more
          (All-push (λ seat. known seat ≡ newcomer) _ _ so_far.fresh (search rules));
    }
