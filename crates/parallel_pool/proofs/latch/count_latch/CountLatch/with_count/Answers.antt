-- One share more, for one turn more.
use Rattle.std.proofs.lemmas.List.Elements.{All-push}
use Rattle.parallel_pool.proofs.{◌≡◌, All, [], arith, rules, subst, sym}
use Rattle.parallel_pool.specs.CountLatch.{IsShareOf, unspent, gives_seen}
use Rattle.parallel_pool.proofs.latch.count_latch.CountLatch.with_count.Goals as goal

pub loop-preserved : goal.loop-preserved
loop-preserved c =
    let so_far = c.loop.invariant in
    let more = sym c.in_ok-push.ensures.items in
    record {
      of = search rules;
      count = search rules;
      founder = search rules;
      left = omega arith;
      belong =
          subst (All (IsShareOf c.in_ok-latch.latch)) more
          (All-push (IsShareOf c.in_ok-latch.latch) _ _ so_far.belong (search rules));
      unspent =
          subst (All (λ share. unspent share ≡ 1)) more
          (All-push (λ share. unspent share ≡ 1) _ _ so_far.unspent (search rules));
      fresh =
          subst (All (λ share. gives_seen share ≡ [])) more
          (All-push (λ share. gives_seen share ≡ []) _ _ so_far.fresh (search rules));
    }
