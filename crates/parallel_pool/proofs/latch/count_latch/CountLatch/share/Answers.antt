-- A share cut off keeps the rule.
use Rattle.parallel_pool.proofs.{arith, shares}
use Rattle.parallel_pool.proofs.latch.count_latch.CountLatch.share.Goals as goal

pub split_seat-requires : goal.split_seat-requires
split_seat-requires c =
    (c.requires.belongs.0, omega (arith, c.args.self.now.one_word), shares _ _ _ c.requires.left)
