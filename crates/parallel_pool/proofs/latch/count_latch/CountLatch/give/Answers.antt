-- The count goes down by the share, and what it found tells the result.
use Rattle.std.proofs.lemmas.Grind.{common_steps}
use Rattle.parallel_pool.proofs.{arith, gives}
use Rattle.parallel_pool.proofs.latch.count_latch.CountLatch.give.Goals as goal

pub fetch_sub-left-requires : goal.fetch_sub-left-requires
fetch_sub-left-requires c = (
  c.requires.belongs.0,
  omega (arith, c.args.self.now.one_word),
  gives _ _ _ _ c.requires.unspent,
)

pub returns-then-is_last-clause-last : goal.returns-then-is_last-clause-last
returns-then-is_last-clause-last c = grind (arith, common_steps)
