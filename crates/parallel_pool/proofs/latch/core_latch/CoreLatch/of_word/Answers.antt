-- At the beginning no call was made.
use Rattle.parallel_pool.proofs.{latch_opens}
use Rattle.parallel_pool.proofs.latch.core_latch.CoreLatch.of_word.Goals as goal

pub of_words-requires : goal.of_words-requires
of_words-requires c = latch_opens
