-- The words of the shares so far, and where the next one begins.
use Rattle.parallel_shares.proofs.{◌≡◌, opening_start, opening_words}
use Rattle.parallel_shares.proofs.machine.rows.opening_words.Given as goal

abbrev pub invariant-loop-share : goal.invariant-loop-share
invariant-loop-share l = record {
  start : l.start ≡ opening_start l.plan l.share;
  words : l.words.items ≡ opening_words l.plan l.share;
}
