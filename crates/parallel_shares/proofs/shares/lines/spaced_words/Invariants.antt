-- The words so far lie apart.
use Rattle.parallel_shares.proofs.{◌≡◌, take, spaced}
use Rattle.parallel_shares.proofs.shares.lines.spaced_words.Given as goal

abbrev pub invariant-loop-word : goal.invariant-loop-word
invariant-loop-word l = l.all.items ≡ spaced (take l.word-index l.words)
