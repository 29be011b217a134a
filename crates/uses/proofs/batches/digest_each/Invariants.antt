-- the digests before the turn's are written
use Rattle.std.proofs.Common.{◌≡◌, ℕ, ◌<◌, [], slice_index_or}
use Rattle.uses.specs.Batches.{digests_of}
use Rattle.uses.proofs.batches.digest_each.Given as goal

abbrev pub invariant-loop-k : goal.invariant-loop-k
invariant-loop-k l = (j : ℕ) → j < l.k
    → slice_index_or l.digests j [] ≡ slice_index_or (digests_of l.messages) j []
