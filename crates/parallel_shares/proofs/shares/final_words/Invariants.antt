-- The words so far are those at the places of their shares.
use Rattle.parallel_shares.proofs.{◌≡◌, ℕ, ◌<◌, ◌≤◌, length, get_or, vec_capacity, slots_items, place_of}
use Rattle.parallel_shares.proofs.shares.final_words.Given as goal

abbrev pub invariant-loop-share : goal.invariant-loop-share
invariant-loop-share l = record {
  each : (k : ℕ) → k < l.share
      → get_or l.last.items k 0 ≡ get_or (slots_items l.closed.words) (place_of k) 0;
  count : length l.last.items ≡ l.share;
  room : l.count ≤ vec_capacity l.last;
}
