-- What the ranges of a batch cover, and what is written by them.
use Rattle.std.specs.Prelude.{◌≡◌, ℕ, List, map}
use Rattle.std.specs.Borrow.{Bor}
use Rattle.std.specs.List.{flat_map, range_with_len}
use Rattle.std.specs.declared.ops.Range.{Range}
use Rattle.sha2.specs.Sha256.{sha256}
use Rattle.parallel_shares.specs.Cut.{range_length}

-- the indices of a range, in order
abbrev pub indices_of : Range ℕ → List ℕ
indices_of range = range_with_len range.start (range_length range)

-- the indices of one range after another are the indices below len, each once and in order
abbrev pub CoversOnce : ℕ → List (Range ℕ) → Type 0
CoversOnce len ranges = flat_map indices_of ranges ≡ range_with_len 0 len

-- the digests by SHA-256 of messages that are borrowed
abbrev pub digests_of : List (Bor (List ℕ)) → List (List ℕ)
digests_of messages = map (λ (message : Bor (List ℕ)). sha256 message.now) messages
