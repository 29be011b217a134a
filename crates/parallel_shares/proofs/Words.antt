-- The two ends of a packed word, and its parts.
use Rattle.parallel_shares.proofs.Common.{◌≡◌, ℕ, ◌+◌, ◌<◌, ◌≤◌, arith, div-mul-add, mod-mul-add, start_of, end_of, packed, IsEmptyWord, IsWithin, Sizes, IsSound, claim_stop, middle_of, Pays, inside, in_word}
use Rattle.parallel_shares.proofs.Counts.{inside_cut}

pub start_of_packed : (start end : ℕ) → end ≤ 65535 → start_of (packed start end) ≡ start
start_of_packed start end h = div-mul-add start 65536 end (omega arith)

pub end_of_packed : (start end : ℕ) → end ≤ 65535 → end_of (packed start end) ≡ end
end_of_packed start end h = mod-mul-add start 65536 end (omega arith)

-- a packed range of units is a word within them
pub within_packed : (units start end : ℕ) → units ≤ 65535 → start ≤ end → end ≤ units
    → IsWithin units (packed start end)
within_packed units start end fit o h = (
  omega (arith, start_of_packed start end (omega arith), end_of_packed start end (omega arith)),
  omega (arith, end_of_packed start end (omega arith)),
)

-- ---- what a claim and a steal take

-- a word is its front and what is left after it
pub cut_front : (u word stop : ℕ) → start_of word ≤ stop → stop ≤ end_of word → end_of word ≤ 65535
    → in_word u (packed stop (end_of word)) + inside u (start_of word) stop ≡ in_word u word
cut_front u word stop a b f =
    rw (start_of_packed stop (end_of word) f, end_of_packed stop (end_of word) f)
    (omega (arith, inside_cut u (start_of word) stop (end_of word) a b))

-- a word is its back and what is left before it
pub cut_back : (u word middle : ℕ) → start_of word ≤ middle → middle ≤ end_of word
    → end_of word ≤ 65535 → in_word u (packed (start_of word) middle) + inside u middle
    (end_of word) ≡ in_word u word
cut_back u word middle a b f =
    rw (
      start_of_packed (start_of word) middle (omega arith),
      end_of_packed (start_of word) middle (omega arith),
    )
    (inside_cut u (start_of word) middle (end_of word) a b)

-- a claim is a nonempty front of a word that is not empty
pub claim_front : (sizes : Sizes) → IsSound sizes → (word : ℕ) → IsWithin sizes.units word
    → ¬ IsEmptyWord word → (start_of word < claim_stop sizes word)
    × (claim_stop sizes word ≤ end_of word) × (end_of word ≤ sizes.units)
claim_front sizes sound word inner some_left =
    let l : start_of word < end_of word = omega (arith, inner.0, some_left) in
    (omega (arith, sound.claim_counts), omega arith, inner.1)

-- both halves of a word whose split pays have units
pub two_halves : (sizes : Sizes) (word : ℕ) → IsWithin sizes.units word → Pays sizes word
    → (start_of word < middle_of word) × (middle_of word < end_of word)
    × (end_of word ≤ sizes.units)
two_halves sizes word inner pays =
    (omega (arith, pays.0), omega (arith, pays.0), inner.1)
