-- How the words of a table lie apart, so that no two that are used lie on one cache line.
use Rattle.std.specs.Prelude.{◌≡◌, ℕ, ◌+◌, ◌*◌, ◌/◌, List, [], ◌∷◌, flat_map}
use Rattle.atomic_table.specs.Table.{State}

-- a word in the middle of 16, which together are 128 bytes
abbrev pub line_of : ℕ → List ℕ
line_of word =
    0 ∷ 0 ∷ 0 ∷ 0 ∷ 0 ∷ 0 ∷ 0 ∷ 0 ∷ word ∷ 0 ∷ 0 ∷ 0 ∷ 0 ∷ 0 ∷ 0 ∷ 0 ∷ []

-- the words of the table in which these are used
unfoldable pub spaced : List ℕ → List ℕ
spaced words = flat_map line_of words

-- the place of a share's word in the table, and the share whose word is at a place
abbrev pub place_of : ℕ → ℕ
place_of share = share * 16 + 8

abbrev pub share_at : ℕ → ℕ
share_at place = place / 16

-- the table as its rule sees it: with the words that are used
abbrev pub used : {S V : Type 0} → State S V → List ℕ → State S V
used state words = record { words = words; homes = state.homes; views = state.views }

-- A rule holds of the words that are used, each of which is the middle one of 16 words of the
-- table; the others stay 0. The rule, the views and what a step says speak of the used words as if
-- they were side by side.
abbrev pub Spaced : {S V : Type 0} → (State S V → Type 0) → State S V → Type 0
Spaced holds state =
    (words : List ℕ) × (state.words ≡ spaced words) × holds (used state words)
