-- What a claim gains: the front of a word.
use Rattle.std.specs.Prelude.{◌≡◌, ℕ}
use Rattle.std.specs.declared.ops.Range.{Range}
use Rattle.parallel_shares.specs.Words.{IsEmptyWord, IsWithin}
use Rattle.parallel_shares.specs.Sizes.{Sizes}
use Rattle.parallel_shares.specs.Answers.{claim_cells}

-- the cells of the front of some word that was not empty
abbrev pub IsFront : Sizes → Range ℕ → Type 0
IsFront sizes cells = (word : ℕ) × (¬ IsEmptyWord word) × IsWithin sizes.units word
    × (cells ≡ claim_cells sizes word)
