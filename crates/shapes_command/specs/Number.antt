-- The numbers that the words of a command line write.
use Rattle.std.specs.Prelude.{◌≡◌, ◌≢◌, ℕ, ◌≤◌, ◌⊎◌, List, Option, None, Some, codes}
use Rattle.std.specs.Borrow.{Bor}
use Rattle.std.specs.NonZero.{non_zero_usize_get}
use Rattle.std.specs.declared.num.NonZeroUsize.{NonZeroUsize}
use Rattle.std.specs.Str.Parse.{IsNumeral, digits_value}

-- the text is one decimal digit or more, and nothing else, and writes a number that is at most so
-- great
abbrev pub IsNumberUpTo : ℕ → List ℕ → Type 0
IsNumberUpTo most text = IsNumeral 10 text × (digits_value 10 text ≤ most)

-- the same of a number that is not 0
abbrev pub IsCountUpTo : ℕ → List ℕ → Type 0
IsCountUpTo most text = IsNumeral 10 text × (1 ≤ digits_value 10 text)
    × (digits_value 10 text ≤ most)

-- `-`, or the same
abbrev pub IsCountOrNone : ℕ → List ℕ → Type 0
IsCountOrNone most text = (text ≡ codes "-") ⊎ IsCountUpTo most text

-- the number that such a text says: none for `-`, and else the one that it writes
abbrev pub CountsOrNone : ℕ → List ℕ → Option NonZeroUsize → Type 0
CountsOrNone most text None = text ≡ codes "-"
CountsOrNone most text (Some count) = IsCountUpTo most text
    × (non_zero_usize_get count ≡ digits_value 10 text)

-- the text that a word says: none for `-`, and else the word itself
abbrev pub IsTextOrNone : List ℕ → Option (Bor (List ℕ)) → Type 0
IsTextOrNone word None = word ≡ codes "-"
IsTextOrNone word (Some text) = (word ≢ codes "-") × (text.now ≡ word)
