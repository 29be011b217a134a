-- What a packed word says: a range of units, `start * 65536 + end`.
use Rattle.std.specs.Prelude.{◌≡◌, ℕ, ◌+◌, ◌*◌, ◌/◌, ◌%◌, ◌≤◌}
use Rattle.std.specs.declared.ops.Range.{Range}

-- the first unit that is left in a word
abbrev pub start_of : ℕ → ℕ
start_of word = word / 65536

-- the unit after the last one that is left in a word
abbrev pub end_of : ℕ → ℕ
end_of word = word % 65536

-- the range of units that is left in a word
abbrev pub range_of : ℕ → Range ℕ
range_of word = record { start = start_of word; end = end_of word }

-- the word of a range of units
abbrev pub packed : ℕ → ℕ → ℕ
packed start end = start * 65536 + end

-- no unit is left in the word
abbrev pub IsEmptyWord : ℕ → Type 0
IsEmptyWord word = start_of word ≡ end_of word

-- the word holds a range of the units below a number
abbrev pub IsWithin : ℕ → ℕ → Type 0
IsWithin units word = (start_of word ≤ end_of word) × (end_of word ≤ units)
