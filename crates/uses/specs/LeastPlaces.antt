-- The first place of a list's least number.
use Rattle.std.specs.Prelude.{ℕ, ◌<◌, ◌≤◌, List, length}
use Rattle.std.specs.List.{slice_index}

-- the list has the place, whose number is no greater than any and less than each before it
abbrev pub IsLeastPlace : List ℕ → ℕ → Type 0
IsLeastPlace numbers place = (place < length numbers)
    × ((k : ℕ) → k < length numbers → slice_index numbers place ≤ slice_index numbers k)
    × ((k : ℕ) → k < place → slice_index numbers place < slice_index numbers k)
