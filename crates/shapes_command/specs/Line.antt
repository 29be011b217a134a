-- The lines that a command writes.
use Rattle.std.specs.Prelude.{◌≡◌, ℕ, ◌<◌, ◌⊎◌, Option, List, [], ◌∷◌, ◌++◌, codes, length}
use Rattle.std.specs.Io.KnownBytes.{Appends, Keeps}

-- a text with a line break after it
abbrev pub as_line : List ℕ → List ℕ
as_line text = text ++ 10 ∷ []

-- what is written of words that are no command line
abbrev pub bad_arguments_line : List ℕ
bad_arguments_line = as_line (codes "shapes: bad arguments")

-- what is written of a command that was refused memory
abbrev pub out_of_memory_line : List ℕ
out_of_memory_line = as_line (codes "shapes: out of memory")

-- what is written of a search that found a difference
abbrev pub difference_line : List ℕ
difference_line = as_line (codes "shapes: the Parallel run must return the serial run's output")

-- the one is a beginning of the line, and not all of it
abbrev pub IsBeginning : List ℕ → List ℕ → Type 0
IsBeginning part line = (rest : List ℕ) × (0 < length rest) × (line ≡ part ++ rest)

-- known bytes grow by a beginning of the line
abbrev pub AppendsPart : Option (List ℕ) → Option (List ℕ) → List ℕ → Type 0
AppendsPart old new line = (part : List ℕ) × IsBeginning part line × Appends old new part

-- known bytes stay as they were, or grow by a beginning of such a line
abbrev pub AppendsPartOf : (List ℕ → Type 0) → Option (List ℕ) → Option (List ℕ) → Type 0
AppendsPartOf IsLine old new = Keeps old new
    ⊎ ((line : List ℕ) × IsLine line × AppendsPart old new line)
