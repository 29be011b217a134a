-- What samples of one kind say, in nanoseconds.
use Rattle.std.specs.Prelude.{ℕ, ◌+◌, ◌*◌, ◌/◌, Option, Some, None, List, [], ◌∷◌}

-- an old estimate and a sample, weighed four to one and rounded down
abbrev pub mean : ℕ → ℕ → ℕ
mean old sample = (4 * old + sample) / 5

-- the estimate after one more sample: the sample itself where there was none
abbrev pub blended : Option ℕ → ℕ → Option ℕ
blended None sample = Some sample
blended (Some old) sample = Some (mean old sample)

-- the estimate of a list of samples, the latest first: the first sample, with the mean folded over
-- the later ones
abbrev pub estimated : List ℕ → Option ℕ
estimated [] = None
estimated (sample ∷ older) = blended (estimated older) sample
