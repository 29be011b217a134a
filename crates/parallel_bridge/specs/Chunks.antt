-- A list in neighbouring chunks of one length, of which the last one may be short.
use Rattle.std.specs.Prelude.{ℕ, zero, suc, List, [], ◌∷◌, length, take, drop}
use Rattle.std.specs.Int.{div_ceil}

-- that many chunks of a list from its front on, each of size items, or of what is left
abbrev pub pieces_of : {T : Type 0} → ℕ → ℕ → List T → List (List T)
pieces_of zero size xs = []
pieces_of (suc n) size xs = take size xs ∷ pieces_of n size (drop size xs)

-- the chunks of size items that a list is cut into; the last one has what is left
abbrev pub chunks_of : {T : Type 0} → ℕ → List T → List (List T)
chunks_of size xs = pieces_of (div_ceil (length xs) size) size xs
