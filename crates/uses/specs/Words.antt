-- The longest of several words.
use Rattle.std.specs.Prelude.{◌≡◌, ℕ, ◌<◌, ◌≤◌, List, ◌∷◌, ◌++◌, Option, Some, None, All, cond, length, nat_lt}
use Rattle.std.specs.Borrow.{Bor}

-- the second word where it is longer than the first, and the first otherwise; any word is longer
-- than none
abbrev pub longer_of : Option (Bor (List ℕ)) → Option (Bor (List ℕ)) → Option (Bor (List ℕ))
longer_of None second = second
longer_of (Some first) None = Some first
longer_of (Some first) (Some second) =
    cond (nat_lt (length first.now) (length second.now)) (Some second) (Some first)

-- the word is one of the list, longer than each before it and no shorter than each after it
abbrev pub IsFirstLongest : List (Bor (List ℕ)) → Bor (List ℕ) → Type 0
IsFirstLongest words word =
    (before after : List (Bor (List ℕ))) × (words ≡ before ++ (word ∷ after))
    × All (λ other. length other.now < length word.now) before
    × All (λ other. length other.now ≤ length word.now) after
