-- The value at a key of a map, where there may be none.
use Rattle.std.specs.Prelude.{◌≡◌, Option, MatchOption}

-- it is the value that was found, or else one that is a default
abbrev pub IsEntryOr : {V : Type 0} → (V → Type 0) → Option V → V → Type 0
IsEntryOr is_default found value = MatchOption found (is_default value) (λ v. value ≡ v)
