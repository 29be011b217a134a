-- What a folder gives that hands its results to a folder below it, which may be full.
use Rattle.std.specs.Prelude.{◌≡◌, ◌⊎◌, Bool, true, false, List, [], ◌∷◌, ◌++◌}

-- `results` is what items come to, `gives` what the folder below gives for results. Where that one
-- may come to be full, the results of the first items do, if what it gives for them it gives
-- whatever comes after them: then the others need not be mapped
abbrev pub OnResults : {X T O : Type 0} → Bool → (List X → List T → Type 0)
    → (List T → O → Type 0) → List X → O → Type 0
OnResults {T = T} false results gives xs out = (ys : List T) × results xs ys × gives ys out
OnResults {X = X} {T = T} true results gives xs out =
    ((ys : List T) × results xs ys × gives ys out)
    ⊎ ((first rest : List X) × (ys : List T) × (xs ≡ first ++ rest) × results first ys
    × ((more : List T) → gives (ys ++ more) out))

-- the same of items that come to one value, which the folder below takes at the end: where it may
-- be full, what it gives may be what it gives for anything
abbrev pub OnValue : {X U O : Type 0} → Bool → (List X → U → Type 0) → (List U → O → Type 0)
    → List X → O → Type 0
OnValue {U = U} false value gives xs out = (b : U) × value xs b × gives (b ∷ []) out
OnValue {U = U} true value gives xs out = ((b : U) × value xs b × gives (b ∷ []) out)
    ⊎ ((values : List U) → gives values out)
