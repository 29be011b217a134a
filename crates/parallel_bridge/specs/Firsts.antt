-- The first item of a list at which something holds.
use Rattle.std.specs.Prelude.{◌≡◌, ℕ, List, ◌∷◌, ◌++◌, All, length}

-- it holds at the item, which has that many others before it, at each of which it fails
abbrev pub IsFirst : {X : Type 0} → (holds fails : X → Type 0) → List X → X → ℕ → Type 0
IsFirst {X = X} holds fails xs x place = (before : List X) × (after : List X)
    × (xs ≡ before ++ (x ∷ after)) × All fails before × holds x × (place ≡ length before)
