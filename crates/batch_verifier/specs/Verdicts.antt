-- What a check of many items finds.
use Rattle.std.specs.Prelude.{◌≡◌, ℕ, ◌<◌, ◌≤◌, List, ◌∷◌, ◌++◌, All, Bool, true, false, Option, Some, None, Result, MatchResult, length, ◌+◌, ◌%◌, ◌^◌, ⊤}
use Rattle.std.specs.Borrow.{Bor}
use Rattle.std.specs.List.{AllWithin, HoldsAt}
use Rattle.sha2.specs.Sha256.{sha256}
use Rattle.parallel_bridge.specs.Firsts.{IsFirst}

-- the item at the index may fail, and each item before it may pass
abbrev pub IsFirstFailing : {X : Type 0} → (X → Bool → Type 0) → List X → ℕ → Type 0
IsFirstFailing verdict xs index =
    (index < length xs) × HoldsAt (λ x. verdict x false) xs index
    × AllWithin (λ x. verdict x true) xs 0 index

-- an item with a value where it may pass, and without one where it may fail; both are the item
-- itself
abbrev pub IsSortedOut : {X : Type 0} → (X → Bool → Type 0) → X → (X × Option X) → Type 0
IsSortedOut verdict x (key, Some value) = (key ≡ x) × (value ≡ x) × verdict x true
IsSortedOut verdict x (key, None) = (key ≡ x) × verdict x false

-- each verdict is the one that the test gives
abbrev pub GoesByTest : {X : Type 0} → (X → Bool → Type 0) → (X → Bool) → Type 0
GoesByTest {X = X} allowed test = (x : X) (verdict : Bool) → allowed x verdict → verdict ≡ test x

-- a number of the list is above the limit, and none before it
abbrev pub IsFirstOver : ℕ → List ℕ → ℕ → Type 0
IsFirstOver limit xs over =
    (before : List ℕ) × (after : List ℕ) × (xs ≡ before ++ (over ∷ after))
    × All (λ y. y ≤ limit) before × (limit < over)

-- a result where the item at the index may pass, and an error, which is the index, where it may
-- fail
abbrev pub Judges : {X Y : Type 0} → (X → Bool → Type 0) → List X → ℕ → Result Y ℕ → Type 0
Judges verdict xs i out = MatchResult out (λ _. HoldsAt (λ x. verdict x true) xs i)
    (λ e. (e ≡ i) × HoldsAt (λ x. verdict x false) xs i)

-- the next sum, which wraps around at 2 to the power of 64, where the number is within the limit;
-- and an error, the number itself, where it is above
abbrev pub AddsWithin : ℕ → ℕ → ℕ → Result ℕ ℕ → Type 0
AddsWithin limit a x out =
    MatchResult out (λ b. (b ≡ (a + x) % 2 ^ 64) × (x ≤ limit)) (λ e. (e ≡ x) × (limit < x))

-- the digest that a message is given with is its own by SHA-256
abbrev pub HasItsDigest : (Bor (List ℕ) × List ℕ) → Type 0
HasItsDigest (message, digest) = sha256 message.now ≡ digest

-- a result where the pair's digest is its message's, and an error, which is the pair's index, where
-- it isn't
abbrev pub JudgesDigest : (ℕ × (Bor (List ℕ) × List ℕ)) → Result ⊤ ℕ → Type 0
JudgesDigest item out =
    MatchResult out (λ _. HasItsDigest item.1) (λ e. (e ≡ item.0) × (¬ HasItsDigest item.1))

-- the digest of the pair at the index isn't its message's, and that of each pair before it is
abbrev pub IsFirstMismatch : List (Bor (List ℕ) × List ℕ) → ℕ → Type 0
IsFirstMismatch pairs index = (pair : Bor (List ℕ) × List ℕ)
    × IsFirst (λ other. ¬ HasItsDigest other) HasItsDigest pairs pair index
