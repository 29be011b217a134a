-- What loops put after what is there already.
use Rattle.std.specs.Prelude.{◌≡◌, List, ◌++◌, Result, Ok, Err, Option}
use Rattle.parallel_bridge.specs.Tries.{EachOk, FirstErr, TryChain}
use Rattle.parallel_bridge.specs.Parts.{PartitionOf}

-- the values that were there with a value after them for each item in its place; or the first
-- failing item's error
abbrev pub TryMapOnto : {X Y E : Type 0} → (X → Result Y E → Type 0) → List Y → List X
    → Result (List Y) E → Type 0
TryMapOnto {Y = Y} allowed before xs (Ok ys) = (new : List Y) × (ys ≡ before ++ new)
    × EachOk allowed xs new
TryMapOnto allowed before xs (Err e) = FirstErr allowed xs e

-- the values and keys that were there with those of the items after them
abbrev pub PartitionOnto : {X K U : Type 0} → (X → (K × Option U) → Type 0) → List U → List K
    → List X → List U → List K → Type 0
PartitionOnto {K = K} {U = U} allowed values keys xs us ks = (new_us : List U) × (new_ks : List K)
    × (us ≡ values ++ new_us) × (ks ≡ keys ++ new_ks) × PartitionOf allowed xs new_us new_ks

-- after the values that are there, or after an error, which stands
abbrev pub TryMapBehind : {X Y E : Type 0} → (X → Result Y E → Type 0) → Result (List Y) E → List X
    → Result (List Y) E → Type 0
TryMapBehind allowed (Ok before) xs out = TryMapOnto allowed before xs out
TryMapBehind allowed (Err e) xs out = out ≡ Err e

-- a chain from a value up to the first step that fails, or an error, which stands
abbrev pub TryContinues : {X R E : Type 0} → (R → X → Result R E → Type 0) → Result R E → List X
    → Result R E → Type 0
TryContinues step (Ok a) xs out = TryChain step a xs out
TryContinues step (Err e) xs out = out ≡ Err e

-- a value is reduced with a value, and gives way to an error
abbrev pub ReducesTo : {R E : Type 0} → (R → R → R → Type 0) → R → Result R E → Result R E → Type 0
ReducesTo {R = R} reduce a (Ok b) out = (r : R) × (out ≡ Ok r) × reduce a b r
ReducesTo reduce a (Err e) out = out ≡ Err e
