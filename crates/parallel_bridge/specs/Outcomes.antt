-- What is said of a result that may be an error of the caller's closure, or a refusal.
use Rattle.std.specs.Prelude.{◌≡◌, ◌<◌, List, [], ◌∷◌, ◌++◌, length, Result, Ok, Err, Option, Some, None}
use Rattle.std.specs.declared.vec.Vec.{Vec}
use Rattle.std.specs.declared.alloc.Global.{Global}
use Rattle.parallel_fault.specs.declared.fault.Trouble.{Trouble}
use Rattle.parallel_fault.specs.declared.fault.Fault.TheVariants.{Memory}
use Rattle.parallel_fault.specs.declared.fault.Trouble.TheVariants.{Closure}
use Rattle.parallel_fault.specs.declared.fault.Trouble.TheVariants.{Fault as OfFault}

-- For a call whose closure has an error of its own: allowed holds of the result, or of the
-- closure's error; a refusal is `Memory`.
abbrev pub UnlessRefused : {R E : Type 0} → Result R (Trouble E) → (Result R E → Type 0) → Type 0
UnlessRefused (Ok r) allowed = allowed (Ok r)
UnlessRefused (Err (Closure e)) allowed = allowed (Err e)
UnlessRefused (Err (OfFault f)) allowed = f ≡ Memory

-- the result as a list, where there is one
abbrev pub listed : {T E : Type 0} → Result (Vec T Global) E → Result (List T) E
listed (Ok v) = Ok v.items
listed (Err e) = Err e

-- the values so far, or the error that ended them
abbrev pub ended : {T E : Type 0} → List T → Option E → Result (List T) E
ended xs None = Ok xs
ended xs (Some e) = Err e

-- the items of several owned lists, one list after another
abbrev pub joined : {T : Type 0} → List (Vec T Global) → List T
joined [] = []
joined (v ∷ vs) = v.items ++ joined vs

-- each list has an item
abbrev pub EachHasItems : {T : Type 0} → List (Vec T Global) → Type 0
EachHasItems [] = Unit {0}
EachHasItems (v ∷ vs) = (0 < length v.items) × EachHasItems vs

-- the items in one list, and no list where there are no items, nor one without any
abbrev pub IsListed : {T : Type 0} → List T → List (Vec T Global) → Type 0
IsListed xs all = (joined all ≡ xs) × (xs ≡ [] → all ≡ []) × EachHasItems all

-- of two neighbours' outcomes the left one's trouble stands, after a value of it the right one's,
-- and two values are put together as node allows
abbrev pub PutTogether : {R E : Type 0} → (R → R → Result R E → Type 0) → Result R (Trouble E)
    → Result R (Trouble E) → Result R (Trouble E) → Type 0
PutTogether node (Err t) second result = result ≡ Err t
PutTogether node (Ok a) (Err t) result = result ≡ Err t
PutTogether node (Ok a) (Ok b) result = UnlessRefused result (λ out. node a b out)
