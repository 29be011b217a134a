-- What a partition may return.
use Rattle.std.specs.Prelude.{◌≡◌, List, [], ◌∷◌, ◌++◌, Option, Some, None}
use Rattle.std.specs.declared.vec.Vec.{Vec}
use Rattle.std.specs.declared.alloc.Global.{Global}
use Rattle.parallel_bridge.specs.Lists.{MapOf}

-- the values of the pairs that have one, in order
abbrev pub values_of : {K U : Type 0} → List (K × Option U) → List U
values_of [] = []
values_of ((k, Some u) ∷ ps) = u ∷ values_of ps
values_of ((k, None) ∷ ps) = values_of ps

-- the keys of the pairs without a value, in order
abbrev pub keys_of : {K U : Type 0} → List (K × Option U) → List K
keys_of [] = []
keys_of ((k, Some u) ∷ ps) = keys_of ps
keys_of ((k, None) ∷ ps) = k ∷ keys_of ps

-- us are the values, and ks the keys of the items without one, of pairs that are allowed for the
-- items place by place
abbrev pub PartitionOf : {X K U : Type 0} → (X → (K × Option U) → Type 0) → List X → List U → List K
    → Type 0
PartitionOf {K = K} {U = U} allowed xs us ks = (ps : List (K × Option U)) × MapOf allowed xs ps
    × (us ≡ values_of ps) × (ks ≡ keys_of ps)

-- the values in pairs of lists, one list after another
abbrev pub values_in : {K U : Type 0} → List (Vec U Global × Vec K Global) → List U
values_in [] = []
values_in (p ∷ ps) = p.0.items ++ values_in ps

-- the keys in pairs of lists, one list after another
abbrev pub keys_in : {K U : Type 0} → List (Vec U Global × Vec K Global) → List K
keys_in [] = []
keys_in (p ∷ ps) = p.1.items ++ keys_in ps
