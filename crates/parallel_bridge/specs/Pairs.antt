-- The neighbouring pairs of a list, and the lists that have them.
use Rattle.std.specs.Prelude.{List, [], ◌∷◌, Option, Some, None}
use Rattle.parallel_bridge.specs.declared.pairs.PairDrain.{PairDrain}
use Rattle.parallel_bridge.specs.declared.pairs.Pairs.{Pairs}

-- the items two at a time, in order; the last one of an odd number is in no pair
abbrev pub pairs_of : {T : Type 0} → List T → List (T × T)
pairs_of [] = []
pairs_of (x ∷ []) = []
pairs_of (x ∷ (y ∷ xs)) = (x, y) ∷ pairs_of xs

-- the last one of an odd number of items
abbrev pub odd_of : {T : Type 0} → List T → Option T
odd_of [] = None
odd_of (x ∷ []) = Some x
odd_of (x ∷ (y ∷ xs)) = odd_of xs

-- the pairs of a list that is taken two at a time
abbrev pub pair_items : {T : Type 0} → Pairs T → List (T × T)
pair_items pairs = pairs_of pairs.items.items

-- the pairs that are still to come
abbrev pub pair_rest : {T : Type 0} → PairDrain T → List (T × T)
pair_rest drain = pairs_of drain.rest.items
