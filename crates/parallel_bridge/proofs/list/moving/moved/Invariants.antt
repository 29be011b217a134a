-- what is in the rooms, and then what is left of the lists, is all
use Rattle.parallel_bridge.proofs.{◌≡◌, ◌++◌, length, SamePlaces, keys_in, values_in}
use Rattle.parallel_bridge.proofs.list.moving.moved.Given as goal

abbrev pub invariant-loop-pairs : goal.invariant-loop-pairs
invariant-loop-pairs g l = SamePlaces l.fn.values l.values × (l.values.before ≡ 0)
    × (l.values.items ++ values_in l.pairs.items ≡ values_in l.fn.lists.items)
    × SamePlaces l.fn.keys l.keys × (l.keys.before ≡ 0)
    × (l.keys.items ++ keys_in l.pairs.items ≡ keys_in l.fn.lists.items)

abbrev pub decreases-loop-pairs : goal.decreases-loop-pairs
decreases-loop-pairs g l = length l.pairs.items
