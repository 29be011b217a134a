-- as many as the lists so far have
use Rattle.parallel_bridge.proofs.{◌≡◌, length, take, keys_in, values_in}
use Rattle.parallel_bridge.proofs.list.moving.numbers_in.Given as goal

abbrev pub invariant-loop-pair : goal.invariant-loop-pair
invariant-loop-pair g l = (l.values ≡ length (values_in (take l.pair-index l.lists)))
    × (l.keys ≡ length (keys_in (take l.pair-index l.lists)))
