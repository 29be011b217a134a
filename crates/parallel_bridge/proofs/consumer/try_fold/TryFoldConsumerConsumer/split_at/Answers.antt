-- What a half gives by its base, the whole gives by its own.
use Rattle.parallel_bridge.proofs.{◌∷◌, []}
use Rattle.parallel_bridge.proofs.consumer.try_fold.TryFoldConsumerConsumer.split_at.Goals as goal

pub returns-clause-left_leaf : goal.returns-clause-left_leaf
returns-clause-left_leaf g c xs out (v, segment, gives) =
    (v, segment, c.in_ok-left.ensures.left_leaf (v ∷ []) out gives)

pub returns-clause-right_leaf : goal.returns-clause-right_leaf
returns-clause-right_leaf g c xs out (v, segment, gives) =
    (v, segment, c.in_ok-left.ensures.right_leaf (v ∷ []) out gives)
