-- The chain from the identity.
use Rattle.parallel_bridge.proofs.{◌∷◌, []}
use Rattle.parallel_bridge.proofs.consumer.try_fold.TryFoldConsumerConsumer.into_folder.Goals as goal

pub returns-clause-gives : goal.returns-clause-gives
returns-clause-gives g c xs out (v, chain, gives) = (
  v,
  (c.identity.result, c.identity.ensures, chain),
  c.in_ok-base.ensures.gives (v ∷ []) out gives,
)
