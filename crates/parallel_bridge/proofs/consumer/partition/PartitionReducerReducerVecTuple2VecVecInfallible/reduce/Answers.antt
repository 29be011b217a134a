-- The lists of the right part come after those of the left one.
use Rattle.parallel_bridge.proofs.{lists_joined}
use Rattle.parallel_bridge.proofs.consumer.partition.PartitionReducerReducerVecTuple2VecVecInfallible.reduce.Goals as goal

pub returns : goal.returns
returns g c = lists_joined c.append.new.self.items c.args.left.items c.args.right.items
    c.in_ok-append.ensures.items
