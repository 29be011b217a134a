-- A list that nothing watches isn't stopped, and it is cut into few segments.
use Rattle.parallel_bridge.proofs.{arith, cutdepth, driven_unhalted, shape_by_items, shape_by_threads, unstopped}
use Rattle.parallel_bridge.proofs.Feeds.{unstopped_halts}
use Rattle.parallel_bridge.proofs.Watches.{not_stopped}
use Rattle.parallel_bridge.proofs.bridge.bridge.Goals as goal

pub unhalt-requires : goal.unhalt-requires
unhalt-requires g c =
    not_stopped c.bridge_watched-done.result.0 c.bridge_watched-done.ensures.ends

pub returns-clause-along : goal.returns-clause-along
returns-clause-along g c =
    let gives = g.P.Parts.gives in let leaf = g.C.Consumer.leaf_gives c.args.consumer in
    let node = g.C.Consumer.node_gives c.args.consumer in
    driven_unhalted leaf node (λ p. unstopped (node p)) (λ p. unstopped_halts (node p))
    gives c.args.parts (cutdepth c.args.threads.value) c.bridge_watched-done.result.0 c.unhalt.result
    c.bridge_watched-done.ensures.along c.unhalt.ensures

pub returns-clause-by_threads : goal.returns-clause-by_threads
returns-clause-by_threads g c xs =
    shape_by_threads c.args.threads.value xs (omega arith) (omega arith)

pub returns-clause-by_items : goal.returns-clause-by_items
returns-clause-by_items g c xs some = shape_by_items (cutdepth c.args.threads.value) xs some
