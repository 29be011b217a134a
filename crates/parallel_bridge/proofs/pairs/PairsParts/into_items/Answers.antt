-- What comes are the pairs of the items, in order.
use Rattle.parallel_bridge.proofs.{ap, YieldsList-from_first, pair_items, pair_rest, pairs_of, came_as_it_is, stands_in}
use Rattle.parallel_bridge.proofs.pairs.PairsParts.into_items.Goals as goal

pub returns-clause-gives : goal.returns-clause-gives
returns-clause-gives g c xs drains = came_as_it_is xs drains
    (YieldsList-from_first (λ x. x) pair_rest (pair_items c.args.self)
    (ap (λ w. pairs_of w.items) c.from_vec.ensures))

pub returns-clause-may : goal.returns-clause-may
returns-clause-may g c =
    stands_in (YieldsList-from_first (λ x. x) pair_rest (pair_items c.args.self)
    (ap (λ w. pairs_of w.items) c.from_vec.ensures))
