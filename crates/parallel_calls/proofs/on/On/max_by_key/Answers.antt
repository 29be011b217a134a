-- The closure orders the items by their keys.
use Rattle.std.proofs.Common.{rules}
use Rattle.std.proofs.lemmas.List.Sorted.{ranks_by}
use Rattle.parallel_calls.specs.Keys.{less_by}
use Rattle.parallel_calls.proofs.on.On.max_by_key.Goals as goal

pub returns-clause-greatest : goal.returns-clause-greatest
returns-clause-greatest g c key_of goes = c.max_by.ensures.greatest (less_by g.K.Ord.cmp key_of)
    (ranks_by c.order_law.ensures key_of) (λ x y o h. search rules)
