-- The closure orders the items by their keys.
use Rattle.std.proofs.Common.{rules}
use Rattle.std.proofs.lemmas.List.Sorted.{ranks_by}
use Rattle.parallel_calls.specs.Keys.{less_by}
use Rattle.parallel_calls.proofs.on.On.min_by_key.Goals as goal

pub returns-clause-least : goal.returns-clause-least
returns-clause-least g c key_of goes = c.min_by.ensures.least (less_by g.K.Ord.cmp key_of)
    (ranks_by c.order_law.ensures key_of) (λ x y o h. search rules)
