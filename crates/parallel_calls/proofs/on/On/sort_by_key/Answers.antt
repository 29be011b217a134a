-- The closure orders the items by their keys.
use Rattle.std.proofs.Common.{ap}
use Rattle.std.specs.Ordering.{is_lt}
use Rattle.std.proofs.lemmas.Fn.{always_returns_same}
use Rattle.std.proofs.lemmas.List.Sorted.{ranks_by}
use Rattle.std.proofs.lemmas.Result.{on_ok_weaker}
use Rattle.parallel_calls.specs.Keys.{less_by}
use Rattle.parallel_calls.proofs.on.On.sort_by_key.Goals as goal

pub returns-clause-sorted : goal.returns-clause-sorted
returns-clause-sorted g c key_of goes = on_ok_weaker c.sort_by.result
    (λ sorted. sorted (less_by g.K.Ord.cmp key_of) (ranks_by c.order_law.ensures key_of)
    (always_returns_same _ _ _ (λ a r f' k. (ap is_lt (k.met.0 key_of goes), k.met.1))))
    c.sort_by.ensures.sorted

pub returns-clause-stable : goal.returns-clause-stable
returns-clause-stable g c key_of goes = c.sort_by.ensures.stable (less_by g.K.Ord.cmp key_of)
    (ranks_by c.order_law.ensures key_of)
    (always_returns_same _ _ _ (λ a r f' k. (ap is_lt (k.met.0 key_of goes), k.met.1)))
