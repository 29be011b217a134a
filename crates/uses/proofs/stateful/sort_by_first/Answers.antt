-- The closure compares first parts.
use Rattle.std.proofs.Common.{rules}
use Rattle.std.specs.Ordering.{nat_cmp, is_lt}
use Rattle.std.proofs.lemmas.Cmp.{nat_cmp_total}
use Rattle.std.proofs.lemmas.List.Sorted.{IsNonDecreasingBy-from_sort_by, answers_always, ranks_by}
use Rattle.uses.proofs.stateful.sort_by_first.Goals as goal

pub returns-clause-sorted : goal.returns-clause-sorted
returns-clause-sorted g c = IsNonDecreasingBy-from_sort_by
    (λ pair. pair.0) _ c.in_ok-answer.ensures.sorted (λ a r q k. search rules)

pub returns-clause-stable : goal.returns-clause-stable
returns-clause-stable g c =
    c.in_ok-answer.ensures.stable (λ x y. is_lt (nat_cmp x.0 y.0))
    (ranks_by nat_cmp_total (λ pair. pair.0)) (answers_always _ _ _ (λ f a r q k. search rules))
