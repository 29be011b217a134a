-- Sorted by their places, the stretches follow one another.
use Rattle.commonware_parallel.proofs.{rules, IsNonDecreasingBy-from_sort_by_key, wrapped_place, sorted_follow}
use Rattle.commonware_parallel.proofs.tiles.merged.merge_sorted.Goals as goal

pub merge_ordered-requires-clause-there : goal.merge_ordered-requires-clause-there
merge_ordered-requires-clause-there g c =
    (sorted_follow c.args.rows c.args.len c.args.parts.items _ c.requires.some_columns
    c.requires.fits c.requires.cut c.sort_unstable_by_key.ensures.permutation
    (IsNonDecreasingBy-from_sort_by_key (λ p. wrapped_place c.args.len p.0) _
    c.sort_unstable_by_key.ensures.sorted (λ a r q k. search rules))).0

pub merge_ordered-requires-clause-follow : goal.merge_ordered-requires-clause-follow
merge_ordered-requires-clause-follow g c =
    (sorted_follow c.args.rows c.args.len c.args.parts.items _ c.requires.some_columns
    c.requires.fits c.requires.cut c.sort_unstable_by_key.ensures.permutation
    (IsNonDecreasingBy-from_sort_by_key (λ p. wrapped_place c.args.len p.0) _
    c.sort_unstable_by_key.ensures.sorted (λ a r q k. search rules))).1

pub returns-clause-merges : goal.returns-clause-merges
returns-clause-merges g c =
    (_, c.sort_unstable_by_key.ensures.permutation, c.in_ok-values.ensures.values)
