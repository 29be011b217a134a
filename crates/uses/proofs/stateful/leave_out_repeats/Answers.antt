-- The list is the slice, and each call of the closure enters a number or a gap.
use Rattle.std.proofs.Common.{rules}
use Rattle.uses.proofs.Repeats.{filled_list}
use Rattle.uses.proofs.stateful.leave_out_repeats.Goals as goal

pub returns-clause-told : goal.returns-clause-told
returns-clause-told g c =
    filled_list _ _ _ c.map_init_collect_vec.result c.map_init_collect_vec.ensures.stateful
    (λ s k. search rules) (λ s x y t k. search rules)
