-- A step adds the entry at its place, and a reduction adds two sums.
use Rattle.std.proofs.Common.{rules, ◌^◌, ℕ, arith}
use Rattle.std.specs.List.{slice_index}
use Rattle.parallel_bridge.proofs.WrappingSums.{sum_of_list}
use Rattle.uses.proofs.folds.sum_of_entries.Goals as goal

pub returns-clause-sum : goal.returns-clause-sum
returns-clause-sum g c =
    sum_of_list _ (2 ^ 64) (λ (place : ℕ). slice_index c.args.table.now place) _ _ _ c.fold.result
    c.fold.ensures.brackets (omega arith) (λ e k. search rules) (λ a x b k. search rules)
    (λ a b r k. search rules)
