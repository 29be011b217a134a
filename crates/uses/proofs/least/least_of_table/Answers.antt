-- The closure orders places by their numbers.
use Rattle.std.proofs.Common.{rules, ◌-◌, ℕ, length}
use Rattle.std.specs.List.{slice_index}
use Rattle.std.proofs.lemmas.List.MinMax.{IsStrictWeakOrder-by_number}
use Rattle.std.proofs.lemmas.Result.{IfOk-weaker}
use Rattle.uses.proofs.LeastPlaces.{least_place, less_at}
use Rattle.uses.proofs.least.least_of_table.Goals as goal

pub returns-clause-least : goal.returns-clause-least
returns-clause-least g c = IfOk-weaker c.min_by.result _ _ (λ found w. least_place
    c.args.table.now w.0 (length c.args.table.now - 0) found w.2 (search rules) (search rules))
    (c.min_by.ensures.least (less_at c.args.table.now)
    (IsStrictWeakOrder-by_number (λ (k : ℕ). slice_index c.args.table.now k))
    (λ x y o k. search rules))
