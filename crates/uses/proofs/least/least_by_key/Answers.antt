-- The keys are the numbers.
use Rattle.std.proofs.Common.{rules, ◌-◌, ℕ, length}
use Rattle.std.specs.List.{slice_index}
use Rattle.std.proofs.lemmas.Result.{IfOk-weaker}
use Rattle.uses.proofs.LeastPlaces.{least_place_by_key}
use Rattle.uses.proofs.least.least_by_key.Goals as goal

pub returns-clause-least : goal.returns-clause-least
returns-clause-least g c = IfOk-weaker c.min_by_key.result _ _ (λ found w. least_place_by_key
    c.args.table.now w.0 (length c.args.table.now - 0) found w.2 (search rules) (search rules))
    (c.min_by_key.ensures.least (λ (k : ℕ). slice_index c.args.table.now k)
    (λ x n k. search rules))
