-- The closure answers by the function.
use Rattle.std.proofs.Common.{rules, ◌≡◌, map}
use Rattle.std.proofs.lemmas.Result.{IfOk-weaker}
use Rattle.parallel_bridge.specs.Parts.{keys_of, values_of}
use Rattle.parallel_bridge.proofs.OverLists.{fact_of_list}
use Rattle.uses.specs.Ready.{even_of}
use Rattle.uses.proofs.ready.evens_and_odds.Goals as goal

pub returns-clause-evens : goal.returns-clause-evens
returns-clause-evens g c = IfOk-weaker c.map_partition.result _ _ (λ parts h. h.0)
    (fact_of_list c.args.numbers.now
    (λ xs parts. (parts.0.items ≡ values_of (map even_of xs))
    × (parts.1.items ≡ keys_of (map even_of xs))) c.map_partition.result
    (c.map_partition.ensures.plain even_of (λ x p k. search rules)))

pub returns-clause-odds : goal.returns-clause-odds
returns-clause-odds g c = IfOk-weaker c.map_partition.result _ _ (λ parts h. h.1)
    (fact_of_list c.args.numbers.now
    (λ xs parts. (parts.0.items ≡ values_of (map even_of xs))
    × (parts.1.items ≡ keys_of (map even_of xs))) c.map_partition.result
    (c.map_partition.ensures.plain even_of (λ x p k. search rules)))
