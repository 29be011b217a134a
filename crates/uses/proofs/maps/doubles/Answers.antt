-- The closure accepts each item of the slice, and returns its double.
use Rattle.std.proofs.Common.{rules, ◌*◌, ◌<◌, ◌^◌, ℕ}
use Rattle.std.proofs.lemmas.List.Elements.{All-contains}
use Rattle.parallel_bridge.proofs.OverLists.{map_of_list}
use Rattle.uses.proofs.maps.doubles.Goals as goal

pub map_collect_vec-requires-clause-accepts : goal.map_collect_vec-requires-clause-accepts
map_collect_vec-requires-clause-accepts g c = λ κs within x may. All-contains
    (λ (x : ℕ). x < 2 ^ 31) c.args.numbers.now x c.requires.small may

pub returns-clause-doubles : goal.returns-clause-doubles
returns-clause-doubles g c = map_of_list _ _
    (λ (x : ℕ). 2 * x) c.map_collect_vec.result c.map_collect_vec.ensures.answers
    (λ x y within k. search rules)
