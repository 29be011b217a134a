-- Each result is the square of its index.
use Rattle.std.proofs.Common.{rules, ◌*◌, ◌%◌, ◌^◌, ℕ}
use Rattle.parallel_bridge.proofs.OverLists.{map_of_list}
use Rattle.uses.proofs.maps.first_squares.Goals as goal

pub returns-clause-squares : goal.returns-clause-squares
returns-clause-squares g c = map_of_list _ _
    (λ (x : ℕ). (x * x) % 2 ^ 64) c.map_collect_vec.result c.map_collect_vec.ensures.answers
    (λ x y within k. search rules)
