-- Each result is the square of the item that was borrowed.
use Rattle.std.proofs.Common.{rules, ◌*◌, ℕ}
use Rattle.parallel_bridge.proofs.OverLists.{map_of_slice}
use Rattle.uses.proofs.maps.borrowed_squares.Goals as goal

pub returns-clause-squares : goal.returns-clause-squares
returns-clause-squares g c = map_of_slice _ _
    (λ (x : ℕ). x * x) c.map_collect_vec.result c.map_collect_vec.ensures.answers
    (λ x y k. search rules)
