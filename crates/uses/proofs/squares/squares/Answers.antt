-- Each result is the square of its item.
use Rattle.std.proofs.Common.{rules, ◌*◌, ℕ}
use Rattle.parallel_bridge.proofs.OverLists.{map_of_list}
use Rattle.uses.proofs.squares.squares.Goals as goal

pub returns-clause-squares : goal.returns-clause-squares
returns-clause-squares g c = map_of_list _ _
    (λ (x : ℕ). x * x) c.map.result c.map.ensures.answers
    (λ x y within k. search rules)
