-- The iterator gives the one list and then the other.
use Rattle.std.proofs.Common.{rules, ◌*◌, ℕ}
use Rattle.std.proofs.lemmas.Iterator.{YieldsList-from_slice}
use Rattle.std.proofs.lemmas.Iterator.Consumers.{YieldsList-at, YieldsList-from_chain, YieldsList-from_copied}
use Rattle.parallel_bridge.proofs.OverLists.{map_of_iterator}
use Rattle.uses.proofs.maps.squares_of_both.Goals as goal

pub returns-clause-squares : goal.returns-clause-squares
returns-clause-squares g c =
    let first = YieldsList-from_copied {s = c.copied.result}
    (YieldsList-from_slice c.args.front.now (search rules)) in
    let second = YieldsList-from_copied {s = c.copied-2.result}
    (YieldsList-from_slice c.args.back.now (search rules)) in
    let road = YieldsList-from_chain {s = c.chain-numbers.result}
    (YieldsList-at (search rules) first) (YieldsList-at (search rules) second) (search rules)
    (search rules) in
    map_of_iterator _ _ (λ (x : ℕ). x * x) c.map_collect_vec.result
    c.map_collect_vec.ensures.answers road (λ x y within k. search rules)
