-- Each result is the table's entry at the index, from the back.
use Rattle.std.proofs.Common.{rules, ◌-◌, ℕ, length}
use Rattle.std.specs.List.{slice_index}
use Rattle.parallel_bridge.proofs.OverLists.{map_of_list}
use Rattle.uses.proofs.maps.last_entries.Goals as goal

pub returns-clause-entries : goal.returns-clause-entries
returns-clause-entries g c = map_of_list _ _
    (λ (i : ℕ). slice_index c.args.table.now (length c.args.table.now - 1 - i))
    c.map_collect_vec.result c.map_collect_vec.ensures.answers (λ x y within k. search rules)
