-- The list is the slice, and each pair tells of its item whether it passes.
use Rattle.std.proofs.Common.{rules, ◌+◌, true, false, length, sym, subst, ap, ◌∙◌}
use Rattle.std.specs.List.{All}
use Rattle.std.proofs.lemmas.Result.{IfOk-weaker}
use Rattle.parallel_bridge.specs.Parts.{values_of}
use Rattle.batch_verifier.proofs.Verdicts.{parts_of_list, values_pass, keys_fail, parts_count, values_filtered, keys_filtered}
use Rattle.batch_verifier.proofs.split.split_by_check.Goals as goal

pub returns-clause-pass : goal.returns-clause-pass
returns-clause-pass g c =
    let parts =
    parts_of_list c.args.items.now _ c.map_partition_collect_vec.result
    c.map_partition_collect_vec.ensures.answers in
    IfOk-weaker c.map_partition_collect_vec.result _ _
    (λ r w. subst (All (λ x. goal.F-post g c.args.check x true)) (sym w.2)
    (values_pass (λ x b. goal.F-post g c.args.check x b) _
    (λ x p k. search rules) c.args.items.now w.0 w.1)) parts

pub returns-clause-fail : goal.returns-clause-fail
returns-clause-fail g c =
    let parts =
    parts_of_list c.args.items.now _ c.map_partition_collect_vec.result
    c.map_partition_collect_vec.ensures.answers in
    IfOk-weaker c.map_partition_collect_vec.result _ _
    (λ r w. subst (All (λ x. goal.F-post g c.args.check x false)) (sym w.3)
    (keys_fail (λ x b. goal.F-post g c.args.check x b) _
    (λ x p k. search rules) c.args.items.now w.0 w.1)) parts

pub returns-clause-number : goal.returns-clause-number
returns-clause-number g c =
    let parts =
    parts_of_list c.args.items.now _ c.map_partition_collect_vec.result
    c.map_partition_collect_vec.ensures.answers in
    IfOk-weaker c.map_partition_collect_vec.result _ _
    (λ r w. ap (λ l. length l + length r.1.items) w.2
    ∙ ap (λ l. length (values_of w.0) + length l) w.3
    ∙ parts_count (λ x b. goal.F-post g c.args.check x b) _
    (λ x p k. search rules) c.args.items.now w.0 w.1)
    parts

pub returns-clause-ordered : goal.returns-clause-ordered
returns-clause-ordered g c =
    let parts =
    parts_of_list c.args.items.now _ c.map_partition_collect_vec.result
    c.map_partition_collect_vec.ensures.answers in
    IfOk-weaker c.map_partition_collect_vec.result _ _
    (λ r w passes goes. (
      w.2 ∙ values_filtered (λ x b. goal.F-post g c.args.check x b) _
          (λ x p k. search rules) passes goes c.args.items.now w.0 w.1,
      w.3 ∙ keys_filtered (λ x b. goal.F-post g c.args.check x b) _
          (λ x p k. search rules) passes goes c.args.items.now w.0 w.1,
    ))
    parts
