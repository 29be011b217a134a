-- What the map goes over is what the closure made of the batch's ranges.
use Rattle.commonware_parallel.proofs.{inl, subst, unless_faulty}
use Rattle.parallel_bridge.specs.Outcomes.{listed}
use Rattle.parallel_bridge.specs.Tries.{TryMapOf}
use Rattle.commonware_parallel.proofs.batches.Batches.try_map_collect_vec.Goals as goal

pub try_map_collect_vec-requires-clause-accepts : goal.try_map_collect_vec-requires-clause-accepts
try_map_collect_vec-requires-clause-accepts g c κs within x has =
    c.requires.accepts c.in_ok-items.items
    (c.as_slice.result, c.in_ok-items.ensures, c.as_slice.ensures.value) x has

pub try_map_collect_vec-requires-else-is_whole-clause-accepts : goal.try_map_collect_vec-requires-else-is_whole-clause-accepts
try_map_collect_vec-requires-else-is_whole-clause-accepts g c κs within x has =
    c.requires.accepts c.in_ok-items.items
    (c.as_slice.result, c.in_ok-items.ensures, c.as_slice.ensures.value) x has

pub returns-then-is_whole : goal.returns-then-is_whole
returns-then-is_whole g c =
    unless_faulty c.try_map_collect_vec.result _ _ _
    (λ out h. (
      c.in_ok-items.items,
      (c.as_slice.result, c.in_ok-items.ensures, c.as_slice.ensures.value),
      subst (λ xs. TryMapOf (goal.F-post g c.args.map_op) xs (listed out)) h.1 h.2,
    )) (λ fault is. inl (
      is,
      c.in_ok-items.items,
      (c.as_slice.result, c.in_ok-items.ensures, c.as_slice.ensures.value),
    ))
    c.try_map_collect_vec.ensures.answers

pub returns : goal.returns
returns g c =
    unless_faulty c.try_map_collect_vec-else-is_whole.result _ _ _
    (λ out h. (
      c.in_ok-items.items,
      (c.as_slice.result, c.in_ok-items.ensures, c.as_slice.ensures.value),
      subst (λ xs. TryMapOf (goal.F-post g c.args.map_op) xs (listed out)) h.1 h.2,
    )) (λ fault is. inl (
      is,
      c.in_ok-items.items,
      (c.as_slice.result, c.in_ok-items.ensures, c.as_slice.ensures.value),
    ))
    c.try_map_collect_vec-else-is_whole.ensures.answers
