-- What the map goes over is what the closure made of the batch's ranges.
use Rattle.commonware_parallel.proofs.{◌≡◌, inl, subst, Result, Ok, Err, IfOk-weaker, MapOf, Memory}
use Rattle.std.specs.Result.{IfErr}
use Rattle.parallel_fault.specs.Trouble.{IsMemoryOnErr}
use Rattle.parallel_fault.specs.declared.fault.Fault.{Fault}
use Rattle.commonware_parallel.proofs.batches.Batches.map_collect_vec.Goals as goal

refused : {R : Type 0} (result : Result R Fault) (Q : Fault → Type 0)
    → ((fault : Fault) → fault ≡ Memory → Q fault) → IsMemoryOnErr result → IfErr result Q
refused (Ok r) Q says h = tt
refused (Err fault) Q says h = says fault h

pub map_collect_vec-requires-clause-accepts : goal.map_collect_vec-requires-clause-accepts
map_collect_vec-requires-clause-accepts g c κs within x has =
    c.requires.accepts c.in_ok-items.items
    (c.as_slice.result, c.in_ok-items.ensures, c.as_slice.ensures.value) x has

pub map_collect_vec-requires-else-is_whole-clause-accepts : goal.map_collect_vec-requires-else-is_whole-clause-accepts
map_collect_vec-requires-else-is_whole-clause-accepts g c κs within x has =
    c.requires.accepts c.in_ok-items.items
    (c.as_slice.result, c.in_ok-items.ensures, c.as_slice.ensures.value) x has

pub returns-then-is_whole-clause-maps : goal.returns-then-is_whole-clause-maps
returns-then-is_whole-clause-maps g c =
    IfOk-weaker c.map_collect_vec.result _ _
    (λ answers h. (
      c.in_ok-items.items,
      (c.as_slice.result, c.in_ok-items.ensures, c.as_slice.ensures.value),
      subst (λ xs. MapOf (goal.F-post g c.args.map_op) xs answers.items) h.1 h.2,
    )) c.map_collect_vec.ensures.answers

pub returns-then-is_whole-clause-fault : goal.returns-then-is_whole-clause-fault
returns-then-is_whole-clause-fault g c =
    refused c.map_collect_vec.result _
    (λ fault is. inl (
      is,
      c.in_ok-items.items,
      (c.as_slice.result, c.in_ok-items.ensures, c.as_slice.ensures.value),
    )) c.map_collect_vec.ensures.fault

pub returns-clause-maps : goal.returns-clause-maps
returns-clause-maps g c =
    IfOk-weaker c.map_collect_vec-else-is_whole.result _ _
    (λ answers h. (
      c.in_ok-items.items,
      (c.as_slice.result, c.in_ok-items.ensures, c.as_slice.ensures.value),
      subst (λ xs. MapOf (goal.F-post g c.args.map_op) xs answers.items) h.1 h.2,
    )) c.map_collect_vec-else-is_whole.ensures.answers

pub returns-clause-fault : goal.returns-clause-fault
returns-clause-fault g c =
    refused c.map_collect_vec-else-is_whole.result _
    (λ fault is. inl (
      is,
      c.in_ok-items.items,
      (c.as_slice.result, c.in_ok-items.ensures, c.as_slice.ensures.value),
    )) c.map_collect_vec-else-is_whole.ensures.fault
