-- The values are the items that the test keeps.
use Rattle.std.proofs.Common.{rules}
use Rattle.std.specs.Fn.{FnReturnsAt}
use Rattle.std.proofs.lemmas.Result.{IfOk-weaker}
use Rattle.parallel_calls.specs.Filters.{KeptBy}
use Rattle.parallel_calls.proofs.FilteredItems.{plain_filter, values_weaker}
use Rattle.parallel_calls.proofs.on.On.filter.Goals as goal

pub returns-clause-kept : goal.returns-clause-kept
returns-clause-kept g c = IfOk-weaker c.filter_map.result _ _ (λ r w. (
  w.0,
  w.1,
  values_weaker _ (KeptBy (λ x b. FnReturnsAt g.F.Fn c.args.test x b))
      (λ x o k. search rules) w.0 r.items w.2,
)) c.filter_map.ensures.values

pub returns-clause-plain : goal.returns-clause-plain
returns-clause-plain g c passes goes = IfOk-weaker c.filter_map.result _ _
    (λ r w. (w.0, w.1, plain_filter (λ x b. FnReturnsAt g.F.Fn c.args.test x b) passes goes w.0 r.items w.2))
    (returns-clause-kept g c)
