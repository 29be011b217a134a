-- Serially there is one state; in parallel they change as the strategy's thread number says.
use Rattle.commonware_parallel.proofs.{rules, refl, length, subst, stateful_from_segment, MapStep, MappedInitAs, along_source, over_source}
use Rattle.parallel_bridge.proofs.Paths.{mapped_init_by}
use Rattle.parallel_bridge.specs.Shapes.{Shape, cutdepth}
use Rattle.parallel_bridge.specs.States.{StatesAlong}
use Rattle.parallel_bridge.specs.declared.path.Path.TheVariants.{Serial, Parallel}
use Rattle.commonware_parallel.specs.ListCalls.{call_over}
use Rattle.commonware_parallel.proofs.list.map_init_source.Goals as goal
use Rattle.commonware_parallel.proofs.list.map_init_source.Goals.{in-Serial, in-Parallel}

pub returns-then-is_serial-clause-stateful : goal.returns-then-is_serial-clause-stateful
returns-then-is_serial-clause-stateful g c =
    over_source c.map_init_iter.result c.map_init_iter.ensures.one_state c.into_items.ensures.gives
    (λ xs ys h. stateful_from_segment _ _ xs ys.items h)

pub returns-then-is_serial-clause-along : goal.returns-then-is_serial-clause-along
returns-then-is_serial-clause-along g c =
    let site = g.P.Place.site_of c.args.site in
    over_source c.map_init_iter.result c.map_init_iter.ensures.one_state c.into_items.ensures.gives
    (λ xs ys h. (
      Serial,
      c.is_serial.ensures.first (search rules) site (call_over c.args.multiplier (length xs)) refl,
      (stateful_from_segment _ _ xs ys.items h, h),
    ))

pub returns-clause-along : goal.returns-clause-along
returns-clause-along g c =
    let takes = g.S.Chooser.takes c.args.strategy.now (g.P.Place.site_of c.args.site) in
    let path = c.in_ok-path.path in let chosen = c.in_ok-path.ensures.takes in
    let counted = c.call_of-call.ensures.counted in let gives = c.in_ok-parts.ensures.gives in
    let init = goal.N-post g c.args.init.now in
    let step = MapStep (goal.F-post g c.args.map_op.now) in
    let depth = cutdepth (g.S.Chooser.threads c.args.strategy.now) in
    rw c.end_as.ensures (elim c.match-path.branch [
      | in-Serial w ↦ rw w.results-is (along_source (call_over c.args.multiplier) _ takes path chosen
          (λ xs h. let came = w.into_items-in-Serial.ensures.gives xs h in
          (counted xs came, gives xs came))
          (λ p xs ys. MappedInitAs init step depth p xs ys.items) w.map_init_iter-results.result
          (λ xs ys h. mapped_init_by path Serial w.in-Serial.is depth init step xs ys.items h)
          w.map_init_iter-results.ensures.one_state)
      | in-Parallel w ↦ rw w.results-is (along_source (call_over c.args.multiplier) _ takes path chosen
          (λ xs h. (counted xs h, gives xs h))
          (λ p xs ys. MappedInitAs init step depth p xs ys.items) w.map_init_parallel-results.result
          (λ xs ys h. mapped_init_by path Parallel w.in-Parallel.is depth init step xs ys.items
          (subst (λ n. StatesAlong init step (Shape (cutdepth n) xs) ys.items)
          c.thread_number-threads.ensures.number h)) w.map_init_parallel-results.ensures.along)
    ])

pub returns-clause-stateful : goal.returns-clause-stateful
returns-clause-stateful g c =
    over_source c.end_as.result (returns-clause-along g c) (λ xs h. h) (λ xs ys h. h.2.0)
