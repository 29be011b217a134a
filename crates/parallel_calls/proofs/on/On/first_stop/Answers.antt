-- The first failing item's error is what stopped the map.
use Rattle.parallel_calls.proofs.FirstItems.{stop_of_map}
use Rattle.parallel_calls.proofs.on.On.first_stop.Goals as goal

pub returns-clause-stops : goal.returns-clause-stops
returns-clause-stops g c = stop_of_map _ (λ x out. goal.F-post g c.args.step x out)
    c.try_map-told.result c.stopped.result c.try_map-told.ensures.answers c.stopped.ensures.stop
