-- What comes are the indices, in order.
use Rattle.parallel_bridge.proofs.{ℕ, ◌≤◌, ◌<◌, ◌-◌, refl, YieldsList-from_range, came_as_it_is, each_that_comes, indices_between}
use Rattle.parallel_bridge.proofs.producer.IndicesProducer.into_items.Goals as goal

pub returns-clause-gives : goal.returns-clause-gives
returns-clause-gives c xs drains = came_as_it_is xs drains
    (YieldsList-from_range c.args.self.start c.args.self.end
    (c.args.self.end - c.args.self.start) refl refl)

pub returns-clause-may : goal.returns-clause-may
returns-clause-may c = each_that_comes (λ (x : ℕ). (c.args.self.start ≤ x) × (x < c.args.self.end))
    (YieldsList-from_range c.args.self.start c.args.self.end
    (c.args.self.end - c.args.self.start) refl refl)
    (indices_between c.args.self.start c.args.self.end)
