-- What comes are the vector's items, in order.
use Rattle.parallel_bridge.proofs.{◌∙◌, sym}
use Rattle.parallel_bridge.proofs.source.VecSourceByVec.into_items.Goals as goal

pub returns-clause-gives : goal.returns-clause-gives
returns-clause-gives g c xs drains = c.into_items.ensures.gives xs drains ∙ c.from_vec.ensures

pub returns-clause-may : goal.returns-clause-may
returns-clause-may g c = rw (sym c.from_vec.ensures) c.into_items.ensures.may
