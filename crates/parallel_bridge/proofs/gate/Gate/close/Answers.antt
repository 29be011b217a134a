-- What the one seat knows, some seat knew.
use Rattle.parallel_bridge.proofs.gate.Gate.close.Goals as goal

pub returns-clause-at_most : goal.returns-clause-at_most
returns-clause-at_most c =
    c.gather-all.ensures.at_most c.close_joined.result c.close_joined.ensures.at_most
