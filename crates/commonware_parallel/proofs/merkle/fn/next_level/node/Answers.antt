-- Told, so that a body which breaks it is refused with no further search.
use Rattle.commonware_parallel.proofs.{rules}
use Rattle.commonware_parallel.proofs.merkle.fn.next_level.node.Goals as goal

pub returns : goal.returns
returns g c = search rules
