-- Told, so that a body which breaks these is refused with no further search.
use Rattle.commonware_parallel.proofs.{rules}
use Rattle.commonware_parallel.proofs.spawned.start.begin.Goals as goal

pub returns-in-Serial-clause-form : goal.returns-in-Serial-clause-form
returns-in-Serial-clause-form g c = search rules
