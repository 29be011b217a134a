-- The seat was fresh, and the rest is what its run says.
use Rattle.commonware_parallel.proofs.tiles.seats.work.Goals as goal

pub returns : goal.returns
returns g c = record {
  belongs = c.run-results.ensures.seat;
  number = c.run-results.ensures.index;
  fresh = c.requires.ready.1.0;
  done = c.run-results.ensures.done;
  chain = c.run-results.ensures.chain;
}
