-- Each look at the latch is one more.
use Rattle.parallel_pool.proofs.{no_probe, one_probe}
use Rattle.parallel_pool.proofs.sleep.Sleep.park.Goals as goal

pub loop-init : goal.loop-init
loop-init g c = record { probes = no_probe _; seat = c.requires.seat; stays = λ h. h }

pub loop-preserved : goal.loop-preserved
loop-preserved g c = record {
  probes = one_probe _ _ _ c.loop.invariant.probes c.is_awake.ensures.probe;
  seat = c.is_awake.ensures.seat;
  stays = λ h. c.is_awake.ensures.stays (c.loop.invariant.stays h);
}

pub returns-then-is_awake-clause-probes : goal.returns-then-is_awake-clause-probes
returns-then-is_awake-clause-probes g c =
    one_probe _ _ _ c.loop.invariant.probes c.is_awake.ensures.probe
