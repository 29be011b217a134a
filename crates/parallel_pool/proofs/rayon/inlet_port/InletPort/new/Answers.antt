-- A new pass keeps the rule.
use Rattle.parallel_pool.proofs.{admits}
use Rattle.parallel_pool.proofs.rayon.inlet_port.InletPort.new.Goals as goal

pub pass-pass-requires : goal.pass-pass-requires
pass-pass-requires g c = admits
