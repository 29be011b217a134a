-- The number of digits is the least power of 2 above the number.
use Rattle.parallel_bridge.proofs.{◌≡◌, arith, rules, cutdepth_bounds}
use Rattle.parallel_bridge.proofs.drive.depth_of.Goals as goal

pub returns-clause-enough : goal.returns-clause-enough
returns-clause-enough c =
    let same : c.get.result ≡ c.args.threads.value = search rules in
    rw same ((cutdepth_bounds c.args.threads.value (omega arith) (omega arith)).0)

pub returns-clause-needed : goal.returns-clause-needed
returns-clause-needed c =
    let same : c.get.result ≡ c.args.threads.value = search rules in
    rw same ((cutdepth_bounds c.args.threads.value (omega arith) (omega arith)).1)
