-- A shift of at most 5 gives at most 32 times the base interval.
use Rattle.std.proofs.Common.{◌^◌, ◌≤◌, arith}
use Rattle.std.proofs.Math.Pow.{pow_mono}
use Rattle.parallel_policy.proofs.run.interval.Goals as goal

pub returns-clause-most : goal.returns-clause-most
returns-clause-most c =
    let small : 2 ^ c.doublings.result ≤ 2 ^ 5 = pow_mono c.doublings.ensures.most in
    omega arith
