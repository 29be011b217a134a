-- Who has more than one thread goes in parallel.
use Rattle.std.proofs.Common.{◌≡◌, ℕ, ◌<◌, refl, arith}
use Rattle.parallel_bridge.specs.declared.path.Path.{Path}
use Rattle.parallel_bridge.specs.declared.path.Path.TheVariants.{Parallel, Serial}
use Rattle.commonware_parallel.specs.declared.call.Pick.{Pick}
use Rattle.commonware_parallel.specs.declared.call.Pick.TheVariants.{By}

pub forks : (takes : Pick → Type 0) (path : Path) (threads : ℕ) → takes (By path)
    → (path ≡ Serial → threads ≡ 1) → 1 < threads → takes (By Parallel)
forks takes Serial threads took one several = absurd (omega (arith, one refl, several))
forks takes Parallel threads took one several = took
