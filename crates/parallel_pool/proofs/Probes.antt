-- Looks at a latch, one after another.
use Rattle.parallel_pool.proofs.Common.{refl, suc, View, Probe, Called, OnlyProbes}
use Rattle.std.specs.Prelude.{⊤}

-- none
pub no_probe : (v : View) → OnlyProbes v v
no_probe v = (0, refl)

-- and one more
pub one_probe : (old mid new : View) → OnlyProbes old mid → Called Probe (λ _. ⊤) mid new
    → OnlyProbes old new
one_probe old mid new p c = (suc p.0, (mid, p.1, c))
