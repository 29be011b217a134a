-- Facts of shares and seats over plain values.
use Rattle.parallel_shares.proofs.Common.{ℕ, ◌*◌, ◌<◌, ◌≤◌, Bool, true, false, cond, arith, mul-le, Sizes, IsSound, shares_of, share_of}

below_flag : (whole : Bool) (workers index : ℕ) → index < workers
    → cond whole 0 index < cond whole 1 workers
below_flag true workers index h = omega arith
below_flag false workers index h = h

-- the share that a seat claims from exists
pub share_exists : (sizes : Sizes) (index : ℕ) → index < sizes.workers
    → share_of sizes index < shares_of sizes
share_exists sizes index h = below_flag sizes.whole sizes.workers index h

few_below : (whole : Bool) (workers claim : ℕ) → 0 < claim → workers * claim ≤ 65535
    → cond whole 1 workers ≤ 65535
few_below true workers claim some_claim fit = omega arith
few_below false workers claim some_claim fit =
    omega (arith, fit, mul-le workers 1 workers claim (omega arith) some_claim)

-- there are no more shares than a plan has units at most
pub few_shares : (sizes : Sizes) → IsSound sizes → shares_of sizes ≤ 65535
few_shares sizes sound =
    few_below sizes.whole sizes.workers sizes.claim sound.claim_counts
    (omega (arith, sound.workers_claim, sound.units_fit))
