-- No range is shorter than the even share, as there are `count` of them.
use Rattle.commonware_parallel.proofs.{◌≡◌, ℕ, ◌/◌, ◌<◌, ◌≤◌, List, length, All, arith, subst, Range, BalancedCut-at_least}
use Rattle.parallel_shares.specs.Cut.{BalancedCut, range_length}
use Rattle.commonware_parallel.proofs.batches.Batches.balanced.Goals as goal

least : (len count : ℕ) (rs : List (Range ℕ)) → BalancedCut len rs → length rs ≡ count → 0 < count
    → All (λ range. len / count ≤ range_length range) rs
least len count rs cut counted some =
    let P : ℕ → Type 0 = λ n. All (λ range. len / n ≤ range_length range) rs in
    subst P counted (BalancedCut-at_least len rs cut (omega arith))

pub returns-clause-least : goal.returns-clause-least
returns-clause-least g c =
    let e = c.in_ok-ranges.ensures in
    least _ _ _ e.balanced (omega (arith, c.in_ok-ranges.ranges.ok.0, e.count))
    (omega (arith, c.args.count.ok))
