-- Of two or more ranges there are no more than the minimum's times in the indices.
use Rattle.commonware_parallel.proofs.{rules, ◌≡◌, ℕ, ◌/◌, ◌≤◌, length, max, arith, non_zero_usize_get, BalancedCut-minimum_share, ranges_of}
use Rattle.commonware_parallel.proofs.batches.Batches.in_parts.Goals as goal

few : (n parts share : ℕ) → n ≡ parts → 2 ≤ n → parts ≤ max 1 share → n ≤ share
few n parts share same several fit = omega (arith, same, several, fit)

pub returns-clause-batch : goal.returns-clause-batch
returns-clause-batch g c =
    let e = c.in_ok-batches.ensures in
    let least = non_zero_usize_get c.args.minimum in
    let ranges = ranges_of c.in_ok-batches.batches in
    let counted : length ranges ≡ c.args.parts = search rules in (
      e.balanced,
      counted,
      λ several. BalancedCut-minimum_share c.args.len least ranges e.balanced
          (few (length ranges) c.args.parts (c.args.len / least) counted several c.requires.fit),
    )
