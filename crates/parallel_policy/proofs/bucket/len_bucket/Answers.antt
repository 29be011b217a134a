-- How long a number is by the zeros before it.
use Rattle.std.proofs.Common.{rules, ℕ, ◌-◌, ◌^◌, ◌<◌, ◌≤◌, ◌≡◌, subst, arith}
use Rattle.std.proofs.lemmas.Nat.{leading_length, leading_top}
use Rattle.std.specs.Int.Count.{count_leading_zeros}
use Rattle.parallel_policy.proofs.bucket.len_bucket.Goals as goal

pub returns-clause-below : goal.returns-clause-below
returns-clause-below c =
    let fits : c.args.len < 2 ^ 64 = omega arith in
    let (m, sums, below, _) = leading_length 64 c.args.len fits in
    let same : m ≡ 64 - count_leading_zeros 64 c.args.len = omega arith in
    let P : ℕ → Type 0 = λ k. c.args.len < 2 ^ k in
    subst P same below

pub returns-clause-least : goal.returns-clause-least
returns-clause-least c = λ positive.
    let fits : c.args.len < 2 ^ 64 = omega arith in
    let (j, sums, least, _) = leading_top 64 c.args.len positive fits in
    let same : j ≡ 64 - count_leading_zeros 64 c.args.len - 1 = omega arith in
    let P : ℕ → Type 0 = λ k. 2 ^ k ≤ c.args.len in
    subst P same least

pub returns-clause-digits : goal.returns-clause-digits
returns-clause-digits c = search rules
