-- The range that is pushed is the next of the cut.
use Rattle.parallel_shares.proofs.{arith, rules, ◌≡◌, ℕ, ◌+◌, ◌<◌, ◌≤◌, refl, common_steps, Range, IsCutSoFar-more}
use Rattle.parallel_shares.proofs.balanced.cut.Goals as goal

pub loop-index-preserved : goal.loop-index-preserved
loop-index-preserved c =
    let shorter = c.div-shorter.result in
    let longer = c.rem-longer_ranges.result in
    let index = c.loop-index.index in
    let r : Range ℕ =
    record { start = c.loop-index.start; end = c.loop-index.start + shorter + c.from.result } in
    let one : index < longer → c.from.result ≡ 1 = grind (arith, common_steps) in
    let none : longer ≤ index → c.from.result ≡ 0 = grind (arith, common_steps) in
    rw c.in_ok-push.ensures.items
    (IsCutSoFar-more shorter longer index c.from.result c.loop-index.ranges.items r
    c.loop-index.invariant one none refl)

pub returns-clause-balanced : goal.returns-clause-balanced
returns-clause-balanced c = search rules
