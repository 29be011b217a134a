-- The next range begins where the ones before it end.
use Rattle.std.proofs.Common.{rules, ◌+◌, subst, sym, ℕ}
use Rattle.std.specs.declared.ops.Range.{Range}
use Rattle.uses.proofs.Counts.{CountsTo, next_range}
use Rattle.uses.proofs.batches.count_ranges.Goals as goal

abbrev none : Range ℕ
none = record { start = 0; end = 0 }

pub slice_bounds-count_in_one-end : goal.slice_bounds-count_in_one-end
slice_bounds-count_in_one-end c =
    let next =
    next_range c.args.flags.now c.args.ranges.now c.loop-range.range-index c.loop-range.count
    none c.loop-range-test.true c.loop-range.invariant in
    let ordered = next.0 in
    let within = next.1 in
    search rules

pub loop-range-preserved : goal.loop-range-preserved
loop-range-preserved c =
    let next =
    next_range c.args.flags.now c.args.ranges.now c.loop-range.range-index c.loop-range.count
    none c.loop-range-test.true c.loop-range.invariant in
    subst (λ n. CountsTo c.args.flags.now c.args.ranges.now (c.loop-range.range-index + 1)
    (c.loop-range.count + n)) (sym c.count_in_one-count.ensures.counted) next.3
