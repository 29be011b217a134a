-- The next range is no longer than what is left of the list.
use Rattle.std.proofs.Common.{ℕ, length}
use Rattle.std.specs.declared.ops.Range.{Range}
use Rattle.uses.proofs.Parts.{next_part}
use Rattle.uses.proofs.outputs.parts_of.Goals as goal

abbrev none : Range ℕ
none = record { start = 0; end = 0 }

pub split_at_mut-part-requires : goal.split_at_mut-part-requires
split_at_mut-part-requires c =
    let next = next_part c.args.ranges.now c.loop-range.range-index
    (length c.loop-range.rest.now) none c.loop-range-test.true c.loop-range.invariant in
    next.1
