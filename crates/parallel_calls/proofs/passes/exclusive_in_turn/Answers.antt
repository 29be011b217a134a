-- One item more is scanned.
use Rattle.std.proofs.Common.{arith}
use Rattle.parallel_calls.proofs.Scans.{scanned_more, scanned_none, so_far_more}
use Rattle.parallel_calls.specs.declared.passes.Form.TheVariants.{Exclusive}
use Rattle.parallel_calls.proofs.passes.exclusive_in_turn.Goals as goal

pub loop-k-init : goal.loop-k-init
loop-k-init g c =
    scanned_none (goal.G-post g c.args.op.now) Exclusive c.args.start c.args.items.now

pub loop-k-preserved : goal.loop-k-preserved
loop-k-preserved g c =
    let op = goal.G-post g c.args.op.now in
    let more = so_far_more op Exclusive c.args.start c.loop-k.k c.args.items.now c.loop-k.items
    c.loop-k.so_far c.index-items-k.result c.op-next.result (omega arith) c.index-items-k.is
    c.op-next.ensures c.loop-k.invariant in
    scanned_more op Exclusive c.args.start c.loop-k.k c.args.items.now c.loop-k.items c.loop-k.so_far
    c.op-next.result c.loop-k.so_far (omega arith) c.loop-k.invariant more c.loop-k.invariant.1
