-- One item more is put together with those before it.
use Rattle.std.proofs.Common.{arith, sym}
use Rattle.parallel_calls.proofs.Scans.{reduces_first, reduces_more}
use Rattle.parallel_calls.proofs.passes.total_of.Goals as goal

pub loop-k-init : goal.loop-k-init
loop-k-init g c = reduces_first (goal.G-post g c.args.op.now) c.args.items.now
    c.index-items-0.result c.requires.some (sym c.index-items-0.is)

pub loop-k-preserved : goal.loop-k-preserved
loop-k-preserved g c = reduces_more (goal.G-post g c.args.op.now) c.args.items.now c.loop-k.k
    c.loop-k.total c.index-items-k.result c.op-total.result (omega arith)
    (sym c.index-items-k.is) c.loop-k.invariant c.op-total.ensures
