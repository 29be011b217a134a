-- The place at which a chunk begins says which one it is.
use Rattle.std.proofs.Common.{rules}
use Rattle.std.specs.Int.NonZero.{non_zero_usize_get}
use Rattle.parallel_calls.proofs.Scans.{chunk_scanned}
use Rattle.parallel_calls.proofs.passes.scan_chunks.Goals as goal

pub returns : goal.returns
returns g c n d l =
    let at = c.each_chunk.ensures n l in
    chunk_scanned (goal.G-post g c.args.op.now) (non_zero_usize_get c.args.size) c.args.form
    c.args.fronts.now c.args.items.now c.each_chunk.new.items at.argument.now at.after_call.now n
    c.get-each.result d (search rules) c.get-each.ensures.value at.argument_is at.left (at.call d)
