-- Each chunk is scanned from what stands before it.
use Rattle.std.proofs.Common.{rules}
use Rattle.std.specs.Int.NonZero.{non_zero_usize_get}
use Rattle.parallel_calls.proofs.Scans.{chunks_scanned}
use Rattle.parallel_calls.proofs.passes.scan_from.Goals as goal

pub returns-clause-scanned : goal.returns-clause-scanned
returns-clause-scanned g c = chunks_scanned (goal.G-post g c.args.op.now)
    (non_zero_usize_get c.div_ceil-size.result) c.args.form c.args.start c.args.items.now
    c.scan_chunks.new.items c.in_ok-fronts.fronts.items (search rules) (search rules)
    c.in_ok-fronts.ensures.fronts (λ n d l. rw c.deref.ensures.value at c.scan_chunks.ensures n d l)
