-- The first item is the start of the others' scan.
use Rattle.std.proofs.lemmas.Result.{on_ok_weaker}
use Rattle.parallel_calls.proofs.Scans.{scanned_behind_first}
use Rattle.parallel_calls.proofs.passes.scan_items.Goals as goal

pub returns-clause-scanned : goal.returns-clause-scanned
returns-clause-scanned g c = on_ok_weaker c.scan_from.result
    (λ h. scanned_behind_first (goal.G-post g c.args.op.now) c.index-items-0.result
    c.args.items.now c.split_at_mut-rest.result.0.now c.split_at_mut-rest.result.1.now
    c.scan_from.new.items c.split_at_mut-rest.ensures.value c.split_at_mut-rest.ensures.front_len
    c.index-items-0.is h) c.scan_from.ensures.scanned
