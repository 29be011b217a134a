-- For an associative operation a scan is the plain one; one thread finds no lack of memory.
use Rattle.std.proofs.Common.{◌<◌, inr, length, rules}
use Rattle.std.proofs.lemmas.Result.{IfErr-weaker, on_ok_weaker}
use Rattle.std.specs.Int.NonZero.{non_zero_usize_get}
use Rattle.commonware_parallel.specs.Calls.{body_call}
use Rattle.commonware_parallel.specs.declared.call.Pick.TheVariants.{By}
use Rattle.parallel_calls.specs.OnePlace.{RefusesOrForks}
use Rattle.parallel_calls.proofs.Forks.{forks}
use Rattle.parallel_calls.proofs.PlainScans.{plain_inclusive}
use Rattle.parallel_calls.proofs.on.On.inclusive_scan_in_place.Goals as goal

pub returns-clause-plain : goal.returns-clause-plain
returns-clause-plain g c h laws = on_ok_weaker c.scan_items-scanned.result
    (λ scan. plain_inclusive h (goal.G-post g c.args.op) laws c.args.items.now
    c.scan_items-scanned.new.items scan) c.scan_items-scanned.ensures.scanned

pub returns-clause-refused : goal.returns-clause-refused
returns-clause-refused g c =
    let strategy = c.args.self.now.strategy.now in
    let site = g.P.Place.site_of c.args.self.now.site in
    let call = body_call (length c.args.items.now) in
    let takes = g.S.Chooser.takes strategy site call in
    let took : takes (By c.in_ok-path.path) = search rules in
    let threads = non_zero_usize_get c.threads_by-threads.result in
    IfErr-weaker c.scan_items-scanned.result (λ fault. 1 < threads)
    (RefusesOrForks (g.S.Chooser.refuses strategy site call) takes)
    (λ fault several. inr
    (forks takes c.in_ok-path.path threads took c.threads_by-threads.ensures several))
    c.scan_items-scanned.ensures.several
