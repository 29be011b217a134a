-- The items that were gathered are the source's.
use Rattle.std.proofs.Common.{◌≡◌, drop, length, rules}
use Rattle.parallel_calls.specs.Scans.{exclusive_scan_of}
use Rattle.parallel_calls.proofs.PlainScans.{gathered_scan}
use Rattle.parallel_calls.proofs.on.On.exclusive_scan.Goals as goal

pub returns-clause-plain : goal.returns-clause-plain
returns-clause-plain g c h laws =
    let gathered = c.in_ok-items.ensures.plain (λ x. x) (λ x y k. search rules) in
    let items = c.in_ok-items.items.items in
    let scanned = c.exclusive_scan_in_place.new.items in
    let long : length scanned ≡ c.in_ok-items.items.len = search rules in (
      gathered.0,
      gathered.1,
      gathered_scan (exclusive_scan_of h c.args.start) gathered.0 items scanned
          (drop (length scanned) items) c.in_ok-items.items.len gathered.2 long
          (rw c.deref_mut.ensures.value at
          c.in_ok-exclusive_scan_in_place.ensures.plain h laws),
    )
