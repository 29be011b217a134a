-- The items that were gathered are the source's.
use Rattle.std.proofs.Common.{◌≡◌, drop, length, rules}
use Rattle.parallel_calls.specs.Scans.{inclusive_scan_of}
use Rattle.parallel_calls.proofs.PlainScans.{gathered_scan}
use Rattle.parallel_calls.proofs.on.On.inclusive_scan.Goals as goal

pub returns-clause-plain : goal.returns-clause-plain
returns-clause-plain g c h laws =
    let gathered = c.in_ok-items.ensures.plain (λ x. x) (λ x y k. search rules) in
    let items = c.in_ok-items.items.items in
    let scanned = c.inclusive_scan_in_place.new.items in
    let long : length scanned ≡ c.in_ok-items.items.len = search rules in (
      gathered.0,
      gathered.1,
      gathered_scan (inclusive_scan_of h) gathered.0 items scanned
          (drop (length scanned) items) c.in_ok-items.items.len gathered.2 long
          (rw c.deref_mut.ensures.value at
          c.in_ok-inclusive_scan_in_place.ensures.plain h laws),
    )
