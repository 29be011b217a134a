-- The totals of the chunks are scanned.
use Rattle.std.proofs.Common.{◌≡◌, drop, length, rules}
use Rattle.std.proofs.lemmas.List.{take_at}
use Rattle.std.specs.Int.NonZero.{non_zero_usize_get}
use Rattle.parallel_calls.proofs.Scans.{fronts_scanned}
use Rattle.parallel_calls.proofs.passes.fronts_of.Goals as goal

pub returns-clause-fronts : goal.returns-clause-fronts
returns-clause-fronts g c =
    let fs = c.exclusive_in_turn.new.items in
    let long : length fs ≡ c.in_ok-fronts.fronts.len = search rules in
    let rest = drop (length fs) c.in_ok-fronts.fronts.items in
    rw (take_at fs rest c.in_ok-fronts.fronts.len long) (fronts_scanned (goal.G-post g c.args.op.now)
    (non_zero_usize_get c.args.size) c.args.start c.in_ok-fronts.fronts.items c.args.items.now fs _
    c.in_ok-fronts.ensures.totals (rw c.deref_mut.ensures.value at c.exclusive_in_turn.ensures))
