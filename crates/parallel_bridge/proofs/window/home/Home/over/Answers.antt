-- The block is cut after its first places.
use Rattle.parallel_bridge.proofs.{moved, values, IsRow, part, ◌≡◌, ◌≤◌, ◌<◌, ◌-◌, ◌^◌, length, take, drop, replicate, None, refl, sym, ap, subst, ◌∙◌, opened_rows}
use Rattle.parallel_bridge.proofs.window.home.Home.over.Goals as goal
use Rattle.parallel_bridge.proofs.window.home.Home.over.Given.{Over}
use Rattle.parallel_bridge.proofs.window.home.Home.over.Goals.{After-split-cells}

-- the front of the block is the slots of the items, and the rest is empty
cut_row : (g : Over) (c : After-split-cells g)
    → (IsRow c.open-all.result.1.at c.open-all.result.0.ptr
    (take c.args.room c.open-all.result.1.slots) c.args.room 0 c.len-len.result
    × (values (take c.args.room c.open-all.result.1.slots) ≡ c.args.vec.items))
    × (drop c.args.room c.open-all.result.1.slots ≡ replicate (c.args.vec.cap - c.args.room) None)
cut_row g c =
    let v = c.args.vec in let row = c.open-all.ensures.row in let n = c.len-len.result in
    let counted : n ≡ length v.items = c.len-len.ensures ∙ v.ok.0 in
    opened_rows v.cap c.args.room n v.items (row.1 ∙ sym row.0) row.2 counted
    (subst (λ k. k ≤ c.args.room) (sym counted) c.requires.fits.0) c.requires.fits.1

pub invariant_of-window : goal.invariant_of-window
invariant_of-window g c = moved 0 c.split-cells.ensures.0 c.split-cells.ensures.1
    (cut_row g (goal.at.invariant_of-window g c).After-split-cells).0.0

pub invariant_of-home : goal.invariant_of-home
invariant_of-home g c =
    let e = c.split-cells.ensures in
    let cut = cut_row g (goal.at.invariant_of-home g c).After-split-cells in
    let deed = c.open-all.ensures.deed in let left = c.open-all.ensures.left in
    let cap = c.capacity-capacity.ensures in (
      (e.3, e.4 ∙ cut.1 ∙ ap (λ k. replicate (k - c.args.room) None) (sym cap)),
      deed.0 ∙ sym c.open-all.ensures.row.0,
      deed.1 ∙ sym cap,
      deed.2 ∙ sym left.2,
      left.1,
      subst (λ k. k < 2 ^ 63) (sym cap) c.args.vec.small,
    )

pub returns-clause-window : goal.returns-clause-window
returns-clause-window g c =
    let e = c.split-cells.ensures in
    let cut = cut_row g (goal.at.returns-clause-window g c).After-split-cells in
    (ap (part c.open-all.result.0.ptr c.args.room 0) (ap values e.1 ∙ cut.0.1), refl)
