-- No item is left, and so all places are room.
use Rattle.parallel_bridge.proofs.{rules, ◌≡◌, length, sym, ap, subst, arith, IsRow, rewound_row}
use Rattle.parallel_bridge.proofs.window.part.Window.clear.Goals as goal

pub invariant_of-self : goal.invariant_of-self
invariant_of-self g c =
    let w = c.self-2.inside in let count = c.loop-item.invariant.2 in
    let over = c.loop-item-test.false in
    let same = ap (λ v. length v.items) c.self-2.view_is in let long = c.self-2.invariant.1 in
    let none : w.len ≡ 0 = omega arith in
    subst (λ n. IsRow w.cells.at w.base.ptr w.cells.slots w.room 0 n) (sym none)
    (rewound_row _ c.self-2.invariant none).0

pub loop-item-init : goal.loop-item-init
loop-item-init g c = search rules
