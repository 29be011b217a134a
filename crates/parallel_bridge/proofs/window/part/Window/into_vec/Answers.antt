-- The slots of the items with the empty ones after them are the whole block.
use Rattle.parallel_bridge.proofs.{laid, values, IsRow, ◌≡◌, ◌≤◌, ◌-◌, ◌++◌, length, sym, ap, subst, ◌∙◌, closed_rows}
use Rattle.parallel_bridge.proofs.window.part.Window.into_vec.Goals as goal
use Rattle.parallel_bridge.proofs.window.part.Window.into_vec.Given.{Over}
use Rattle.parallel_bridge.proofs.window.part.Window.into_vec.Goals.{After-join-all}

-- the whole block is the slots of the items with the empty ones after them
as_block : (g : Over) (c : After-join-all g)
    → (length (c.into_parts-len.result.4.slots ++ c.home.inside.tail.slots)
    ≡ c.home.inside.capacity)
    × (length (values (c.into_parts-len.result.4.slots ++ c.home.inside.tail.slots))
    ≡ c.into_parts-len.result.3) × (c.into_parts-len.result.4.slots ++ c.home.inside.tail.slots
    ≡ laid 0 (values (c.into_parts-len.result.4.slots ++ c.home.inside.tail.slots))
    (c.home.inside.capacity - c.into_parts-len.result.3))
    × (values (c.into_parts-len.result.4.slots ++ c.home.inside.tail.slots)
    ≡ values c.into_parts-len.result.4.slots)
as_block g c =
    let v = c.into_parts-len.result in let is = c.into_parts-len.ensures in let h = c.home.inside in
    let wide : v.1 ≡ h.room = ap (λ a. a.room) (sym is.view) ∙ c.requires.whole.1
    ∙ ap (λ a. a.room) (sym c.home.view_is) in
    let first : v.2 ≡ 0 = ap (λ a. a.before) (sym is.view) ∙ c.requires.first in
    let row : IsRow v.4.at v.0.ptr v.4.slots h.room 0 v.3 = subst
    (λ b. IsRow v.4.at v.0.ptr v.4.slots h.room b v.3) first
    (subst (λ n. IsRow v.4.at v.0.ptr v.4.slots n v.2 v.3) wide is.row) in
    let within : h.room ≤ h.capacity =
    subst (λ a. a.room ≤ a.capacity) (sym c.home.view_is) c.requires.whole.2.2 in
    closed_rows h.capacity row c.home.invariant.0.1 within

pub close-requires-clause-cells : goal.close-requires-clause-cells
close-requires-clause-cells g c =
    let v = c.into_parts-len.result in let is = c.into_parts-len.ensures in let h = c.home.inside in
    let e = c.join-all.ensures in
    let begins : v.0.ptr ≡ h.base.ptr = ap (λ a. a.start) (sym is.view) ∙ c.requires.whole.0
    ∙ ap (λ a. a.start) (sym c.home.view_is) in
    let all = as_block g (goal.at.close-requires-clause-cells g c).After-join-all in (
      e.0 ∙ is.row.0 ∙ begins,
      ap length e.1 ∙ all.0,
      ap (λ cs. length (values cs)) e.1 ∙ all.1,
      e.1 ∙ all.2 ∙ ap (λ cs. laid 0 (values cs) (h.capacity - v.3)) (sym e.1),
    )

pub returns : goal.returns
returns g c =
    let is = c.into_parts-len.ensures in
    let all = as_block g (goal.at.returns g c).After-join-all in
    c.close.ensures.0 ∙ ap values c.join-all.ensures.1 ∙ all.3 ∙ ap (λ a. a.items) (sym is.view)
