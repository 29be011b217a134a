-- Neighbouring slots as one window's.
use Rattle.parallel_bridge.proofs.{◌≡◌, ◌+◌, ◌++◌, length, sym, ap, subst, ◌∙◌, ◌⊎◌, inl, inr, FitsInBlock, param, shifted, values, Adjoins, IsRow, part, row_length, two_rows, moved}
use Rattle.parallel_bridge.proofs.window.part.Window.join.Goals as goal
use Rattle.parallel_bridge.proofs.window.part.Window.join.Given.{Over}
use Rattle.parallel_bridge.proofs.window.part.Window.join.Goals.{After-join}

pub join-requires : goal.join-requires
join-requires g c =
    let w = c.self.inside in let v = c.into_parts-more_room.result in let R = param 0 g.row.T in
    let is = c.into_parts-more_room.ensures in let long = row_length _ c.self.invariant in
    let more = row_length _ is.row in
    let follows : v.0.ptr ≡ shifted R w.base.ptr w.room = subst
    (λ a. a.start ≡ shifted R w.base.ptr w.room) is.view
    (subst (λ a. c.args.right.start ≡ shifted R a.start a.room)
    (sym c.self.view_is) c.requires.follows) in
    let fits : FitsInBlock R (w.room + v.1) = subst (λ a. FitsInBlock R (w.room + a.room)) is.view
    (subst (λ a. FitsInBlock R (a.room + c.args.right.room))
    (sym c.self.view_is) c.requires.fits) in (
      is.row.0 ∙ follows ∙ (λ i. shifted R (sym c.self.invariant.0 i) (sym long i)),
      subst (λ n. FitsInBlock R n) (λ i. sym long i + sym more i) fits,
    )

-- both as one
as_one : (g : Over) (c : After-join g) → IsRow c.self.inside.cells.at c.self.inside.base.ptr
    (c.self.inside.cells.slots ++ c.into_parts-more_room.result.4.slots)
    (c.self.inside.room + c.into_parts-more_room.result.1) c.self.inside.before
    (c.self.inside.len + c.into_parts-more_room.result.3)
    × (values (c.self.inside.cells.slots ++ c.into_parts-more_room.result.4.slots)
    ≡ values c.self.inside.cells.slots ++ values c.into_parts-more_room.result.4.slots)
as_one g c =
    let w = c.self.inside in let v = c.into_parts-more_room.result in
    let is = c.into_parts-more_room.ensures in
    let adjoins =
    subst (λ a. Adjoins (part w.base.ptr w.room w.before (values w.cells.slots)) a) is.view
    (subst (λ a. Adjoins a c.args.right) (sym c.self.view_is) c.requires.adjoins) in
    let beside : ((w.before + w.len ≡ w.room) × (v.2 ≡ 0)) ⊎ (v.3 ≡ 0) =
    elim adjoins [
      | inl h ↦ inl (ap (λ n. w.before + n) c.self.invariant.1 ∙ h.0, h.1)
      | inr h ↦ inr (is.row.1 ∙ ap length h)
    ] in
    two_rows _ c.self.invariant is.row beside

pub invariant_of-result : goal.invariant_of-result
invariant_of-result g c = moved c.self.inside.before c.join.ensures.0 c.join.ensures.1
    (as_one g (goal.at.invariant_of-result g c).After-join).0

pub returns : goal.returns
returns g c =
    let w = c.self.inside in let v = c.into_parts-more_room.result in
    let is = c.into_parts-more_room.ensures in
    let two = as_one g (goal.at.returns g c).After-join in
    ap (part w.base.ptr (w.room + v.1) w.before) (ap values c.join.ensures.1 ∙ two.1)
    ∙ (λ i. part (c.self.view_is i).start ((c.self.view_is i).room + (sym is.view i).room)
    (c.self.view_is i).before ((c.self.view_is i).items ++ (sym is.view i).items))
