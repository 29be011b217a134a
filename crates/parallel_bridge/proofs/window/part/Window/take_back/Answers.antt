-- The items without the last.
use Rattle.parallel_bridge.proofs.{values, ◌++◌, ◌∷◌, [], sym, ap, ◌∙◌, back_row, moved, some_same}
use Rattle.parallel_bridge.proofs.window.part.Window.take_back.Goals as goal

pub read-item-requires : goal.read-item-requires
read-item-requires g c =
    let out = back_row _ c.self.invariant c.self.view_is c.requires in
    (sym c.self.invariant.0, (out.0, out.1.0))

pub invariant_of-self : goal.invariant_of-self
invariant_of-self g c =
    let out = back_row _ c.self.invariant c.self.view_is c.requires in
    moved c.self.inside.before c.read-item.ensures.slots.0 c.read-item.ensures.slots.1 out.1.1

pub returns-clause-items : goal.returns-clause-items
returns-clause-items g c =
    let out = back_row _ c.self.invariant c.self.view_is c.requires in
    let same = some_same (sym out.1.0 ∙ c.read-item.ensures.value) in
    ap (λ v. v.items) (sym c.self.view_is) ∙ out.1.2
    ∙ (λ i. values (sym c.read-item.ensures.slots.1 i) ++ same i ∷ [])
