-- The items with one more, in the place after them.
use Rattle.parallel_bridge.proofs.{values, part, ◌++◌, ◌∷◌, [], sym, ap, ◌∙◌, put_row, moved}
use Rattle.parallel_bridge.proofs.window.part.Window.put.Goals as goal

pub write-requires : goal.write-requires
write-requires g c =
    let put = put_row _ c.self.invariant c.args.item c.self.view_is c.requires in
    (sym c.self.invariant.0, put.0, put.1)

pub invariant_of-self : goal.invariant_of-self
invariant_of-self g c =
    let put = put_row _ c.self.invariant c.args.item c.self.view_is c.requires in
    moved c.self.inside.before c.write.ensures.0 c.write.ensures.1 put.2

pub returns : goal.returns
returns g c =
    let w = c.self.inside in
    let put = put_row _ c.self.invariant c.args.item c.self.view_is c.requires in
    ap (part w.base.ptr w.room w.before) (ap values c.write.ensures.1 ∙ put.3)
    ∙ ap (λ v. part v.start v.room v.before (v.items ++ c.args.item ∷ [])) c.self.view_is
