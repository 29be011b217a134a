-- The first places, and the rest.
use Rattle.parallel_bridge.proofs.{◌≡◌, ◌-◌, ◌≤◌, take, drop, sym, ap, subst, ◌∙◌, arith, ◌⊎◌, inl, inr, param, shifted, values, IsRow, part, in_row, front_row, back_rows, moved}
use Rattle.parallel_bridge.proofs.window.part.Window.split.Goals as goal
use Rattle.parallel_bridge.proofs.window.part.Window.split.Given.{Over}
use Rattle.parallel_bridge.proofs.window.part.Window.split.Goals.{After-split-front, then-len-index, else-len-index}

-- no item was taken from the front, and the index is within the window
nothing_before : (g : Over) (c : After-split-front g) → c.self.inside.before ≡ 0
nothing_before g c = ap (λ v. v.before) c.self.view_is ∙ c.requires.0

within : (g : Over) (c : After-split-front g) → c.args.index ≤ c.self.inside.room
within g c = subst (λ v. c.args.index ≤ v.room) (sym c.self.view_is) c.requires.1

-- that many of the items stand in front of the index: all of them, or as many as there are places
in_front : (g : Over) (c : After-split-front g) → (c.if-len-index.filled ≤ c.args.index)
    × (c.if-len-index.filled ≤ c.self.inside.len)
    × ((c.if-len-index.filled ≡ c.self.inside.len) ⊎ (c.if-len-index.filled ≡ c.args.index))
in_front g c = elim c.if-len-index.branch [
  | then-len-index t ↦ let lt =
      t.if-len-index.true in let same = t.filled-is in (omega arith, omega arith, inl same)
  | else-len-index t ↦ let ge =
      t.if-len-index.false in let same = t.filled-is in (omega arith, omega arith, inr same)
]

pub split-front-requires : goal.split-front-requires
split-front-requires g c =
    let inv = c.self.invariant in
    let w = c.self.inside in (
      sym inv.0,
      in_row _ inv c.args.index
          (ap (λ v. v.before) c.self.view_is ∙ c.requires.0)
          (subst (λ v. c.args.index ≤ v.room) (sym c.self.view_is) c.requires.1),
    )

pub invariant_of-left : goal.invariant_of-left
invariant_of-left g c =
    let s = (goal.at.invariant_of-left g c).After-split-front in let inv = c.self.invariant in
    let w = c.self.inside in let m = c.if-len-index.filled in let i = c.args.index in
    let e = c.split-front.ensures in
    moved 0 e.0 e.1 (front_row _ inv i
    (nothing_before g s) (within g s) m (in_front g s)).0

pub invariant_of-right : goal.invariant_of-right
invariant_of-right g c =
    let s = (goal.at.invariant_of-right g c).After-split-front in let inv = c.self.invariant in
    let w = c.self.inside in let m = c.if-len-index.filled in let i = c.args.index in
    let e = c.split-front.ensures in
    let p = c.split-front.result.2.at in let q = c.split-front.result.1.ptr in
    subst (λ cs. IsRow p q cs (w.room - i) 0 (w.len - m)) (sym e.4)
    (back_rows _ inv i
    (nothing_before g s) (within g s) m p q e.3 (in_front g s)).0

pub returns-clause-left : goal.returns-clause-left
returns-clause-left g c =
    let s = (goal.at.returns-clause-left g c).After-split-front in let inv = c.self.invariant in
    let w = c.self.inside in let m = c.if-len-index.filled in let i = c.args.index in
    let front = front_row _ inv i
    (nothing_before g s) (within g s) m (in_front g s) in
    ap (part w.base.ptr i 0) (ap values c.split-front.ensures.1 ∙ front.1)
    ∙ ap (λ v. part v.start i 0 (take i v.items)) c.self.view_is

pub returns-clause-right : goal.returns-clause-right
returns-clause-right g c =
    let s = (goal.at.returns-clause-right g c).After-split-front in let inv = c.self.invariant in
    let w = c.self.inside in let m = c.if-len-index.filled in let i = c.args.index in
    let e = c.split-front.ensures in
    let p = c.split-front.result.2.at in let q = c.split-front.result.1.ptr in
    let back = back_rows _ inv i
    (nothing_before g s) (within g s) m p q e.3 (in_front g s) in
    (λ j. part (e.2 j) (w.room - i) 0 ((ap values e.4 ∙ back.1) j))
    ∙ (λ j. part (shifted (param 0 g.row.T) (inv.0 j) i) (w.room - i) 0
    (drop i (values w.cells.slots)))
    ∙ ap (λ v. part (shifted (param 0 g.row.T) v.start i) (v.room - i) 0 (drop i v.items))
    c.self.view_is
