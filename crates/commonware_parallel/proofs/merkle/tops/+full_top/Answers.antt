-- One item's leaf is its own top, and two halves' tops are combined.
use Rattle.commonware_parallel.proofs.{◌≡◌, ◌/◌, arith, refl, subst, sym, ComesDown, HasGiven, HasItems, ◌∷◌, [], half_below, leaves_some, two_down}
use Rattle.commonware_parallel.proofs.merkle.tops.+full_top.Goals as goal

pub top-requires-then-size-lt2-clause-items : goal.top-requires-then-size-lt2-clause-items
top-requires-then-size-lt2-clause-items g t c =
    let C = g.C.Cursor in let some = leaves_some c.requires.size.0 in
    let one : c.args.size ≡ 1 = omega (arith, some, c.requires.size.1) in
    subst (λ n. HasItems C.ready C.gives C.may (goal.L-pre g c.args.leaf.now) n
    c.args.items.now) one c.requires.items

pub returns-then-size-lt2 : goal.returns-then-size-lt2
returns-then-size-lt2 g t c =
    let C = g.C.Cursor in let some = leaves_some c.requires.size.0 in
    let one : c.args.size ≡ 1 = omega (arith, some, c.requires.size.1) in record {
      top = subst (λ n. ComesDown (λ xs. HasGiven C.ready C.gives C.may C.leaves c.args.items.now
          xs c.top-then-size-lt2.new.items) (goal.L-post g c.args.leaf.now)
          (goal.F-post g c.args.combine.now) n n (c.top-then-size-lt2.result ∷ [])) (sym one)
          c.top-then-size-lt2.ensures.top;
    }

pub returns : goal.returns
returns g t c =
    let C = g.C.Cursor in let half = c.args.size / 2 in record {
      top = two_down C.ready C.gives C.may C.leaves (goal.L-post g c.args.leaf.now)
          (goal.F-post g c.args.combine.now) c.args.items.now c.full_top-left.new.items
          c.full_top-right.new.items c.args.size half half c.args.size c.full_top-left.result
          c.full_top-right.result c.combine.result (omega arith) refl
          (half_below c.args.size half c.requires.size.0 (omega arith) refl c.requires.size.1).3
          c.full_top-left.ensures.top c.full_top-right.ensures.top c.combine.ensures;
    }
