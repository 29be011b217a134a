-- A cut of the items at twice the index is a cut of their pairs at the index.
use Rattle.parallel_bridge.proofs.{◌++◌, ◌∙◌, ap, length, subst, Contains, pairs_of, pair_in_back, pair_in_front, pairs_cut, pairs_front}
use Rattle.parallel_bridge.proofs.pairs.PairSegmentSegmentTuple2.split_at.Goals as goal

pub returns-clause-joined : goal.returns-clause-joined
returns-clause-joined g c xs ys front back =
    let parts = c.split-front.ensures in let left = front ∙ ap (λ w. pairs_of w.items) parts.left in
    let right = back ∙ ap (λ w. pairs_of w.items) parts.right in
    (λ i. left i ++ right i) ∙ pairs_cut c.args.self.window.items c.args.index c.requires.within

pub returns-clause-front : goal.returns-clause-front
returns-clause-front g c xs front =
    ap length (front ∙ ap (λ w. pairs_of w.items) c.split-front.ensures.left)
    ∙ pairs_front c.args.self.window.items c.args.index c.requires.within

pub returns-clause-may_front : goal.returns-clause-may_front
returns-clause-may_front g c x within =
    pair_in_front c.args.self.window.items c.args.index x c.requires.within
    (subst (λ w. Contains (pairs_of w.items) x) c.split-front.ensures.left within)

pub returns-clause-may_back : goal.returns-clause-may_back
returns-clause-may_back g c x within =
    pair_in_back c.args.self.window.items c.args.index x c.requires.within
    (subst (λ w. Contains (pairs_of w.items) x) c.split-front.ensures.right within)
