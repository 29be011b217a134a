-- The outcomes of the halves go along the shape, of two errors the left one stands, and their
-- watches are put together.
use Rattle.parallel_bridge.proofs.{◌≡◌, ◌-◌, ◌/◌, Driven, arith, given_along, inl, refl, subst, sym, driven_node, halting, unstopped, Shape}
use Rattle.parallel_bridge.proofs.Feeds.{halting_weaker, unstopped_weaker}
use Rattle.parallel_bridge.specs.Endings.{EndTogether, Ending, ending_of, well}
use Rattle.parallel_bridge.proofs.bridge.HandingTask.split.Goals as goal

pub returns-clause-meet : goal.returns-clause-meet
returns-clause-meet g c depth a b left right =
    let S = g.S.Segment in let C = g.C.Consumer in let parts = c.in-Ok-split_at.ensures in
    let l = c.in-Ok.consumers.0 in let r = c.in-Ok.consumers.1 in
    let counted = c.len-len.ensures.counted in let watches = c.halve-left_watch.result in
    let back : S.count c.in-Ok-split_at.halves.1 ≡ c.len-len.result - c.len-len.result / 2 =
    omega (arith, parts.counts.1, counted) in
    let first = subst (λ n. g.G.Watch.ends watches.0 n a.2 (ending_of a.0)) parts.counts.0 left.2 in
    let second = subst (λ n. g.G.Watch.ends watches.1 n b.2 (ending_of b.0)) back right.2 in (
      λ p q is_p is_q.
          let one = subst (Driven S.gives c.in-Ok-split_at.halves.0 (halting (C.leaf_gives l))
          (λ a. unstopped (C.node_gives l a)) depth) is_p left.0 in
          let other = subst (Driven S.gives c.in-Ok-split_at.halves.1 (halting (C.leaf_gives r))
          (λ a. unstopped (C.node_gives r a)) depth) is_q right.0 in
          c.in-Ok.ensures.reducer p q
          (given_along (C.leaf_gives l) (C.node_gives l) (Shape depth one.0) p one.2)
          (given_along (C.leaf_gives r) (C.node_gives r) (Shape depth other.0) q other.2),
      (c.args.self.parts, parts.rests a.1 b.1 left.1 right.1),
      c.halve-left_watch.ensures.meet (ending_of a.0) (ending_of b.0) a.2 b.2 first second,
      λ both joins is_left is_right. (
        c.args.self.watch,
        c.len-len.result,
        c.halve-left_watch.ensures.joined (ending_of a.0) (ending_of b.0) well a.2 b.2 both first
            second joins (subst (λ (e : Ending × Ending). EndTogether e.0 e.1 well)
            (λ i. (sym is_left i, sym is_right i)) (inl refl)),
      ),
    )

pub returns-clause-node : goal.returns-clause-node
returns-clause-node g c depth a b all above left right together =
    let S = g.S.Segment in let C = g.C.Consumer in let self = c.args.self in
    let parts = c.in-Ok-split_at.ensures in let halves = c.in-Ok.ensures in
    let l = c.in-Ok.consumers.0 in let r = c.in-Ok.consumers.1 in
    let reduce = g.C.Reducer.Reducer.reduce_gives c.in-Ok.consumers.2 in
    let joins = together.2 in let half = c.len-len.result / 2 in let counted = c.len-len.ensures.counted in
    let watches = c.halve-left_watch.result in
    let back : S.count c.in-Ok-split_at.halves.1 ≡ c.len-len.result - half =
    omega (arith, parts.counts.1, counted) in (
      driven_node S.gives self.parts c.in-Ok-split_at.halves.0 c.in-Ok-split_at.halves.1
          (halting (C.leaf_gives self.consumer)) (halting (C.leaf_gives l))
          (halting (C.leaf_gives r)) (λ p. unstopped (C.node_gives self.consumer p))
          (λ p. unstopped (C.node_gives l p)) (λ p. unstopped (C.node_gives r p))
          (λ p. unstopped (reduce p)) half c.len-len.result depth above
          (omega (arith, c.requires.long, counted)) refl
          c.len-len.ensures.each parts.joined parts.front parts.some
          (λ xs. halting_weaker (C.leaf_gives l) (C.leaf_gives self.consumer) xs xs
          (halves.left_leaf xs))
          (λ xs. halting_weaker (C.leaf_gives r) (C.leaf_gives self.consumer) xs xs
          (halves.right_leaf xs))
          (λ p q. unstopped_weaker (C.node_gives l p) (C.node_gives self.consumer p) q
          (halves.left_node p q))
          (λ p q. unstopped_weaker (C.node_gives r p) (C.node_gives self.consumer p) q
          (halves.right_node p q))
          (λ p q. unstopped_weaker (reduce p) (C.node_gives self.consumer p) q (halves.node p q))
          a.0 b.0 all.0 left.0 right.0 together.0,
      together.1 self.parts (parts.rests a.1 b.1 left.1 right.1),
      subst (λ n. g.G.Watch.ends self.watch n all.2 (ending_of all.0)) counted
          (joins.4 self.watch c.len-len.result
          (c.halve-left_watch.ensures.joined (ending_of a.0) (ending_of b.0) joins.1 a.2 b.2 joins.0
          (subst (λ n. g.G.Watch.ends watches.0 n a.2 (ending_of a.0)) parts.counts.0 left.2)
          (subst (λ n. g.G.Watch.ends watches.1 n b.2 (ending_of b.0)) back right.2) joins.2
          joins.3)),
    )
