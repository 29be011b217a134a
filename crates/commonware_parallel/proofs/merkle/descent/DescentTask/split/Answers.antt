-- Whole blocks in front, and the others after them: their tops, one after the other, are those of
-- all.
use Rattle.commonware_parallel.proofs.{◌-◌, ◌*◌, ◌/◌, ◌∙◌, arith, ap, sym, subst, drop, drop-nil, AreBlocks, blocks_after, fits_fewer, halved_room, ok_first, tops_together}
use denote.Param.{param}
use Rattle.std.specs.Vec.Ownership.{FitsInBlock}
use Rattle.parallel_bridge.specs.Fills.{IsFull}
use Rattle.commonware_parallel.proofs.merkle.descent.DescentTask.split.Goals as goal

pub returns-clause-right : goal.returns-clause-right
returns-clause-right g c =
    let S = g.S.Segment in let self = c.args.self in let front = c.room-blocks.result / 2 in
    let parts = c.in-Ok.ensures in
    let behind = blocks_after self.size (S.count self.parts) self.tops.room front
    c.requires.ready.6 (omega (arith, c.requires.long, c.room-blocks.ensures)) in
    let room = ap (λ w. w.room) c.split-front_tops.ensures.right in (
      parts.ready.1,
      λ x h. c.requires.ready.1 x (parts.may_back x h),
      c.requires.ready.2,
      c.requires.ready.3,
      (
        ap (λ w. w.before) c.split-front_tops.ensures.right,
        ap (λ w. w.items) c.split-front_tops.ensures.right ∙ ap (drop front) c.requires.ready.4.1
            ∙ drop-nil front,
      ),
      fits_fewer (param 2 g.row.T) self.tops.room c.split-front_tops.result.1.room
          (omega (arith, room)) c.requires.ready.5,
      subst (λ n. AreBlocks self.size n c.split-front_tops.result.1.room) (sym parts.counts.1)
          (subst (λ n. AreBlocks self.size (S.count self.parts - front * self.size) n)
          (sym room) behind.1),
    )

pub returns-clause-meet : goal.returns-clause-meet
returns-clause-meet g c depth a b left right =
    let self = c.args.self in let front = c.room-blocks.result / 2 in
    let tops = halved_room (param 2 g.row.T) self.tops _ _ front _ _ c.split-front_tops.ensures.left
    c.split-front_tops.ensures.right (omega (arith, c.room-blocks.ensures)) a.0 b.0 left.0 right.0 in (
      tops.0,
      subst (FitsInBlock (param 2 g.row.T)) (sym tops.2) c.requires.ready.5,
      ok_first a.1 (IsFull a.0) _ left.1,
      ok_first b.1 (IsFull b.0) _ right.1,
      (self.parts, c.in-Ok.ensures.rests a.2 b.2 left.3 right.3),
    )

pub returns-clause-node : goal.returns-clause-node
returns-clause-node g c depth a b all above left right together =
    let S = g.S.Segment in let self = c.args.self in let front = c.room-blocks.result / 2 in
    let parts = c.in-Ok.ensures in
    let tops = halved_room (param 2 g.row.T) self.tops _ _ front _ _ c.split-front_tops.ensures.left
    c.split-front_tops.ensures.right (omega (arith, c.room-blocks.ensures)) a.0 b.0 left.0 right.0 in (
      (together.0 ∙ tops.1, together.1 ∙ tops.2),
      tops_together (goal.L-post g self.leaf.now) (goal.F-post g self.combine.now)
          (S.gives c.in-Ok.halves.0) (S.gives c.in-Ok.halves.1) (S.gives self.parts) self.size front
          a.1 b.1 all.1 (IsFull a.0) (IsFull b.0) (IsFull all.0) a.0.items b.0.items all.0.items
          parts.joined parts.front left.1 right.1 together.2,
      together.3 left.2 right.2,
      together.4 self.parts (parts.rests a.2 b.2 left.3 right.3),
    )
