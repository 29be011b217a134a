-- The halves' slots follow one another, their outcomes go along the shape, of two errors the left
-- one stands, and their watches are put together.
use Rattle.parallel_bridge.proofs.{◌≡◌, ◌-◌, ◌/◌, arith, refl, rules, sym, subst, ◌∙◌, FitsInBlock, halting, Answered, OneAfterAnother, written, driven_node, halved_room}
use Rattle.parallel_bridge.proofs.Watches.{windows_together}
use Rattle.parallel_bridge.specs.Endings.{ending_of}
use Rattle.parallel_bridge.proofs.fill.FillingTask.split.Goals as goal

pub returns-clause-meet : goal.returns-clause-meet
returns-clause-meet g c depth a b left right =
    let S = g.S.Segment in let self = c.args.self in let R = g.row.W-Answer in
    let long : self.room.room ≡ S.count self.parts = search rules in
    let counted = c.len-len.ensures.counted in let parts = c.in-Ok.ensures in
    let rooms = c.split-left.ensures in let watches = c.halve-left_watch.result in
    let at = halved_room g.row.W-Answer self.room _ _ (c.len-len.result / 2) _ _ rooms.left
    rooms.right (omega (arith, long, counted)) a.0 b.0 left.0.0 right.0.0 in
    let back : S.count c.in-Ok.halves.1 ≡ c.len-len.result - c.len-len.result / 2 =
    omega (arith, parts.counts.1, counted) in
    let fits : FitsInBlock R self.room.room = search rules in (
      at.0,
      subst (FitsInBlock R) (sym at.2) fits,
      left.0.1,
      right.0.1,
      (self.parts, parts.rests a.2 b.2 left.1 right.1),
      c.halve-left_watch.ensures.meet (ending_of a.1) (ending_of b.1) a.3 b.3
          (subst (λ n. g.G.Watch.ends watches.0 n a.3 (ending_of a.1)) parts.counts.0 left.2)
          (subst (λ n. g.G.Watch.ends watches.1 n b.3 (ending_of b.1)) back right.2),
    )

pub returns-clause-node : goal.returns-clause-node
returns-clause-node g c depth a b all above left right together =
    let S = g.S.Segment in let self = c.args.self in let parts = c.in-Ok.ensures in
    let half = c.len-len.result / 2 in let watches = c.halve-left_watch.result in
    let long : self.room.room ≡ S.count self.parts = search rules in
    let counted = c.len-len.ensures.counted in let rooms = c.split-left.ensures in
    let at = halved_room g.row.W-Answer self.room _ _ (c.len-len.result / 2) _ _ rooms.left
    rooms.right (omega (arith, long, counted)) a.0 b.0 left.0.0 right.0.0 in
    let back : S.count c.in-Ok.halves.1 ≡ c.len-len.result - half =
    omega (arith, parts.counts.1, counted) in
    let leaf =
    halting (Answered (g.W.Writer.so_far self.writer.now) (g.W.Writer.fails self.writer.now)) in (
      (
        (together.0 ∙ at.1, together.1 ∙ at.2),
        together.2,
        driven_node S.gives self.parts c.in-Ok.halves.0 c.in-Ok.halves.1 leaf leaf leaf
            OneAfterAnother OneAfterAnother OneAfterAnother OneAfterAnother
            half c.len-len.result depth above (omega (arith, c.requires.long, counted)) refl
            c.len-len.ensures.each parts.joined parts.front parts.some
            (λ xs out h. h) (λ xs out h. h) (λ a b out h. h) (λ a b out h. h) (λ a b out h. h)
            (written a.0 a.1) (written b.0 b.1) (written all.0 all.1) left.0.2 right.0.2 together.3,
      ),
      together.4 self.parts (parts.rests a.2 b.2 left.1 right.1),
      subst (λ n. g.G.Watch.ends self.watch n all.3 (ending_of all.1)) counted
          (c.halve-left_watch.ensures.joined (ending_of a.1) (ending_of b.1) (ending_of all.1)
          a.3 b.3 all.3
          (subst (λ n. g.G.Watch.ends watches.0 n a.3 (ending_of a.1)) parts.counts.0 left.2)
          (subst (λ n. g.G.Watch.ends watches.1 n b.3 (ending_of b.1)) back right.2) together.5
          (windows_together a.0 b.0 all.0 a.1 b.1 all.1 together.3)),
    )
