-- The tops of the blocks that came so far, and a place for the top of each that is to come.
use Rattle.commonware_parallel.proofs.{◌≡◌, ◌-◌, ◌≤◌, length, AreBlocks, SamePlaces, SoFar}
use Rattle.commonware_parallel.proofs.merkle.descent.descend_in_turn.Given as goal

abbrev pub invariant-loop-block : goal.invariant-loop-block
invariant-loop-block g l = record {
  so_far : SoFar g.C.Cursor.ready g.C.Cursor.gives g.C.Cursor.may g.C.Cursor.leaves
      (goal.L-post g l.leaf) (goal.F-post g l.combine) l.initial.items l.items l.size l.count l.left
      l.tops.items;
  blocks : AreBlocks l.size l.left (l.tops.room - length l.tops.items);
  within : length l.tops.items ≤ l.tops.room;
  front : l.tops.before ≡ 0;
  places : SamePlaces l.initial.tops l.tops;
}

abbrev pub decreases-loop-block : goal.decreases-loop-block
decreases-loop-block g l = l.tops.room - length l.tops.items
