-- One more block has its top, and one less is left.
use Rattle.commonware_parallel.proofs.{◌≡◌, ◌+◌, ◌-◌, ◌<◌, ◌∷◌, [], ◌∙◌, arith, refl, rules, ap, subst, length, length-append, AreBlocks, all_down, block_less, block_more, block_none, block_some, none_so_far}
use Rattle.commonware_parallel.proofs.merkle.descent.descend_in_turn.Goals as goal

pub loop-block-init : goal.loop-block-init
loop-block-init g c =
    let C = g.C.Cursor in let tops = c.args.tops.now in
    let none = ap length c.requires.room.1 in let room : tops.room ≡ tops.room - length tops.items =
    omega (arith, none) in record {
      so_far = none_so_far C.ready C.gives C.may C.leaves (goal.L-post g c.args.leaf.now)
          (goal.F-post g c.args.combine.now) c.args.items.now c.args.size c.args.count tops.items
          c.requires.items.0 c.requires.room.1;
      blocks = subst (AreBlocks c.args.size c.args.count) room c.requires.blocks;
      within = omega (arith, none);
      front = c.requires.room.0;
      places = (refl, refl);
    }

pub loop-block-preserved : goal.loop-block-preserved
loop-block-preserved g c =
    let C = g.C.Cursor in let at = c.loop-block.invariant in let put = c.put.ensures in
    let left = c.loop-block.left in let block = c.min-block.result in let size = c.args.size in
    let tops = c.loop-block.tops in let then = c.put.new.self in
    let longer : length then.items ≡ length tops.items + 1 =
    ap (λ v. length v.items) put ∙ length-append tops.items (c.next_top.result ∷ []) in
    let room : then.room ≡ tops.room = ap (λ v. v.room) put in
    let some : 0 < left = block_some size left (tops.room - length tops.items) at.blocks
    (omega (arith, c.len.ensures, c.room.ensures, c.loop-block-test.true)) in record {
      so_far = block_more C.ready C.gives C.may C.leaves (goal.L-post g c.args.leaf.now)
          (goal.F-post g c.args.combine.now) c.args.items.now c.loop-block.items
          c.next_top.new.items size c.args.count left block (left - block) tops.items then.items
          c.next_top.result some (omega (arith, c.min-block.ensures))
          (λ more. omega (arith, c.min-block.ensures, more)) refl (ap (λ v. v.items) put)
          at.so_far c.next_top.ensures.top;
      blocks = block_less size left (tops.room - length tops.items) (left - block)
          (then.room - length then.items) at.blocks
          (omega (arith, longer, room, c.len.ensures, c.room.ensures, c.loop-block-test.true))
          (omega (arith, c.min-block.ensures));
      within = omega (arith, longer, room, c.len.ensures, c.room.ensures, c.loop-block-test.true);
      front = search rules;
      places = search rules;
    }

pub returns-clause-tops : goal.returns-clause-tops
returns-clause-tops g c =
    let C = g.C.Cursor in let at = c.loop-block.invariant in let tops = c.loop-block.tops in
    let none = block_none c.args.size c.loop-block.left (tops.room - length tops.items) at.blocks
    (omega (arith, c.len.ensures, c.room.ensures, c.loop-block-test.false)) in
    all_down C.ready C.gives C.may C.leaves (goal.L-post g c.args.leaf.now)
    (goal.F-post g c.args.combine.now) c.args.items.now c.loop-block.items c.args.size c.args.count
    c.loop-block.left tops.items none at.so_far
