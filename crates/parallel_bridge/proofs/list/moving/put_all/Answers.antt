-- As long as an item is left there is a slot for it.
use Rattle.parallel_bridge.proofs.{sym, ap, ◌∙◌, arith, length, length-append}
use Rattle.parallel_bridge.proofs.list.moving.put_all.Goals as goal

pub put-requires : goal.put-requires
put-requires g c =
    let so_far = c.loop-room.invariant in let one = ap length c.take.ensures.items in
    let all = sym (length-append c.loop-room.room.items c.loop-room.items.items)
    ∙ ap length so_far.2 ∙ length-append c.args.room.items c.args.items.items in
    omega (arith, all, one, so_far.0.1, so_far.1, c.requires)
