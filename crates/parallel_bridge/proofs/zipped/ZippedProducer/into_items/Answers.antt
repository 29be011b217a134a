-- Both sides, each cut to as many items as there are pairs, are gone through in order.
use Rattle.parallel_bridge.proofs.{arith, All-weaker, both_along, both_drained, zipped_whole}
use Rattle.parallel_bridge.proofs.zipped.ZippedProducer.into_items.Goals as goal

pub returns-clause-gives : goal.returns-clause-gives
returns-clause-gives g c zs drains =
    let self = c.args.self in
    let (xs, ys, one, two, same) =
    both_drained g.L.Iter.Iterator.next_gives g.R.Iter.Iterator.next_gives zs
    (record { left = c.into_items.result; right = c.into_items-2.result }) drains in
    zipped_whole c.len-pairs.result (g.L.Producer.gives self.left)
    (g.L.Producer.gives c.into_front.result) (g.R.Producer.gives self.right)
    (g.R.Producer.gives c.into_front-2.result) c.into_front.ensures.front
    c.into_front-2.ensures.front zs
    (λ all pairs. let long = c.len-pairs.ensures.each all pairs in omega (arith, long))
    (xs, ys, c.into_items.ensures.gives xs one, c.into_items-2.ensures.gives ys two, same)

pub returns-clause-may : goal.returns-clause-may
returns-clause-may g c =
    let self = c.args.self in
    both_along g.L.Iter.Iterator.next_gives g.R.Iter.Iterator.next_gives
    (g.L.Producer.may self.left) (g.R.Producer.may self.right)
    (record { left = c.into_items.result; right = c.into_items-2.result })
    (λ xs t run. All-weaker _ _ c.into_front.ensures.may_front xs
    (c.into_items.ensures.may xs t run))
    (λ ys t run. All-weaker _ _ c.into_front-2.ensures.may_front ys
    (c.into_items-2.ensures.may ys t run))
