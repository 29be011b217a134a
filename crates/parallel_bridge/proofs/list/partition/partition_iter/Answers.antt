-- One turn is one value or one key more.
use Rattle.parallel_bridge.proofs.{rules, ◌∷◌, [], next_has, part_append, part_end, part_one}
use Rattle.parallel_bridge.proofs.list.partition.partition_iter.Goals as goal

pub loop-item-init : goal.loop-item-init
loop-item-init g c =
    part_end (goal.F-post g c.args.map_op.now) c.with_places-values.result.items c.with_places-keys.result.items

pub map_op-key-requires : goal.map_op-key-requires
map_op-key-requires g c = next_has g.I.Iterator.next_gives
    (λ (x : g.row.I-Item.Denot). goal.F-pre g c.args.map_op.now x) c.args.iter
    c.loop-item.item-iterator c.next.new.self c.loop-item.yielded c.in-Some.item c.requires.accepts
    (search rules) (search rules)

pub loop-item-preserved-in-Some-value : goal.loop-item-preserved-in-Some-value
loop-item-preserved-in-Some-value g c =
    let allowed = goal.F-post g c.args.map_op.now in let values = c.loop-item.values.items in
    let keys = c.loop-item.keys.items in let more = c.push.new.self.items in
    part_append allowed c.with_places-values.result.items values more c.with_places-keys.result.items keys keys
    c.loop-item.yielded (c.in-Some.item ∷ []) c.loop-item.invariant
    (part_one allowed values more keys keys c.in-Some.item c.map_op-key.result c.map_op-key.ensures
    (search rules) (search rules))

pub loop-item-preserved : goal.loop-item-preserved
loop-item-preserved g c =
    let allowed = goal.F-post g c.args.map_op.now in let values = c.loop-item.values.items in
    let keys = c.loop-item.keys.items in let more = c.push-in-None-value.new.self.items in
    part_append allowed c.with_places-values.result.items values values c.with_places-keys.result.items keys more
    c.loop-item.yielded (c.in-Some.item ∷ []) c.loop-item.invariant
    (part_one allowed values values keys more c.in-Some.item c.map_op-key.result
    c.map_op-key.ensures (search rules) (search rules))
