-- The rooms are cut where the items of the front half of the lists end.
use Rattle.parallel_bridge.proofs.{rules, ◌≡◌, ◌/◌, arith, length, take, param, CutRoom, keys_in, keys_cut, keys_within, values_in, values_cut, values_within}
use Rattle.parallel_bridge.proofs.list.moving.MovingTask.split.Goals as goal
use Rattle.parallel_bridge.proofs.list.moving.MovingTask.split.Goals.{After-split-first_keys}
use Rattle.parallel_bridge.proofs.list.moving.MovingTask.split.Given.{Over}

pub split-first_values-requires : goal.split-first_values-requires
split-first_values-requires g c =
    let room = c.requires.ready.0 in let counted : c.in-Some.value_count
    ≡ length (values_in (take (c.len-half.result / 2) c.args.self.lists.items)) = search rules in
    let most = values_within c.args.self.lists.items (c.len-half.result / 2) in
    (room.0.0, omega (arith, counted, most, room.1))

pub split-first_keys-requires : goal.split-first_keys-requires
split-first_keys-requires g c =
    let room = c.requires.ready.1 in
    let counted : c.in-Some.key_count
    ≡ length (keys_in (take (c.len-half.result / 2) c.args.self.lists.items)) = search rules in
    let most = keys_within c.args.self.lists.items (c.len-half.result / 2) in
    (room.0.0, omega (arith, counted, most, room.1))

-- the rooms' halves
values : (g : Over) (c : After-split-first_keys g) → CutRoom (λ ps. values_in ps)
    (param 0 g.row.U) c.args.self.values c.split-first_values.result.0
    c.split-first_values.result.1 c.args.self.lists.items c.split_off.new.self.items
    c.in-Ok.others.items
values g c =
    let self = c.args.self in let half = c.len-half.result / 2 in
    let counted : c.in-Some.value_count ≡ length (values_in (take half self.lists.items)) =
    search rules in
    values_cut (param 0 g.row.U) self.values _ _ self.lists.items _ _ half _ c.requires.ready.0
    c.in-Ok.ensures.items c.in-Ok.ensures.tail counted c.split-first_values.ensures.left
    c.split-first_values.ensures.right

keys : (g : Over) (c : After-split-first_keys g) → CutRoom (λ ps. keys_in ps)
    (param 1 g.row.K) c.args.self.keys c.split-first_keys.result.0 c.split-first_keys.result.1
    c.args.self.lists.items c.split_off.new.self.items c.in-Ok.others.items
keys g c =
    let self = c.args.self in let half = c.len-half.result / 2 in
    let counted : c.in-Some.key_count ≡ length (keys_in (take half self.lists.items)) =
    search rules in
    keys_cut (param 1 g.row.K) self.keys _ _ self.lists.items _ _ half _ c.requires.ready.1
    c.in-Ok.ensures.items c.in-Ok.ensures.tail counted c.split-first_keys.ensures.left
    c.split-first_keys.ensures.right

pub returns-clause-left : goal.returns-clause-left
returns-clause-left g c = ((values g c).0, (keys g c).0)

pub returns-clause-right : goal.returns-clause-right
returns-clause-right g c = ((values g c).1, (keys g c).1)

pub returns-clause-meet : goal.returns-clause-meet
returns-clause-meet g c depth a b left right =
    ((values g c).2 a.0 b.0 left.0 right.0, (keys g c).2 a.1 b.1 left.1 right.1)

pub returns-clause-node : goal.returns-clause-node
returns-clause-node g c depth a b all above left right both = (
  (values g c).3 a.0 b.0 all.0 left.0 right.0 both.0,
  (keys g c).3 a.1 b.1 all.1 left.1 right.1 both.1,
)
