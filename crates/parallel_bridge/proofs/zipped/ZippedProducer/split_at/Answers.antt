-- A cut of both sides at the index is a cut of their pairs.
use Rattle.parallel_bridge.proofs.{refl, arith, zip, pairs_long, pairs_joined}
use Rattle.parallel_bridge.proofs.zipped.ZippedProducer.split_at.Goals as goal

pub returns-clause-joined : goal.returns-clause-joined
returns-clause-joined g c =
    let self = c.args.self in let one = c.in_ok-left_front in let two = c.in_ok-right_front in
    pairs_joined c.args.index (g.L.Producer.gives self.left) (g.L.Producer.gives one.left_front)
    (g.L.Producer.gives one.left_back) (g.R.Producer.gives self.right)
    (g.R.Producer.gives two.right_front) (g.R.Producer.gives two.right_back) one.ensures.joined
    two.ensures.joined one.ensures.front two.ensures.front

pub returns-clause-front : goal.returns-clause-front
returns-clause-front g c zs pairs =
    let i = c.args.index in let one = c.in_ok-left_front in let two = c.in_ok-right_front in
    let long = pairs_long i i (g.L.Producer.gives one.left_front)
    (g.R.Producer.gives two.right_front) zs pairs one.ensures.front two.ensures.front in
    omega (arith, long)

pub returns-clause-some : goal.returns-clause-some
returns-clause-some g c =
    let (xs, one) = c.in_ok-left_front.ensures.some in
    let (ys, two) = c.in_ok-right_front.ensures.some in
    (zip xs ys, (xs, ys, one, two, refl))
