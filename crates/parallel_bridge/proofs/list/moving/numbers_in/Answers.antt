-- Each pair of lists has as many more.
use Rattle.parallel_bridge.proofs.{◌∙◌, ap, arith, length, numbers_more}
use Rattle.parallel_bridge.proofs.list.moving.numbers_in.Goals as goal

pub loop-pair-preserved : goal.loop-pair-preserved
loop-pair-preserved g c =
    let pair = c.pair-item.result in let so_far = c.loop-pair.invariant in
    let more = numbers_more c.args.lists.now c.loop-pair.pair-index pair c.loop-pair-test.true in
    let us = ap (λ p. length p.0.items) c.pair-item.is in
    let ks = ap (λ p. length p.1.items) c.pair-item.is in
    let values = c.len.ensures ∙ pair.0.ok.0 in
    let keys = c.len-in-loop-pair.ensures ∙ pair.1.ok.0 in
    let value_sum = c.in_ok-values.ensures.1 in let key_sum = c.in_ok-keys.ensures.1 in (
      omega (arith, more.0, so_far.0, us, values, value_sum),
      omega (arith, more.1, so_far.1, ks, keys, key_sum),
    )
