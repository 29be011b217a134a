-- As many pairs as either side has items.
use Rattle.parallel_bridge.proofs.{◌∙◌, sym, pairs_long}
use Rattle.parallel_bridge.proofs.zipped.ZippedProducer.len.Goals as goal

pub returns-clause-each : goal.returns-clause-each
returns-clause-each g c zs pairs =
    let self = c.args.self.now in
    pairs_long c.len.result c.len-2.result (g.L.Producer.gives self.left)
    (g.R.Producer.gives self.right) zs pairs c.len.ensures.each c.len-2.ensures.each
    ∙ sym c.min.ensures
