-- As many indices as the end is past the start.
use Rattle.parallel_bridge.proofs.{length, ◌∙◌, ap, ◌-◌, arith, length-range_with_len}
use Rattle.parallel_bridge.proofs.producer.IndicesProducer.len.Goals as goal

pub returns-clause-each : goal.returns-clause-each
returns-clause-each c xs given = ap length given
    ∙ (length-range_with_len c.args.self.now.start (c.args.self.now.end - c.args.self.now.start)
    ∙ omega (arith, c.saturating_sub.ensures))
