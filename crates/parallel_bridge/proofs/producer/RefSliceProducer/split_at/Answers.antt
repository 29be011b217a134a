-- A list of borrows comes of the back part.
use Rattle.parallel_bridge.proofs.{◌-◌, length, take, drop, some_borrows}
use Rattle.parallel_bridge.proofs.producer.RefSliceProducer.split_at.Goals as goal

pub returns-clause-some : goal.returns-clause-some
returns-clause-some g c =
    some_borrows (take (length c.args.self.now - c.args.index) (drop c.args.index c.args.self.now))
