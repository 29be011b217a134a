-- The first items of the slice.
use Rattle.parallel_bridge.proofs.{take, drop, sym, take-append-drop, length-take-le, borrows_front}
use Rattle.parallel_bridge.proofs.producer.RefSliceProducer.into_front.Goals as goal

pub returns-clause-front : goal.returns-clause-front
returns-clause-front g c xs lent =
    let n = c.args.index in let items = c.args.self.now in
    borrows_front n xs (take n items) (drop n items) items (length-take-le n items c.requires)
    (sym (take-append-drop n items)) lent
