-- The first pieces of the slice.
use Rattle.parallel_bridge.proofs.{non_zero_usize_get, chunk_of_front, chunks_front}
use Rattle.parallel_bridge.proofs.chunks.ChunksProducer.into_front.Goals as goal

pub returns-clause-front : goal.returns-clause-front
returns-clause-front g c xs lent =
    let m = c.middle_of-middle in let size = non_zero_usize_get c.args.self.size in
    chunks_front c.args.index m.result size c.args.self.slice.now m.ensures.some c.requires
    m.ensures.cut xs lent

pub returns-clause-may_front : goal.returns-clause-may_front
returns-clause-may_front g c x =
    let m = c.middle_of-middle in let size = non_zero_usize_get c.args.self.size in
    chunk_of_front c.args.index m.result size c.args.self.slice.now m.ensures.some c.requires
    m.ensures.cut x.now
