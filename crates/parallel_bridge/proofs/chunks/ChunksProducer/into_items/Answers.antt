-- What comes are the slice's pieces, in order.
use Rattle.parallel_bridge.proofs.{◌∙◌, subst, ◌<◌, non_zero_usize_get, came, stands_in, chunks_come}
use Rattle.parallel_bridge.proofs.chunks.ChunksProducer.into_items.Goals as goal

pub returns-clause-gives : goal.returns-clause-gives
returns-clause-gives g c xs drains = came xs drains
    (chunks_come (non_zero_usize_get c.args.self.size) c.chunks.result c.args.self.slice.now
    (c.chunks.ensures.size ∙ c.get-size.ensures.value) c.chunks.ensures.rest
    (subst (λ n. 0 < n) c.get-size.ensures.value c.get-size.ensures.nonzero))

pub returns-clause-may : goal.returns-clause-may
returns-clause-may g c = stands_in
    (chunks_come (non_zero_usize_get c.args.self.size) c.chunks.result c.args.self.slice.now
    (c.chunks.ensures.size ∙ c.get-size.ensures.value) c.chunks.ensures.rest
    (subst (λ n. 0 < n) c.get-size.ensures.value c.get-size.ensures.nonzero))
