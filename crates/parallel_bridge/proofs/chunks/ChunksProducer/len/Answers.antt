-- As many as the slice has pieces.
use Rattle.parallel_bridge.proofs.{length, sym, ap, ◌∙◌, div_ceil, non_zero_usize_get, length-map, length_pieces}
use Rattle.parallel_bridge.proofs.chunks.ChunksProducer.len.Goals as goal

pub returns-clause-each : goal.returns-clause-each
returns-clause-each g c xs given =
    let self = c.args.self.now in let size = non_zero_usize_get self.size in
    let items = self.slice.now in
    sym (length-map xs (λ x. x.now)) ∙ ap length given
    ∙ length_pieces (div_ceil (length items) size) size items
    ∙ ap (div_ceil (length items)) (sym c.get.ensures.value) ∙ sym c.div_ceil.ensures
