-- A cut after that many pieces of the slice.
use Rattle.parallel_bridge.proofs.{◌-◌, length, drop, take, ap, ◌∙◌, div_ceil, non_zero_usize_get, take_rest, chunks_of, some_borrows, back_count, chunk_of_back, chunk_of_front}
use Rattle.parallel_bridge.proofs.{front_count}
use Rattle.parallel_bridge.proofs.chunks.ChunksProducer.split_at.Goals as goal

pub returns-clause-counts : goal.returns-clause-counts
returns-clause-counts g c =
    let m = c.middle_of-middle in let size = non_zero_usize_get c.args.self.size in (
      front_count c.args.index m.result size c.args.self.slice.now m.ensures.some c.requires
          m.ensures.cut,
      ap (λ l. div_ceil (length l) size) (take_rest c.args.self.slice.now m.result)
          ∙ back_count c.args.index m.result size c.args.self.slice.now m.ensures.some
          c.requires m.ensures.cut,
    )

pub returns-clause-may_front : goal.returns-clause-may_front
returns-clause-may_front g c x =
    let m = c.middle_of-middle in let size = non_zero_usize_get c.args.self.size in
    chunk_of_front c.args.index m.result size c.args.self.slice.now m.ensures.some c.requires
    m.ensures.cut x.now

pub returns-clause-may_back : goal.returns-clause-may_back
returns-clause-may_back g c x =
    let m = c.middle_of-middle in let size = non_zero_usize_get c.args.self.size in
    chunk_of_back c.args.index m.result size c.args.self.slice.now m.ensures.some c.requires
    m.ensures.cut x.now

pub returns-clause-some : goal.returns-clause-some
returns-clause-some g c =
    let xs = c.args.self.slice.now in let m = c.middle_of-middle.result in
    let size = non_zero_usize_get c.args.self.size in
    some_borrows (chunks_of size (take (length xs - m) (drop m xs)))
