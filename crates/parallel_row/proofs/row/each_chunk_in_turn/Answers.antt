-- Each chunk is one of std's.
use Rattle.parallel_row.proofs.{◌≡◌, ◌<◌, arith, div_ceil, length, rules, AcceptsAt, ChangesAt, chunks_accepted, chunks_from_parts, even_places, even_rises, parts_from_chunks}
use Rattle.parallel_row.proofs.row.each_chunk_in_turn.Goals as goal

pub parts_in_turn-requires-after_bounds : goal.parts_in_turn-requires-after_bounds
parts_in_turn-requires-after_bounds g c κs bounds =
    let xs = c.args.items.now in
    let size = c.get-size.result in
    let some : 0 < size = search rules in
    let counted : c.div_ceil.result ≡ div_ceil (length xs) size = search rules in (
      even_rises size (length xs),
      omega arith,
      even_places size (length xs) _ some counted,
      parts_from_chunks size _ xs some counted (AcceptsAt g.F.Fn c.args.op.now)
          (chunks_accepted g.F.Fn c.args.op.now xs size _ c.get-size.ensures.value some c.requires),
    )

pub returns : goal.returns
returns g c =
    let xs = c.args.items.now in
    let size = c.get-size.result in
    let counted : c.div_ceil.result ≡ div_ceil (length xs) size = search rules in
    chunks_from_parts size _ xs (search rules) counted (ChangesAt g.F.Fn c.args.op.now)
    c.parts_in_turn.new.items _ c.get-size.ensures.value c.parts_in_turn.ensures.0
    c.parts_in_turn.ensures.1
