-- The ranges' places rise, and a part lies where its range does.
use Rattle.commonware_parallel.proofs.{ℕ, ◌<◌, Range, get_or, length, arith, subst, sym, rules, AcceptsAt, ChangesAt, part_of_range, place_in-first, place_in-last, place_in-rises, place_in-start}
use Rattle.parallel_row.proofs.Parts.{seen_elsewhere}
use Rattle.parallel_row.specs.Cut.{place_in}
use Rattle.std.specs.Prelude.{slice_range}
use Rattle.commonware_parallel.proofs.in_place.each_part.Goals as goal

pub parts_in_row-requires-after_bounds : goal.parts_in_row-requires-after_bounds
parts_in_row-requires-after_bounds g c κs bounds =
    let rs = c.args.ranges.now in
    let xs = c.args.items.now in
    let cuts = c.requires.cut in (
      place_in-rises 0 (length xs) rs cuts,
      omega arith,
      omega (arith, place_in-first 0 rs, place_in-last 0 (length xs) rs cuts),
      λ n low high. let d : Range ℕ = record { start = 0; end = 0 } in
          let within : n < length rs = omega (arith, high) in
          let P = AcceptsAt g.F.Fn c.args.op.now in
          let start = place_in-start 0 (length xs) rs cuts n d within in
          subst (P (place_in 0 rs n)) (sym (part_of_range (length xs) rs cuts n d within xs))
          (subst (λ i. P i (slice_range xs (get_or rs n d).start (get_or rs n d).end)) (sym start)
          (c.requires.accepts n d within)),
    )

pub returns : goal.returns
returns g c =
    let rs = c.args.ranges.now in
    let xs = c.args.items.now in
    let len = length xs in
    let cuts = c.requires.cut in
    let changed = c.parts_in_row.ensures in (
      changed.0,
      λ n d high. seen_elsewhere (ChangesAt g.F.Fn c.args.op.now)
          (place_in-start 0 len rs cuts n d high) (part_of_range len rs cuts n d high xs)
          (part_of_range len rs cuts n d high c.parts_in_row.new.items)
          (changed.1 n (omega arith) (search rules)),
    )
