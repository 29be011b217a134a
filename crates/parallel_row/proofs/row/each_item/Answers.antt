-- Each item is in a part.
use Rattle.parallel_row.proofs.{◌≡◌, ◌+◌, ◌*◌, ◌/◌, ◌%◌, ◌<◌, ◌^◌, ◌∙◌, min, get_or, get_or_default, length, ap, arith, refl, rules, div_ceil, div-add-mod', mod_below, ChangesAt, even_begins, even_counts, even_part, even_places, even_rises, item_of_chunk, length_of_chunk, seen_elsewhere}
use Rattle.parallel_row.proofs.row.each_item.Goals as goal

pub parts_in_row-requires-after_bounds : goal.parts_in_row-requires-after_bounds
parts_in_row-requires-after_bounds g c κs bounds =
    let xs = c.args.items.now in
    let size = c.max-size.result in
    let some : 0 < size = omega (arith, c.max-size.ensures) in
    let counted : c.div_ceil-count.result ≡ div_ceil (length xs) size = search rules in (
      even_rises size (length xs),
      omega arith,
      even_places size (length xs) _ some counted,
      λ n low high p same. let begins = even_begins size (length xs) _ n some counted high in
          let old = same ∙ even_part size (length xs) n begins xs refl in
          let long = length_of_chunk xs size n in
          let fits : length xs < 2 ^ 64 = search rules in (
            omega (arith, begins, ap length old, long, fits),
            λ k d within p' is. let i = min (n * size) (length xs) + k in
                let inside : i < length xs = omega (arith, begins, ap length old, long, within) in
                let short : k < size = omega (arith, ap length old, long, within) in
                c.requires i p' inside
                (is
                ∙ (ap (λ zs. get_or zs k d) old
                ∙ (item_of_chunk xs size n k d short
                ∙ (ap (λ j. get_or xs j d) {x = n * size + k} {y = i} (omega (arith, begins))
                ∙ get_or_default xs i d p'.now inside)))),
          ),
    )

pub returns : goal.returns
returns g c i d l =
    let xs = c.args.items.now in
    let ys = c.parts_in_row.new.items in
    let size = c.max-size.result in
    let some : 0 < size = omega (arith, c.max-size.ensures) in
    let counted : c.div_ceil-count.result ≡ div_ceil (length xs) size = search rules in
    let n = i / size in
    let k = i % size in
    let inside : k < size = mod_below i size some in
    let is : n * size + k ≡ i = div-add-mod' i size in
    let begins : n * size < length xs = omega (arith, is, l) in
    let at = c.parts_in_row.ensures.1 n (omega arith)
    (even_counts size (length xs) _ n some counted begins) in
    let old = at.argument_is ∙ even_part size (length xs) n begins xs refl in
    let new = at.left ∙ even_part size (length xs) n begins ys c.parts_in_row.ensures.0 in
    let within : k < length at.argument.now =
    omega (arith, is, l, inside, ap length old, length_of_chunk xs size n) in (
      refl,
      seen_elsewhere (ChangesAt g.F.Fn c.args.op.now) {i = min (n * size) (length xs) + k}
          (omega (arith, is, begins))
          (ap (λ zs. get_or zs k d) old
          ∙ (item_of_chunk xs size n k d inside ∙ ap (λ j. get_or xs j d) is))
          (ap (λ zs. get_or zs k d) new
          ∙ (item_of_chunk ys size n k d inside ∙ ap (λ j. get_or ys j d) is))
          (at.call k d within),
    )
