-- The items are what stands before the part, the part and what is past it.
use Rattle.parallel_row.proofs.{◌≡◌, ◌++◌, rules, sym, ap, ◌∙◌, part_of_cut, cut_here, cut_elsewhere, seen_elsewhere, ChangesAt}
use Rattle.parallel_row.proofs.row.at_part.Goals as goal

pub returns-clause-here : goal.returns-clause-here
returns-clause-here g c =
    let place = g.C.Cuts.place c.args.cuts.now in
    let whole = c.split_at_mut-rest in
    let part = c.split_at_mut-part in
    let front = whole.result.0.now in
    let back = part.result.1.now in
    let at = whole.ensures.front_len ∙ c.length_between-before.ensures in
    let len = part.ensures.front_len ∙ c.length_between-len.ensures in
    let cut : c.args.items.now ≡ front ++ (part.result.0.now ++ back) =
    whole.ensures.value ∙ ap (λ xs. front ++ xs) part.ensures.value in
    let here = cut_here place c.requires.rises c.args.begin c.args.number c.requires.from front back
    at in
    seen_elsewhere (ChangesAt g.F.Fn c.args.op.now) c.place.ensures
    (sym (ap (λ xs. part_of_cut place c.args.begin c.args.number xs) cut
    ∙ here part.result.0.now len))
    (sym (here c.op.new.arg3 (search rules))) (search rules)

pub returns-clause-others : goal.returns-clause-others
returns-clause-others g c m low other =
    let place = g.C.Cuts.place c.args.cuts.now in
    let whole = c.split_at_mut-rest in
    let part = c.split_at_mut-part in
    let front = whole.result.0.now in
    let at = whole.ensures.front_len ∙ c.length_between-before.ensures in
    let len = part.ensures.front_len ∙ c.length_between-len.ensures in
    cut_elsewhere place c.requires.rises c.args.begin c.args.number c.requires.from front
    part.result.1.now at part.result.0.now c.op.new.arg3 len (search rules) m low other
    ∙ sym (ap (λ xs. part_of_cut place c.args.begin m xs)
    (whole.ensures.value ∙ ap (λ xs. front ++ xs) part.ensures.value))
