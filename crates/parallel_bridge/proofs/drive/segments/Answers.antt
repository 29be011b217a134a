-- What was pushed on an empty list are the lengths of the segments.
use Rattle.parallel_bridge.proofs.{◌≡◌, ◌++◌, ◌∙◌, ◌*◌, ◌^◌, ◌≤◌, length, sum, sym, ap, arith, halved_lengths, cutdepth, shape_lengths, sum-halved, length-halved_depth, length-halved_items}
use Rattle.parallel_bridge.proofs.{cutdepth_bounds}
use Rattle.parallel_bridge.proofs.drive.segments.Goals as goal

-- what was pushed
pushed : (c : goal.In_ok-push_halves)
    → c.push_halves.new.lengths.items ≡ halved_lengths (cutdepth c.args.threads.value) c.args.len
pushed c = c.in_ok-push_halves.ensures.lengths
    ∙ ap (λ l. l ++ halved_lengths c.depth_of.result c.args.len) c.new-lengths.ensures.items
    ∙ ap (λ d. halved_lengths d c.args.len) c.depth_of.ensures.digits

pub returns-clause-leaves : goal.returns-clause-leaves
returns-clause-leaves c xs long = pushed c
    ∙ ap (halved_lengths (cutdepth c.args.threads.value)) (sym long)
    ∙ sym (shape_lengths (cutdepth c.args.threads.value) xs)

pub returns-clause-all : goal.returns-clause-all
returns-clause-all c = ap sum (pushed c) ∙ sum-halved (cutdepth c.args.threads.value) c.args.len

pub returns-clause-by_threads : goal.returns-clause-by_threads
returns-clause-by_threads c =
    let n = c.args.threads.value in
    let least : length (halved_lengths (cutdepth n) c.args.len) ≤ 2 ^ cutdepth n =
    length-halved_depth (cutdepth n) c.args.len in
    let most : 2 ^ cutdepth n ≤ 2 * n = (cutdepth_bounds n (omega arith) (omega arith)).2 in
    rw (pushed c) (omega arith)

pub returns-clause-by_items : goal.returns-clause-by_items
returns-clause-by_items c some =
    rw (pushed c) (length-halved_items (cutdepth c.args.threads.value) c.args.len some)
