-- Each row is in the lists once, so in order they are all rows.
use Rattle.shapes_command.proofs.{◌≡◌, ◌*◌, ◌∙◌, ap, arith, IsNonDecreasingBy-from_sort, in_order}
use Rattle.parallel_shares.specs.Sizes.{Sizes}
use Rattle.shapes_command.proofs.drain.drained_rows.Goals as goal

pub returns-clause-rows : goal.returns-clause-rows
returns-clause-rows g c =
    let plan : Sizes = c.in_ok-shares.shares.plan in
    let one : c.args.rows * 1 ≡ c.args.rows = omega arith in
    let all : plan.cells ≡ c.args.rows = ap (λ (z : Sizes). z.cells) c.in_ok-shares.ensures.sizes
    ∙ one in
    let ordered = c.sort_unstable.new.self.items in
    in_order plan.cells c.args.rows c.in_ok-_words.claimed.items ordered all
    c.in_ok-_words.ensures.each_once c.sort_unstable.ensures.permutation
    (IsNonDecreasingBy-from_sort (λ x. x) ordered c.sort_unstable.ensures.sorted)
