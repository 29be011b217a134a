-- Each part is what the worker of the seat at that place gave back.
use Rattle.shapes_command.proofs.{◌≡◌, ◌<◌, ◌∙◌, Ok, IfOk, length, get_or, ap, subst, arith, index_of, IsDrained, oks_count, oks_at}
use Rattle.shapes_command.proofs.drain.drain.Goals as goal

pub returns-clause-drained : goal.returns-clause-drained
returns-clause-drained g c =
    let shares = c.args.shares.now in
    let seats = c.args.seats.items in
    let parts = c.in_ok-parts.parts in
    let drained = c.in_ok-drained.drained.items in
    let same = c.in_ok-drained.ensures in
    let all = c.requires.seats in
    let count : length drained ≡ length seats = omega (
      arith,
      oks_count drained parts.items same,
      parts.ok.0,
      c.in_ok-parts.ensures.len,
      c.args.seats.ok.0,
    ) in
    record {
      count = count ∙ all.count;
      each = λ i d h.
          let here : i < length seats = omega (arith, h, count) in
          let gives = (c.in_ok-parts.ensures.each i (Ok d) here).1 in
          let at : get_or parts.items i (Ok d) ≡ Ok (get_or drained i d) =
          oks_at drained parts.items same i d in
          let number : index_of gives.job ≡ i = ap index_of gives.job_read
          ∙ all.order i gives.job here in
          let is : IsDrained shares (index_of gives.job) (get_or drained i d) = subst
          (λ r. IfOk r (λ x. IsDrained shares (index_of gives.job) x)) at gives.call.met in
          subst (λ n. IsDrained shares n (get_or drained i d)) number is;
    }
