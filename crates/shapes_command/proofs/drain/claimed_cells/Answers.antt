-- One more seat and its list.
use Rattle.shapes_command.proofs.{◌++◌, ◌∷◌, [], ap, sym, ◌∙◌, arith, pushed_map, in_ranges, total_append, seat_of, listed}
use Rattle.shapes_command.proofs.drain.claimed_cells.Goals as goal

pub loop-seat-preserved : goal.loop-seat-preserved
loop-seat-preserved c =
    let so_far = c.loop-seat.yielded in
    let x = c.in-Some.field-0 in
    let i = c.loop-seat.invariant in
    record {
      seats = c.in_ok-push.ensures.items ∙ ap (λ xs. xs ++ seat_of x ∷ []) i.seats
          ∙ sym (pushed_map seat_of so_far x);
      cells =
          λ n. omega (
            arith,
            c.in_ok-push_cells.ensures.cells n,
            i.cells n,
            total_append (listed n) so_far (x ∷ []),
            ap (λ v. in_ranges n v.items) c.in-Some.claims-is,
          );
    }
