-- One more seat, and its results.
use Rattle.commonware_parallel.proofs.{◌++◌, ◌∷◌, [], map, ap, sym, ◌∙◌, map-append, seat_of, results_push}
use Rattle.commonware_parallel.proofs.tiles.seats.gather.Goals as goal

pub loop-part-preserved : goal.loop-part-preserved
loop-part-preserved g c =
    let so_far = c.loop-part.yielded in
    let part = c.in-Some.part in
    let i = c.loop-part.invariant in
    let added = c.in_ok-seat.ensures in
    record {
      seats = c.in_ok-push.ensures.items ∙ ap (λ xs. xs ++ c.in_ok-seat.seat ∷ []) i.seats
          ∙ ap (λ s. map seat_of so_far ++ s ∷ []) added.seat
          ∙ sym (map-append seat_of so_far (part ∷ []));
      results =
          results_push so_far part c.loop-part.all.items c.add_results.new.all.items added.results.0
          i.results added.results.1 added.results.2;
    }
