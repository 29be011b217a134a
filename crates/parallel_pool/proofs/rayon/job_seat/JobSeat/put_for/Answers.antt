-- The pass of the queue has pushed, and no other did anything.
use Rattle.parallel_pool.proofs.{◌≡◌, arith, ap, length, get_or_read_under, new_pass, HasPushed, SeatView, Broadcast, after_push}
use Rattle.parallel_pool.proofs.rayon.job_seat.JobSeat.put_for.Goals as goal

pub returns : goal.returns
returns g c =
    let long : length c.self.inside.broadcasts.items ≡ length c.args.self.now.broadcasts =
    ap (λ (s : SeatView _). length s.broadcasts) c.self.view_is in
    let read =
    get_or_read_under c.self.inside.broadcasts.items c.args.worker _ _ new_pass
    c.index_mut.ensures.value (omega (arith, c.requires, long, c.self.inside.broadcasts.ok.0))
    c.self.inside.broadcasts.ok.0 in
    after_push (Broadcast c.args.worker)
    (λ v w. HasPushed v c.args.job w) _ _ _ _ c.args.job _ c.self.view_is read c.push.ensures
