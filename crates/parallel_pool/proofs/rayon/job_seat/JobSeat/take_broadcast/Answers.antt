-- The pass of the queue has taken, and no other did anything.
use Rattle.parallel_pool.proofs.{◌≡◌, arith, ap, length, get_or_read_under, new_pass, HasTaken, SeatView, TakeFirst, Broadcast, after_take}
use Rattle.parallel_pool.proofs.rayon.job_seat.JobSeat.take_broadcast.Goals as goal

pub returns : goal.returns
returns g c =
    let long : length c.self.inside.broadcasts.items ≡ length c.args.self.now.broadcasts =
    ap (λ (s : SeatView _). length s.broadcasts) c.self.view_is in
    let read =
    get_or_read_under c.self.inside.broadcasts.items c.args.worker _ _ new_pass
    c.index_mut.ensures.value (omega (arith, c.requires, long, c.self.inside.broadcasts.ok.0))
    c.self.inside.broadcasts.ok.0 in
    after_take (Broadcast c.args.worker)
    (λ job v w. HasTaken TakeFirst g.U.Purpose.called v job w) _ _ _ _ _ c.self.view_is read
    c.take.ensures
