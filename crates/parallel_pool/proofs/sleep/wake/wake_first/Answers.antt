-- Each worker that the walk comes to is woken, or passed over for being awake or one too many.
use Rattle.parallel_pool.proofs.{arith, sym, ap, ◌≡◌, ◌∙◌, ◌<◌, ◌≤◌, length, take, starts_waking, wakes_one, passes_awake, passes_all, all_below, blocked_below}
use Rattle.parallel_pool.proofs.sleep.wake.wake_first.Goals as goal
use Rattle.parallel_pool.proofs.sleep.wake.wake_first.Goals.{then-len-most+then-is_blocked, else-len-most, else-len-most-via-then-len-most+else-is_blocked, else-len-most-via-else-len-most}

pub loop-worker-init : goal.loop-worker-init
loop-worker-init c = record {
  woken = rw c.clear.ensures.items (starts_waking c.args.most c.args.standings.now);
  few = omega (arith, c.clear.ensures.len);
  room = c.clear.ensures.capacity;
}

pub loop-worker-preserved : goal.loop-worker-preserved
loop-worker-preserved c =
    let so_far = c.loop-worker.invariant.woken in
    let there : c.loop-worker.worker < length c.loop-worker.standings =
    omega (arith, c.loop-worker-test.true, c.loop-worker.auto.standings) in
    elim c.if-len-most.branch [
      | then-len-most+then-is_blocked w ↦
          let few : length c.loop-worker.woken.items < c.args.most =
          omega (arith, w.if-len-most.true, c.len.ensures, c.loop-worker.woken.ok.0) in
          rw (w.standings-is, w.woken-is, w.push_reserved.ensures.items) (record {
            woken = wakes_one _ _ _ _ _ so_far there few
                (sym w.is_blocked.ensures ∙ w.if-is_blocked.true);
            few = omega (arith, w.push_reserved.ensures.len, c.loop-worker.invariant.few);
            room = w.push_reserved.ensures.capacity ∙ c.loop-worker.invariant.room;
          })
      | else-len-most w ↦ rw (w.standings-is, w.woken-is) (record {
        woken = elim w.else-len-most.branch [
          | else-len-most-via-then-len-most+else-is_blocked w' ↦ passes_awake _ _ _ _ _ so_far there
              (sym w'.is_blocked.ensures ∙ w'.if-is_blocked.false)
          | else-len-most-via-else-len-most w' ↦
              let enough : c.args.most ≤ length c.loop-worker.woken.items =
              omega (arith, w'.if-len-most.false, c.len.ensures, c.loop-worker.woken.ok.0) in
              passes_all _ _ _ _ _ so_far there enough
        ];
        few = omega (arith, c.loop-worker.invariant.few);
        room = c.loop-worker.invariant.room;
      })
    ]

pub returns-clause-woken : goal.returns-clause-woken
returns-clause-woken c =
    let all : c.loop-worker.worker ≡ length c.args.standings.now =
    omega (arith, c.loop-worker-test.false, c.loop-worker.auto.worker-end) in
    c.loop-worker.invariant.woken.first
    ∙ ap (take c.args.most) (ap (λ i. blocked_below i c.args.standings.now) all
    ∙ all_below c.args.standings.now)
