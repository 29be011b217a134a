-- The items are the indices, so each result is the one for its own index.
use Rattle.parallel_pool.proofs.{◌≡◌, ◌<◌, ◌+◌, ap, arith, get_or, length, subst, sym, ◌∙◌}
use Rattle.std.proofs.lemmas.List.FromFn.{get_or-range_with_len, length-range_with_len}
use Rattle.parallel_pool.specs.Broadcast.{context}
use Rattle.parallel_pool.specs.ThreadPool.{thread_count}
use Rattle.parallel_pool.proofs.rayon.thread_pool.ThreadPool.broadcast.Goals as goal

pub map_in_row-requires-after_bounds : goal.map_in_row-requires-after_bounds
map_in_row-requires-after_bounds g c κs within i x h is =
    let n = c.current_num_threads-num_threads.result in
    let count = c.current_num_threads-num_threads.ensures.count in
    let all = c.in_ok-indices.ensures in
    let here : i < n = omega (arith, h, ap length all, length-range_with_len 0 n) in
    let same : x ≡ 0 + i =
    is ∙ (ap (λ ns. get_or ns i x) all ∙ get_or-range_with_len 0 n i x here) in
    subst (λ m. g.F.Fn.pre c.args.op.now (context x m, tt)) (sym count)
    (c.requires x (omega (arith, here, same, count)))

pub returns-clause-count : goal.returns-clause-count
returns-clause-count g c =
    let n = c.current_num_threads-num_threads.result in
    omega (
      arith,
      c.in_ok-answers.ensures.len,
      c.in_ok-indices.indices.ok.0,
      ap length c.in_ok-indices.ensures,
      length-range_with_len 0 n,
      c.current_num_threads-num_threads.ensures.count,
    )

pub returns-clause-each : goal.returns-clause-each
returns-clause-each g c index other h =
    let n = c.current_num_threads-num_threads.result in
    let count = c.current_num_threads-num_threads.ensures.count in
    let all = c.in_ok-indices.ensures in
    let answer = get_or c.in_ok-answers.answers.items index other in
    let below : index < n = omega (arith, h, count) in
    let here : index < length c.in_ok-indices.indices.items = omega (
      arith,
      below,
      ap length all,
      length-range_with_len 0 n,
    ) in
    let given = (c.in_ok-answers.ensures.each index other here).1 in
    let at : given.job ≡ 0 + index =
    sym (given.job_is index)
    ∙ (ap (λ ns. get_or ns index index) all ∙ get_or-range_with_len 0 n index index below) in
    let same : given.job ≡ index = omega (arith, at) in
    subst (λ k. g.F.Fn.post c.args.op.now (context k (thread_count c.args.self.now), tt) answer)
    same
    (subst (λ m. g.F.Fn.post c.args.op.now (context given.job m, tt) answer) count given.call.met)
