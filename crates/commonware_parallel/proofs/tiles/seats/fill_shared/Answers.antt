-- The seats are all back with nothing left to claim, so that each cell was claimed once.
use Rattle.commonware_parallel.proofs.{sym, subst, stateful_steps, Ends, Fills, WorksFrom, AreSeatsOf, AllDone, EachCellOnce, positive, all_came, seats_back, all_done, chains_of, rectangle}
use Rattle.commonware_parallel.proofs.tiles.seats.fill_shared.Goals as goal

pub close-words-requires : goal.close-words-requires
close-words-requires g c =
    let step = WorksFrom c.args.shares c.args.len (Fills (goal.L-post g c.args.fill.now))
    (Ends g.Q.Part.part_of (goal.F-post g c.args.finish.now)) in
    let h = stateful_steps (goal.N-post g c.args.init) _ step (λ p x y q h. h) c.args.seats.items
    c.in_ok-worked.worked.items c.in_ok-worked.ensures.stateful in
    let z = all_came _ _ _ _ _ h in
    subst (AreSeatsOf c.args.shares) (sym c.in_ok-seats.ensures.seats)
    (seats_back _ _ _ _ _ c.args.seats.items c.in_ok-worked.worked.items z c.requires.seats)

pub returns-clause-fills : goal.returns-clause-fills
returns-clause-fills g c work same planned =
    let shares = c.args.shares in
    let worked = c.in_ok-worked.worked.items in
    let step = WorksFrom c.args.shares c.args.len (Fills (goal.L-post g c.args.fill.now))
    (Ends g.Q.Part.part_of (goal.F-post g c.args.finish.now)) in
    let h = stateful_steps (goal.N-post g c.args.init) _ step (λ p x y q h. h) c.args.seats.items
    c.in_ok-worked.worked.items c.in_ok-worked.ensures.stateful in
    let all = c.in_ok-seats.ensures.results in
    let results = c.in_ok-seats.results.items in
    let wide = positive c.args.len c.requires.some_columns in
    let z = all_came _ _ _ _ _ h in
    let back = c.in_ok-seats.ensures.seats in
    let once = c.close-words.ensures.each_once
    (subst AllDone (sym back) (all_done _ _ _ _ _ c.args.seats.items worked z results all)) in
    let chains = chains_of _ _ _ _ _ work same planned wide h results all in (
      chains.0,
      (
        rectangle _ _ _ _ _ work same planned wide chains.0 worked chains.2
            (subst (EachCellOnce shares.plan) back once),
        chains.2.rows,
        chains.1,
      ),
    )
