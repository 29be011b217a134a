-- The seats are all back and have seen their words empty, so the lists have each cell once.
use Rattle.shapes_command.proofs.{sym, subst, AreSeatsOf, AllDone, EachCellOnce, seats_back, all_done, lists_have_each}
use Rattle.shapes_command.proofs.drain.gather.Goals as goal

pub close-words-requires : goal.close-words-requires
close-words-requires c =
    subst (AreSeatsOf c.args.shares) (sym c.in_ok-seats.ensures.seats)
    (seats_back c.args.shares c.args.drained.items c.requires)

pub returns-clause-empty : goal.returns-clause-empty
returns-clause-empty c =
    c.close-words.ensures.empty (subst AllDone (sym c.in_ok-seats.ensures.seats)
    (all_done c.args.shares c.args.drained.items c.requires))

pub returns-clause-each_once : goal.returns-clause-each_once
returns-clause-each_once c =
    let shares = c.args.shares in
    let drained = c.args.drained.items in
    let back = c.in_ok-seats.ensures.seats in
    let once = c.close-words.ensures.each_once
    (subst AllDone (sym back) (all_done shares drained c.requires)) in
    lists_have_each shares drained c.requires c.in_ok-seats.cells.items
    (subst (EachCellOnce shares.plan) back once) c.in_ok-seats.ensures.cells
