-- The words and the seats are those of the opening, which belongs to the plan.
use Rattle.parallel_shares.proofs.{map, sym, subst, Machine, BalancedCut, range_of, IsStateOf, Shows, opening_balanced, first, first_is_opening, opening_is_state, opening_shows}
use Rattle.parallel_shares.proofs.machine.state.State.new.Goals as goal

pub returns-clause-belongs : goal.returns-clause-belongs
returns-clause-belongs c =
    let plan = c.args.plan.now in
    subst (λ m. IsStateOf plan m) (sym c.in_ok-rows.ensures.opening)
    (opening_is_state plan c.in_ok-rows.ensures.sound)

pub returns-clause-balanced : goal.returns-clause-balanced
returns-clause-balanced c =
    let plan = c.args.plan.now in
    subst (λ m. BalancedCut plan.units (map range_of m.words)) (sym c.in_ok-rows.ensures.opening)
    (opening_balanced plan c.in_ok-rows.ensures.sound)

pub returns-clause-shows : goal.returns-clause-shows
returns-clause-shows c =
    let plan = c.args.plan.now in
    let sound = c.in_ok-rows.ensures.sound in (
      first plan sound,
      first_is_opening plan sound,
      subst (λ m. Shows plan m (first plan sound)) (sym c.in_ok-rows.ensures.opening)
          (opening_shows plan sound),
    )

pub invariant_of-result : goal.invariant_of-result
invariant_of-result c =
    let plan = c.args.plan.now in
    subst (λ (m : Machine). IsStateOf m.plan m) (sym c.in_ok-rows.ensures.opening)
    (opening_is_state plan c.in_ok-rows.ensures.sound)
