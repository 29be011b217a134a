-- Each event adds its outcome, and what was replayed is reached by a run from the opening.
use Rattle.parallel_shares.proofs.{◌++◌, ◌∷◌, [], List, get_or, take, subst, take_more, take_all, Event, Load, opening, Replays, opening_is_state, replays_more, one_each, reached_first, replays_reach}
use Rattle.parallel_shares.proofs.machine.replays.replay.Goals as goal
use Rattle.parallel_shares.proofs.machine.replays.replay.Goals.{After-loop-event}

pub loop-event-preserved : goal.loop-event-preserved
loop-event-preserved c =
    let plan = c.args.plan.now in
    let events = c.args.events.now in
    let i = c.loop-event.event-index in
    let belongs = c.loop-event.invariant.belongs in
    let event : Event = get_or events i (Load 0 0) in
    let so_far = c.loop-event.outcomes.items in
    let outcome = c.in_ok-step.field-0 in
    let more : Replays plan (opening plan) (take i events ++ event ∷ [])
    (so_far ++ outcome ∷ []) c.step.new.state = replays_more plan (take i events) so_far
    (opening plan) c.loop-event.state c.step.new.state event outcome
    c.loop-event.invariant.replayed (c.in_ok-step.ensures.answers belongs) in
    record {
      belongs = c.step.ensures.belongs belongs;
      replayed =
          rw (take_more events i (Load 0 0) c.loop-event-test.true, c.in_ok-push.ensures.items)
          more;
    }

-- all events are replayed
replayed : (c : After-loop-event) → Replays c.args.plan.now
    (opening c.args.plan.now) c.args.events.now c.loop-event.outcomes.items c.loop-event.state
replayed c =
    subst (λ (es : List Event). Replays c.args.plan.now
    (opening c.args.plan.now) es c.loop-event.outcomes.items c.loop-event.state)
    (take_all c.loop-event.event-index c.args.events.now c.loop-event-test.false)
    c.loop-event.invariant.replayed

pub returns-clause-outcomes : goal.returns-clause-outcomes
returns-clause-outcomes c = replayed c

pub returns-clause-run : goal.returns-clause-run
returns-clause-run c =
    let plan = c.args.plan.now in
    let sound = c.loop-event.invariant.belongs.sound in
    (replays_reach plan c.args.events.now c.loop-event.outcomes.items
    (opening plan) c.loop-event.state (replayed c) (opening_is_state plan sound)
    (reached_first plan sound)).1

pub returns-clause-one_each : goal.returns-clause-one_each
returns-clause-one_each c =
    one_each c.args.plan.now c.args.events.now c.loop-event.outcomes.items
    (opening c.args.plan.now) c.loop-event.state (replayed c)
