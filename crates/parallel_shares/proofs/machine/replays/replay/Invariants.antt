-- The outcomes so far are those of the events so far, and lead from the opening to the state.
use Rattle.parallel_shares.proofs.{take, opening, IsStateOf, Replays}
use Rattle.parallel_shares.proofs.machine.replays.replay.Given as goal

abbrev pub invariant-loop-event : goal.invariant-loop-event
invariant-loop-event l = record {
  belongs : IsStateOf l.plan l.state;
  replayed : Replays l.plan (opening l.plan) (take l.event-index l.events) l.outcomes.items l.state;
}
