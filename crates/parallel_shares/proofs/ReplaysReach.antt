-- What a replay shows is reached by a run of moves from the opening.
use Rattle.parallel_shares.proofs.Common.{◌≡◌, suc, List, [], ◌∷◌, ◌++◌, length, Result, Ok, Err, IfOk, OnErr, refl, sym, ap, subst, Event, Outcome, Sizes, IsSound, Machine, opening, IsStateOf}
use Rattle.parallel_shares.proofs.Common.{Answers, Replays, Holders, Move, Leads, StepsByMoves, Reached}
use Rattle.parallel_fault.specs.declared.fault.Fault.{Fault}
use Rattle.parallel_shares.proofs.EventsKeepState.{answers_keep}
use Rattle.parallel_shares.proofs.EventsMoveUnits.{answers_move}
use Rattle.parallel_shares.proofs.Openings.{first, first_is_opening, opening_shows}

-- what holds after an event, and where a refusal left the machine as it was, holds afterwards
pub either_way : (old new : Machine) (result : Result Outcome Fault) (A : Outcome → Type 0)
    (P : Machine → Type 0) → IfOk result A → OnErr result (new ≡ old)
    → ((outcome : Outcome) → A outcome → P new) → P old → P new
either_way old new (Ok outcome) A P a u f p = f outcome a
either_way old new (Err fault) A P a u f p = subst P (sym u) p

-- one more event at the end
pub replays_more : (sizes : Sizes) (events : List Event) (outcomes : List Outcome)
    (before after next : Machine) (event : Event) (outcome : Outcome)
    → Replays sizes before events outcomes after → Answers sizes after event outcome next
    → Replays sizes before (events ++ event ∷ []) (outcomes ++ outcome ∷ []) next
replays_more sizes [] [] before after next event outcome r a =
    let P : Machine → Type 0 = λ m. Answers sizes m event outcome next in (next, subst P r a, refl)
replays_more sizes (e ∷ es) (o ∷ os) before after next event outcome r a =
    (r.0, r.1, replays_more sizes es os r.0 after next event outcome r.2 a)
replays_more sizes [] (o ∷ os) before after next event outcome r a = absurd r
replays_more sizes (e ∷ es) [] before after next event outcome r a = absurd r

-- there is an outcome for each event
pub one_each : (sizes : Sizes) (events : List Event) (outcomes : List Outcome)
    (before after : Machine) → Replays sizes before events outcomes after
    → length outcomes ≡ length events
one_each sizes [] [] before after r = refl
one_each sizes (e ∷ es) (o ∷ os) before after r = ap suc (one_each sizes es os r.0 after r.2)
one_each sizes [] (o ∷ os) before after r = absurd r
one_each sizes (e ∷ es) [] before after r = absurd r

-- moves that lead on from where moves led
leads_on : (sizes : Sizes) (early late : List Move) (a b c : Holders) → Leads sizes early a b
    → Leads sizes late b c → (moves : List Move) × Leads sizes moves a c
leads_on sizes early [] a b c l m =
    let P : Holders → Type 0 = λ h. Leads sizes early a h in
    (early, subst P (sym m) l)
leads_on sizes early (x ∷ xs) a b c l m =
    let on = leads_on sizes early xs a b m.0 l m.1 in
    (x ∷ on.0, (m.0, on.1, m.2))

-- before any event nothing has moved
pub reached_first : (sizes : Sizes) → IsSound sizes → Reached sizes (opening sizes)
reached_first sizes sound = (
  [],
  first sizes sound,
  (first sizes sound, first_is_opening sizes sound, refl),
  opening_shows sizes sound,
)

-- what a machine reaches, an event leads on from
reached_more : (sizes : Sizes) (old new : Machine) → Reached sizes old → StepsByMoves sizes old new
    → Reached sizes new
reached_more sizes old new (moves, holders, run, shows) steps =
    let next = steps holders shows in
    let on = leads_on sizes moves next.0 run.0 holders next.1 run.2 next.2 in
    (on.0, next.1, (run.0, run.1, on.1), next.3)

-- what is replayed belongs to the plan, and is reached by a run
pub replays_reach : (sizes : Sizes) (events : List Event) (outcomes : List Outcome)
    (before after : Machine) → Replays sizes before events outcomes after → IsStateOf sizes before
    → Reached sizes before → IsStateOf sizes after × Reached sizes after
replays_reach sizes [] [] before after r s h =
    let P : Machine → Type 0 = λ m. IsStateOf sizes m × Reached sizes m in subst P (sym r) (s, h)
replays_reach sizes (e ∷ es) (o ∷ os) before after r s h =
    replays_reach sizes es os r.0 after r.2 (answers_keep sizes before s e o r.0 r.1)
    (reached_more sizes before r.0 h (answers_move sizes before s e o r.0 r.1))
replays_reach sizes [] (o ∷ os) before after r s h = absurd r
replays_reach sizes (e ∷ es) [] before after r s h = absurd r
