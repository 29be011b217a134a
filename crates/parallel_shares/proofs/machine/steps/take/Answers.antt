-- The outcome of each event tells what it moves, and keeps what belongs to the plan.
use Rattle.parallel_shares.proofs.{Load, Claim, Steal, Refill, IsStateOf, ClaimAnswers, StepsByMoves, answers_keep, answers_move, unmoved, either_way}
use Rattle.parallel_shares.proofs.machine.steps.take.Goals as goal

pub returns-in-Load-clause-moves : goal.returns-in-Load-clause-moves
returns-in-Load-clause-moves c =
    answers_move c.args.plan.now c.args.rows.now c.requires
    (Load c.in-Load.seat c.in-Load.share) c.load.result c.load.new.rows c.load.ensures

pub returns-in-Load-clause-belongs : goal.returns-in-Load-clause-belongs
returns-in-Load-clause-belongs c =
    answers_keep c.args.plan.now c.args.rows.now c.requires
    (Load c.in-Load.seat c.in-Load.share) c.load.result c.load.new.rows c.load.ensures

pub returns-in-Claim-clause-moves : goal.returns-in-Claim-clause-moves
returns-in-Claim-clause-moves c =
    let plan = c.args.plan.now in
    let old = c.args.rows.now in
    let new = c.claim.new.rows in
    either_way old new c.claim.result (λ o. ClaimAnswers plan old c.in-Claim.seat o new)
    (λ m. StepsByMoves plan old m) c.claim.ensures.answers c.claim.ensures.unchanged
    (λ o a. answers_move plan old c.requires (Claim c.in-Claim.seat) o new a) (unmoved plan old)

pub returns-in-Claim-clause-belongs : goal.returns-in-Claim-clause-belongs
returns-in-Claim-clause-belongs c =
    let plan = c.args.plan.now in
    let old = c.args.rows.now in
    let new = c.claim.new.rows in
    either_way old new c.claim.result (λ o. ClaimAnswers plan old c.in-Claim.seat o new)
    (λ m. IsStateOf plan m) c.claim.ensures.answers c.claim.ensures.unchanged
    (λ o a. answers_keep plan old c.requires (Claim c.in-Claim.seat) o new a) c.requires

pub returns-in-Steal-clause-moves : goal.returns-in-Steal-clause-moves
returns-in-Steal-clause-moves c =
    answers_move c.args.plan.now c.args.rows.now c.requires
    (Steal c.in-Steal.seat) c.steal.result c.steal.new.rows c.steal.ensures

pub returns-in-Steal-clause-belongs : goal.returns-in-Steal-clause-belongs
returns-in-Steal-clause-belongs c =
    answers_keep c.args.plan.now c.args.rows.now c.requires
    (Steal c.in-Steal.seat) c.steal.result c.steal.new.rows c.steal.ensures

pub returns-in-Refill-clause-moves : goal.returns-in-Refill-clause-moves
returns-in-Refill-clause-moves c =
    answers_move c.args.plan.now c.args.rows.now c.requires
    (Refill c.in-Refill.seat) c.refill.result c.refill.new.rows c.refill.ensures

pub returns-in-Refill-clause-belongs : goal.returns-in-Refill-clause-belongs
returns-in-Refill-clause-belongs c =
    answers_keep c.args.plan.now c.args.rows.now c.requires
    (Refill c.in-Refill.seat) c.refill.result c.refill.new.rows c.refill.ensures
