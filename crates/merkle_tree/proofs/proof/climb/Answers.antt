-- Each step leads on.
use Rattle.std.proofs.Common.{sym, ◌∙◌, arith}
use Rattle.merkle_tree.specs.Merkle.{node_digest}
use Rattle.merkle_tree.proofs.ClimbSteps.{ends, leads_nowhere, goes_on, too_few, too_many}
use Rattle.merkle_tree.proofs.proof.climb.Goals as goal

pub returns-then-nodes-le1 : goal.returns-then-nodes-le1
returns-then-nodes-le1 c =
    (too_many node_digest c.args.steps.now c.loop-step.step-index _ _ _ _ (omega arith)
    (omega arith) c.loop-step.invariant.0)

pub returns-in_err-reached : goal.returns-in_err-reached
returns-in_err-reached c =
    c.from_residual.ensures
    ∙ leads_nowhere node_digest c.args.steps.now c.loop-step.step-index _ _ _ _ (omega arith)
    (omega arith) (sym c.in_err-reached.ensures) c.loop-step.invariant.0

pub loop-step-preserved : goal.loop-step-preserved
loop-step-preserved c =
    let led = goes_on node_digest c.args.steps.now c.loop-step.step-index _ _ _ _ _ (omega arith)
    (omega arith) (sym c.in_ok-reached.ensures) c.loop-step.invariant.0 in (
      rw c.div_ceil-nodes.ensures led,
      omega (arith, c.loop-step.invariant.1, c.div_ceil-nodes.ensures),
    )

pub returns-then-nodes-le1-2 : goal.returns-then-nodes-le1-2
returns-then-nodes-le1-2 c =
    (ends node_digest c.args.steps.now c.loop-step.step-index _ _ _ _ (omega arith)
    (omega arith) c.loop-step.invariant.0)

pub returns-else-nodes-le1-2 : goal.returns-else-nodes-le1-2
returns-else-nodes-le1-2 c =
    (too_few node_digest c.args.steps.now c.loop-step.step-index _ _ _ _ (omega arith)
    (omega arith) c.loop-step.invariant.0)
