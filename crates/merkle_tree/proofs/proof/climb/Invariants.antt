-- The steps that are left lead on from here to where all of them lead.
use Rattle.std.proofs.Common.{◌≡◌, ◌<◌, drop}
use Rattle.merkle_tree.specs.Merkle.{climb, node_digest}
use Rattle.merkle_tree.proofs.proof.climb.Given as goal

abbrev pub invariant-loop-step : goal.invariant-loop-step
invariant-loop-step l =
    (climb node_digest l.nodes l.place l.reached (drop l.step-index l.steps)
    ≡ climb node_digest l.fn.count l.fn.index l.fn.own l.fn.steps) × (l.place < l.nodes)
