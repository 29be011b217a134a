-- Two neighbours have one node above them, and an odd last node goes up unchanged.
use Rattle.std.proofs.Common.{◌*◌, ◌+◌, ◌∙◌, [], arith, refl, sym}
use Rattle.merkle_tree.specs.Merkle.{node_digest}
use Rattle.merkle_tree.proofs.Levels.{above_alone, above_pair}
use Rattle.merkle_tree.proofs.build.node_above.Goals as goal

pub returns-then-left-below : goal.returns-then-left-below
returns-then-left-below c =
    c.node_digest.ensures
    ∙ sym (above_pair node_digest [] c.args.below.now c.args.place (2 * c.args.place)
    (2 * c.args.place + 1) refl refl c.if-left-below.true)

pub returns-else-left-below : goal.returns-else-left-below
returns-else-left-below c =
    sym (above_alone node_digest [] c.args.below.now c.args.place (2 * c.args.place) refl
    (omega (arith, c.requires, c.if-left-below.false)))
