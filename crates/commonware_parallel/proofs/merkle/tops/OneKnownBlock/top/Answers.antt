-- One item came, and its leaf is its own top.
use Rattle.commonware_parallel.proofs.{◌∷◌, [], refl, leaf_top}
use Rattle.commonware_parallel.proofs.merkle.tops.OneKnownBlock.top.Goals as goal

pub returns : goal.returns
returns g c = let next = c.in-Some.ensures in record {
  top = (
    c.in-Some.item ∷ [],
    refl,
    (next.ready, next.item, next.others, next.leaves),
    (
      c.leaf.result ∷ [],
      (c.leaf.ensures, tt),
      leaf_top (goal.F-post g c.args._combine.now) c.leaf.result,
    ),
  );
}
