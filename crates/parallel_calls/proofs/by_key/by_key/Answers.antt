-- Each key is the one that the function gives.
use Rattle.std.proofs.Common.{◌∙◌, refl}
use Rattle.std.proofs.lemmas.Fn.{says_at}
use Rattle.parallel_calls.proofs.by_key.by_key.Goals as goal

pub returns : goal.returns
returns g c key_of goes =
    let left = goes c.args.left.now c.key-one.result (says_at g.F.Fn c.key-one.ensures refl) in
    let right = goes c.args.right.now c.key-other.result
    (says_at g.F.Fn c.key-other.ensures refl) in
    c.cmp.ensures ∙ (λ i. g.K.Ord.cmp (left i) (right i))
