-- One more item waits.
use Rattle.std.proofs.Common.{◌++◌, ◌∷◌, [], ap, sym, ◌∙◌}
use Rattle.std.proofs.lemmas.List.{map-append}
use Rattle.parallel_pool.specs.InRow.{waits}
use Rattle.parallel_pool.proofs.rayon.in_row.waiting.Goals as goal

pub loop-item-preserved : goal.loop-item-preserved
loop-item-preserved g c =
    c.in_ok-push.ensures.items ∙ (ap (λ ps. ps ++ waits c.in-Some.item ∷ []) c.loop-item.invariant
    ∙ sym (map-append waits c.loop-item.yielded (c.in-Some.item ∷ [])))
