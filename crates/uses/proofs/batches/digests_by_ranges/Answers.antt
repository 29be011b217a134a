-- Each range lies in the list, and its part has the digests of its messages.
use Rattle.std.proofs.Common.{arith, ℕ, List, Bor, sym}
use Rattle.std.proofs.lemmas.Result.{on_ok_weaker}
use Rattle.sha2.specs.Sha256.{sha256}
use Rattle.uses.proofs.FilledParts.{filled_by_parts, part_within}
use Rattle.uses.proofs.batches.digests_by_ranges.Goals as goal

pub for_each_mut-requires-clause-accepts : goal.for_each_mut-requires-clause-accepts
for_each_mut-requires-clause-accepts g c κs bounds = λ n d inside p is.
    let fits =
    part_within _ c.args.digests.now c.in_ok-batches.ensures.balanced.0 n d inside p.now is in
    omega (arith, fits, c.requires)

pub returns-clause-digests : goal.returns-clause-digests
returns-clause-digests g c =
    on_ok_weaker c.for_each_mut.result
    (λ changed. filled_by_parts (λ (message : Bor (List ℕ)). sha256 message.now)
    c.args.messages.now _ _ _ (sym c.requires) c.in_ok-batches.ensures.balanced.0 changed
    (λ start p q k. k))
    c.for_each_mut.ensures.changes
