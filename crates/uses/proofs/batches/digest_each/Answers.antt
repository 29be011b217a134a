-- Two lists of one length that are equal at each index are equal.
use Rattle.std.proofs.Common.{arith, ℕ, List, [], Bor}
use Rattle.std.proofs.lemmas.List.{ext_get_or, length-map}
use Rattle.sha2.specs.Sha256.{sha256}
use Rattle.uses.specs.Batches.{digests_of}
use Rattle.uses.proofs.batches.digest_each.Goals as goal

pub returns : goal.returns
returns c =
    let same = length-map c.args.messages.now (λ (message : Bor (List ℕ)). sha256 message.now) in
    let long = c.loop-k.auto.digests in
    ext_get_or [] c.loop-k.digests (digests_of c.args.messages.now)
    (omega (arith, same, long, c.requires))
    (λ j inside. c.loop-k.invariant j (omega (arith, inside, long, c.loop-k-test.false)))
