-- A batch over as many ranges as a strategy took is some batch of the call.
use Rattle.commonware_parallel.proofs.Common.{◌≡◌, ◌<◌, ◌≤◌, ◌∙◌, ℕ, Bool, ap, subst, sym, non_zero_usize_get, IsInnerOf, IsBatch, OnSomeBatch, batches_call, place_of, ranges_of}
use Rattle.commonware_parallel.proofs.Common.{strategy_of, Batches, Call, Pick, Into}
use Rattle.parallel_fault.specs.declared.fault.Fault.{Fault}
use Rattle.parallel_policy.specs.declared.Site.{Site}
use Rattle.std.specs.declared.num.NonZeroUsize.{NonZeroUsize}

-- the call is the one that the strategy was asked about, and the batch goes through its inner one
pub on_some_batch : {S P : Type 0} (takes : S → Site → Call → Pick → Type 0)
    (refuses : S → Site → Call → Fault → Type 0) (plans threads : S → ℕ) (starts : S → Bool)
    (site_of : P → Site) (strategy inner : S) (place : P) (len : ℕ) (minimum : NonZeroUsize)
    (multiplier : ℕ) (allowed : Batches S P → Type 0) (call : Call) (planned parts : ℕ)
    (batches : Batches S P)
    → call ≡ batches_call planned len (non_zero_usize_get minimum) multiplier
    → planned ≡ plans strategy → 0 < parts → parts ≤ call.max_parts
    → takes strategy (site_of place) call (Into parts)
    → IsInnerOf takes refuses plans threads starts strategy inner
    → strategy_of batches ≡ inner → place_of batches ≡ place
    → IsBatch len parts (non_zero_usize_get minimum) (ranges_of batches) → allowed batches
    → OnSomeBatch takes refuses plans threads starts site_of strategy place len minimum multiplier
    allowed
on_some_batch takes refuses plans threads starts site_of strategy inner place len minimum
    multiplier allowed call planned parts batches asked number some fit chosen inner_is through
    placed batch answered =
    let least = non_zero_usize_get minimum in
    let P : Call → Type 0 = λ k. (parts ≤ k.max_parts)
    × takes strategy (site_of place) k (Into parts) in
    let taken = subst P (asked ∙ ap (λ n. batches_call n len least multiplier) number)
    (fit, chosen) in (
      parts,
      some,
      taken.0,
      taken.1,
      batches,
      batch,
      subst (IsInnerOf takes refuses plans threads starts strategy) (sym through) inner_is,
      placed,
      answered,
    )
