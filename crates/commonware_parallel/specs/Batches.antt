-- the ranges that a batch is run over
use Rattle.std.specs.Prelude.{◌≡◌, ◌≤◌, ◌<◌, ◌⊎◌, Bool, List, [], ◌∷◌, ℕ, length, All, Result, Ok, Err}
use Rattle.std.specs.Int.NonZero.{non_zero_usize_get}
use Rattle.std.specs.declared.num.NonZeroUsize.{NonZeroUsize}
use Rattle.std.specs.declared.ops.Range.{Range}
use Rattle.parallel_fault.specs.declared.fault.Fault.{Fault}
use Rattle.parallel_fault.specs.declared.fault.Fault.TheVariants.{Memory}
use Rattle.parallel_fault.specs.declared.fault.Trouble.{Trouble}
use Rattle.parallel_policy.specs.declared.Site.{Site}
use Rattle.parallel_shares.specs.Cut.{BalancedCut, range_length}
use Rattle.commonware_parallel.specs.Answers.{UnlessFaulty}
use Rattle.commonware_parallel.specs.Calls.{IsInnerOf, batches_call}
use Rattle.commonware_parallel.specs.declared.call.Call.{Call}
use Rattle.commonware_parallel.specs.declared.call.Pick.{Pick}
use Rattle.commonware_parallel.specs.declared.call.Pick.TheVariants.{Into}
use Rattle.commonware_parallel.specs.declared.batches.Batches.{Batches}

-- the ranges of indices, in order
abbrev pub ranges_of : {S P : Type 0} → Batches S P → List (Range ℕ)
ranges_of batches = batches.ranges.items

-- That many balanced ranges of the indices below len; if there are two or more, none is shorter
-- than the minimum, but a single one may be.
abbrev pub IsBatch : ℕ → ℕ → ℕ → List (Range ℕ) → Type 0
IsBatch len count minimum ranges = BalancedCut len ranges × (length ranges ≡ count)
    × (2 ≤ length ranges → All (λ range. minimum ≤ range_length range) ranges)

-- the strategy that the parts of a batch go through, and its call site
abbrev pub strategy_of : {S P : Type 0} → Batches S P → S
strategy_of batches = batches.strategy.now

abbrev pub place_of : {S P : Type 0} → Batches S P → P
place_of batches = batches.site

-- the batch of one range that has all indices below len, through the strategy and with the site
abbrev pub IsWholeBatch : {S P : Type 0} → S → P → ℕ → Batches S P → Type 0
IsWholeBatch strategy place len batches =
    (ranges_of batches ≡ record { start = 0; end = len } ∷ [])
    × (strategy_of batches ≡ strategy) × (place_of batches ≡ place)

-- What a batch call may return: for some number of parts that the strategy may take for its
-- `batches_call`, `allowed` holds of a batch of that many ranges (`IsBatch`), over an inner
-- strategy (`IsInnerOf`) and with the call's site.
abbrev pub OnSomeBatch : {S P : Type 0} (takes : S → Site → Call → Pick → Type 0)
    (refuses : S → Site → Call → Fault → Type 0) (plans threads : S → ℕ) (starts : S → Bool)
    (site_of : P → Site) (strategy : S) (place : P) (len : ℕ) (minimum : NonZeroUsize)
    (multiplier : ℕ) (allowed : Batches S P → Type 0) → Type 0
OnSomeBatch takes refuses plans threads starts site_of strategy place len minimum multiplier
    allowed = (parts : ℕ)
    × (0 < parts)
    × (parts ≤
    (batches_call (plans strategy) len (non_zero_usize_get minimum) multiplier).max_parts)
    × takes strategy (site_of place)
    (batches_call (plans strategy) len (non_zero_usize_get minimum) multiplier) (Into parts)
    × (batches : Batches _ _) × IsBatch len parts (non_zero_usize_get minimum) (ranges_of batches)
    × IsInnerOf takes refuses plans threads starts strategy (strategy_of batches)
    × (place_of batches ≡ place) × allowed batches

-- a refusal of what prepares the items, or no memory after items that were prepared
abbrev pub FailsPrepared : {X : Type 0} → (Result X Fault → Type 0) → Fault → Type 0
FailsPrepared {X = X} prepares fault = ((fault ≡ Memory) × (items : X) × prepares (Ok items))
    ⊎ prepares (Err fault)

-- an outcome that is allowed for items that were prepared, or such a refusal
abbrev pub AnswersPrepared : {X R E : Type 0} → (Result X Fault → Type 0)
    → (X → Result R E → Type 0) → Result R (Trouble E) → Type 0
AnswersPrepared {X = X} prepares allowed result = UnlessFaulty result
    (λ out. (items : X) × prepares (Ok items) × allowed items out) (FailsPrepared prepares)
