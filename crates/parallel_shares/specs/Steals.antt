-- What a try to steal tells: which shares it loaded, and which of them is the victim.
use Rattle.std.specs.Prelude.{◌≡◌, ◌≢◌, ℕ, ◌+◌, ◌<◌, ◌≤◌, ◌⊎◌, length, Option, [], ◌∷◌, ◌++◌, true, Some, None, IfSome, IsSomeAnd}
use Rattle.parallel_shares.specs.declared.shares.rule.View.{View}
use Rattle.parallel_shares.specs.declared.shares.seat.Seat.{Seat}
use Rattle.parallel_shares.specs.declared.shares.seat.Tried.{Tried}
use Rattle.parallel_shares.specs.declared.shares.seat.Tried.TheVariants.{Claimed, Empty, Lost, Taken, Nothing}
use Rattle.parallel_shares.specs.declared.shares.steal.Victim.{Victim}
use Rattle.std.specs.declared.ops.Range.{Range}
use Rattle.parallel_shares.specs.declared.shares.Shares.{Shares}
use Rattle.parallel_shares.specs.Best.{IsBestOf, Precedes}
use Rattle.parallel_shares.specs.Words.{IsWithin, IsEmptyWord}
use Rattle.parallel_shares.specs.Sizes.{Sizes, shares_of, share_of}
use Rattle.parallel_shares.specs.Answers.{cells_in, Pays, claim_cells}
use Rattle.parallel_shares.specs.Sharing.{SomeSplitPays, loaded_at, loads_at, loads_since, back_half, took_back, missed}
use Rattle.parallel_shares.specs.Seats.{plan_of, own_share, own_word, own_loads, known, index_of, transit_of, has_emptied, claims_of, AreSomeCells, LoadsGrow, CountsSteps}

-- a plan of whole rows never splits a word, nor does a plan in which no opening word's split pays
abbrev pub NeverSplits : Sizes → Type 0
NeverSplits sizes = (sizes.whole ≡ true) ⊎ ¬ SomeSplitPays sizes

-- of the shares below a number each but one was loaded once more, as a range of units, whose split
-- pays only where some opening word's does; the others were not loaded
pub record LooksRound (sizes : Sizes) (own below : ℕ) (before after : View) : Type 0 where
  pub once : (k : ℕ) → k < below → k ≢ own → loads_at after k ≡ loads_at before k + 1
  pub since : (k : ℕ) → k < below → k ≢ own → loads_since after k ≡ loads_since before k + 1
  pub within : (k : ℕ) → k < below → k ≢ own → IsWithin sizes.units (loaded_at after k)
  pub splits : (k : ℕ) → k < below → k ≢ own → Pays sizes (loaded_at after k) → SomeSplitPays sizes
  pub others : (k : ℕ) → (k ≡ own) ⊎ (below ≤ k) → (loads_at after k ≡ loads_at before k)
      × (loaded_at after k ≡ loaded_at before k) × (loads_since after k ≡ loads_since before k)

-- a seat loaded each other share once, as `LooksRound` says
abbrev pub LoadsOthers : Shares → Seat → Seat → Type 0
LoadsOthers shares before after =
    LooksRound (plan_of shares) (own_share shares before) (shares_of (plan_of shares))
    (known before) (known after)

-- of the shares below a number but one, none has a loaded word whose split pays
abbrev pub NonePays : Sizes → ℕ → ℕ → View → Type 0
NonePays sizes own below view = (k : ℕ) → k < below → k ≢ own → ¬ Pays sizes (loaded_at view k)

-- of the shares below a number but one, this one has the loaded word with the most cells of those
-- whose split pays, the last of equals
abbrev pub IsVictim : Sizes → ℕ → ℕ → View → ℕ → Type 0
IsVictim sizes own below view share =
    (share ≢ own) × Pays sizes (loaded_at view share)
    × IsBestOf (λ k best. k ≢ own → Pays sizes (loaded_at view k)
    → Precedes (λ i. cells_in sizes (loaded_at view i)) k best) below share

-- the victim, with its loaded word, where there is one
abbrev pub IsBest : Sizes → ℕ → ℕ → View → Option Victim → Type 0
IsBest sizes own below view None = NonePays sizes own below view
IsBest sizes own below view (Some victim) =
    IsVictim sizes own below view victim.share × (loaded_at view victim.share ≡ victim.word)

-- the split of a word pays, and the word has no fewer cells than the best so far
abbrev pub IsBetter : Sizes → Option Victim → ℕ → Type 0
IsBetter sizes best word = Pays sizes word
    × IfSome best (λ victim. cells_in sizes victim.word ≤ cells_in sizes word)

-- the split of a word doesn't pay, or the best so far has more cells
abbrev pub IsNoBetter : Sizes → Option Victim → ℕ → Type 0
IsNoBetter sizes best word = (¬ Pays sizes word)
    ⊎ IsSomeAnd best (λ victim. cells_in sizes word < cells_in sizes victim.word)

-- a look round changes nothing but what was loaded
abbrev pub OnlyLooks : View → View → Type 0
OnlyLooks before after =
    (after ≡ record before { words = after.words; loads = after.loads; since = after.since })
    × (length after.words ≡ length before.words) × (length after.loads ≡ length before.loads)

-- an exchange at the victim met the word that was loaded and took its back half, or it met another
-- word and took nothing
abbrev pub MeetsBack : Victim → Seat → ℕ → Seat → Type 0
MeetsBack victim before found after =
    (found ≡ victim.word → (known after ≡ took_back (known before) victim.share victim.word)
    × (transit_of after ≡ Some (back_half victim.word)))
    × (found ≢ victim.word → (known after ≡ missed (known before) victim.share found)
    × (transit_of after ≡ transit_of before))

-- what a try to steal tells of the words that it loaded: the victim's back half was taken by an
-- exchange at the victim that met its word; or an exchange at the victim met another word; or no
-- split pays, and no exchange was tried
abbrev pub TriesSteal : Sizes → Seat → Tried → Seat → Type 0
TriesSteal sizes before Taken after =
    (victim : ℕ) × IsVictim sizes (share_of sizes (index_of before)) (shares_of sizes)
    (known after) victim
    × ((known after).met_at ≡ victim)
    × ((known after).met ≡ loaded_at (known after) victim)
    × (transit_of after ≡ Some (back_half (loaded_at (known after) victim)))
    × CountsSteps 1 1 before after
TriesSteal sizes before Lost after =
    (victim : ℕ) × IsVictim sizes (share_of sizes (index_of before)) (shares_of sizes)
    (known after) victim
    × ((known after).met_at ≡ victim)
    × ((known after).met ≢ loaded_at (known after) victim) × (transit_of after ≡ None)
    × CountsSteps 1 0 before after
TriesSteal sizes before Nothing after =
    NonePays sizes (share_of sizes (index_of before)) (shares_of sizes) (known after)
    × (transit_of after ≡ None) × CountsSteps 0 0 before after
TriesSteal sizes before (Claimed cells) after = ⊥
TriesSteal sizes before Empty after = ⊥

-- Since it was the seat `first`, the seat loaded its own word at least once more, and that word, as
-- it loaded it last, was empty. Since that load it loaded each other share once and its own not at
-- all, and no word that it met there has a split that pays. Nothing is in transit. So a seat that
-- looked round only before it last loaded its own word doesn't satisfy it.
pub record FoundNothing (shares : Shares) (first seat : Seat) : Type 0 where
  pub grows : LoadsGrow first seat
  pub again : own_loads shares first < own_loads shares seat
  pub empty : IsEmptyWord (own_word shares seat)
  pub since : (k : ℕ) → k < shares_of (plan_of shares) → k ≢ own_share shares seat
      → loads_since (known seat) k ≡ 1
  pub last : loads_since (known seat) (own_share shares seat) ≡ 0
  pub more : (k : ℕ) → k < shares_of (plan_of shares) → k ≢ own_share shares seat
      → loads_at (known first) k < loads_at (known seat) k
  pub within : (k : ℕ) → k < shares_of (plan_of shares) → k ≢ own_share shares seat
      → IsWithin (plan_of shares).units (loaded_at (known seat) k)
  pub none_pays : NonePays (plan_of shares) (own_share shares seat) (shares_of (plan_of shares))
      (known seat)
  pub emptied : has_emptied seat ≡ true
  pub transit : transit_of seat ≡ None

-- what a claim gained: the front of the word that the seat loaded last at its own share, which was
-- not empty and which its last exchange met there; or nothing, where there was nothing to be found
abbrev pub GainsClaim : Shares → Seat → Option (Range ℕ) → Seat → Type 0
GainsClaim shares before (Some cells) after =
    (claims_of after ≡ claims_of before ++ cells ∷ []) × AreSomeCells (plan_of shares) cells
    × (¬ IsEmptyWord (own_word shares after))
    × IsWithin (plan_of shares).units (own_word shares after)
    × (cells ≡ claim_cells (plan_of shares) (own_word shares after))
    × ((known after).met_at ≡ own_share shares after)
    × ((known after).met ≡ own_word shares after)
GainsClaim shares before None after =
    (claims_of after ≡ claims_of before) × FoundNothing shares before after

-- what a try to claim and, after an own word that was empty, to steal gained: what ends a claim, or
-- no claim yet
abbrev pub GainsTry : Shares → Seat → Tried → Seat → Type 0
GainsTry shares before (Claimed cells) after =
    GainsClaim shares before (Some cells) after × (transit_of after ≡ None)
GainsTry shares before Nothing after = GainsClaim shares before None after
GainsTry shares before _ after = claims_of after ≡ claims_of before
