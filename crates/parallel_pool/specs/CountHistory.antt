-- The history of a count latch: which shares were given, one after another.
use Rattle.std.specs.Prelude.{◌≡◌, ℕ, ◌+◌, ◌-◌, ◌<◌, ◌≤◌, ◌==◌, List, [], ◌∷◌, ◌++◌, length, sum_by, count_by}
use mathlib.Core.Option.{some}
use lib.ListN.{get_elem?}
use Rattle.parallel_pool.specs.declared.latch.count_share.ShareView.{ShareView}
use Rattle.parallel_pool.specs.Histories.{Begins}

-- what a share knows that may give that many of the latch's shares, and has seen these gives
abbrev pub share_view : ℕ → ℕ → List ℕ → ShareView
share_view unspent of seen = record { unspent = unspent; of = of; seen = seen; heard = [] }

-- the first seat of a latch of n shares holds them all
abbrev pub founder : ℕ → ShareView
founder n = share_view n n []

-- what the first seat is left with when one share is cut off
abbrev pub one_less : ShareView → ShareView
one_less v = share_view (v.unspent - 1) v.of v.seen

-- a share that is cut off has seen no give
abbrev pub one_share : ShareView → ShareView
one_share v = share_view 1 v.of []

-- what a new seat knows that tells which gives a share has seen
abbrev pub telling_gives : ShareView → ShareView
telling_gives v = share_view 0 0 v.seen

-- what a share knows while it is told which gives another has seen
abbrev pub hearing_gives : ShareView → ShareView → ShareView
hearing_gives v w = record { unspent = v.unspent; of = v.of; seen = v.seen; heard = w.seen }

-- a seat that has no share and has seen no give
abbrev pub stranger : ShareView
stranger = share_view 0 0 []

-- how often a share stands in a history
abbrev pub times_given : ℕ → List ℕ → ℕ
times_given by log = count_by (λ other. other == by) log

-- a share may be given as often as before, and is one of as many
abbrev pub SameShare : ShareView → ShareView → Type 0
SameShare old new = (new.unspent ≡ old.unspent) × (new.of ≡ old.of)

-- a share has seen a beginning of the history, as has whom it hears, and does not stand in it while
-- it is unspent
pub record FitsShare (n : ℕ) (log : List ℕ) (by : ℕ) (v : ShareView) : Type 0 where
  pub seen : Begins log v.seen
  pub heard : Begins log v.heard
  pub of : 0 < v.unspent → v.of ≡ n
  pub fresh : 0 < v.unspent → times_given by log ≡ 0

-- there is one history of gives, in which each share stands at most once; the word is how many
-- shares are left, and the seats hold as many
pub record CountsAs (n : ℕ) (log words : List ℕ) (views : List ShareView) : Type 0 where
  pub word : words ≡ sum_by (λ v. v.unspent) views ∷ []
  pub left : sum_by (λ v. v.unspent) views + length log ≡ n
  pub fits : (by : ℕ) (v : ShareView) → get_elem? views by ≡ some v → FitsShare n log by v
  pub beyond : (by : ℕ) → length views ≤ by → times_given by log ≡ 0
  pub once : (by : ℕ) → times_given by log ≤ 1

-- such a history exists
abbrev pub IsCountOf : ℕ → List ℕ → List ShareView → Type 0
IsCountOf n words views = (log : List ℕ) × CountsAs n log words views

-- one give of a share that had seen `old`: the history now seen is what came before it, which
-- begins with all that the share had seen and does not have the share, and then the share
pub record GivesShare (before : List ℕ) (by : ℕ) (old new : ShareView) : Type 0 where
  pub begins : Begins before old.seen
  pub ends : new.seen ≡ before ++ by ∷ []
  pub first : times_given by before ≡ 0
  pub once : (other : ℕ) → times_given other new.seen ≤ 1
  pub spends : new.unspent + 1 ≡ old.unspent

-- a give that found that many shares left, its own among them
abbrev pub CountsFrom : ℕ → ShareView → ShareView → Type 0
CountsFrom found old new = (before : List ℕ) × (by : ℕ) × GivesShare before by old new
    × (found + length before ≡ old.of) × (new.of ≡ old.of) × (0 < found)

-- A share was given. The gives that it has seen now are those of a history that begins with all
-- that it had seen before and hasn't the share, and then the share; no share is in it twice; and
-- the share is spent. It is the last one exactly if these gives are as many as the latch's shares.
abbrev pub Given : ShareView → ShareView → Type 0
Given old new = (before : List ℕ) × (by : ℕ) × GivesShare before by old new

-- a look that found that many shares left, of a latch of which `about` tells
abbrev pub Sees : ℕ → ShareView → ShareView → Type 0
Sees found about new = (found + length new.seen ≡ about.of) × (new.of ≡ about.of)
    × (new.unspent ≡ 0) × ((by : ℕ) → times_given by new.seen ≤ 1)
