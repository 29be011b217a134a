-- results of stretches that fall into chains, each from a fresh state
use Rattle.std.specs.Prelude.{◌≡◌, ℕ, zero, suc, List, [], ◌∷◌, ◌++◌}
use Rattle.std.specs.declared.ops.Range.{Range}
use Rattle.parallel_shares.specs.declared.shares.stretch.Stretch.{Stretch}
use Rattle.parallel_shares.specs.Fillings.{Finished}
use Rattle.commonware_parallel.specs.Rectangles.{whole_row}

-- Stretches and results fall into the same chains. A chain begins with a value of `init`; each of
-- its stretches is filled from the current state, column after column, and `ends` gives its result
-- and leaves the state with which the next stretch begins.
pub data Chains {T R : Type 0} (init : T → Type 0) (fill : T → ℕ → Range ℕ → T → Type 0)
    (ends : T → Stretch → R → T → Type 0) : List Stretch → List R → Type 0 where
  no_chain : Chains init fill ends [] []
  more_chains : (s t : T) (xs more : List Stretch) (rs rest : List R)
      {all : List Stretch} {results : List R} → all ≡ xs ++ more → results ≡ rs ++ rest → init s
      → Finished fill ends s xs rs t → Chains init fill ends more rest
      → Chains init fill ends all results

-- the rows below a number one after another, with a state that goes from s to t: each is filled by
-- one call, of all of its columns, and then finished
abbrev pub WholeRows : {T R : Type 0} → (T → ℕ → Range ℕ → T → Type 0)
    → (T → Stretch → R → T → Type 0) → ℕ → T → ℕ → List R → T → Type 0
WholeRows fill ends len s zero results t = (s ≡ t) × (results ≡ [])
WholeRows {T = T} {R = R} fill ends len s (suc row) results t =
    (u v : T) × (before : List R) × (r : R) × WholeRows fill ends len s row before u
    × fill u row (record { start = 0; end = len }) v × ends v (whole_row len row) r t
    × (results ≡ before ++ r ∷ [])

-- the results are those of all rows, whole and in order, by one chain from a fresh state, with one
-- fill for each row
abbrev pub OneChain : {T R : Type 0} → (T → Type 0) → (T → ℕ → Range ℕ → T → Type 0)
    → (T → ℕ → R → T → Type 0) → ℕ → ℕ → List R → Type 0
OneChain {T = T} init fill finish rows len results = (s t : T) × init s
    × WholeRows fill (λ v x. finish v x.row) len s rows results t
