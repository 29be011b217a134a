-- What holds of every history of runs.
use Rattle.std.specs.Prelude.{◌≡◌, ◌⊎◌, ℕ, ◌+◌, ◌≤◌, true, [], ◌∷◌, ◌++◌}
use Rattle.parallel_policy.specs.declared.history.RunEvent.TheVariants.{Chosen, Sampled}
use Rattle.parallel_policy.specs.Runs.{RunHistory, run_choice}

-- how many of the events are choices
abbrev pub choices_of : RunHistory → ℕ
choices_of [] = 0
choices_of (Sampled _ _ ∷ older) = choices_of older
choices_of (Chosen _ ∷ older) = choices_of older + 1

-- one of the recent choices, which follow a history, is measured
abbrev pub MeasuresOne : RunHistory → RunHistory → Type 0
MeasuresOne [] history = ⊥
MeasuresOne (Sampled _ _ ∷ recent) history = MeasuresOne recent history
MeasuresOne (Chosen parallelism ∷ recent) history =
    ((run_choice (recent ++ history) parallelism).1 ≡ true) ⊎ MeasuresOne recent history

-- whatever came before, and whatever samples come between, of ten consecutive choices one is
-- measured
abbrev pub MeasuresOneOfTen : Type 0
MeasuresOneOfTen = (recent history : RunHistory) → 10 ≤ choices_of recent
    → MeasuresOne recent history
