-- The history of a queue of jobs: which jobs were pushed and taken, under which numbers.
use Rattle.std.specs.Prelude.{◌≡◌, ℕ, ◌+◌, ◌≤◌, ◌==◌, cond, Bool, false, List, [], ◌∷◌, ◌++◌, length, map}
use mathlib.Core.Option.{some}
use lib.ListN.{get_elem?}
use Rattle.parallel_pool.specs.declared.rayon.job_history.Deed.{Deed}
use Rattle.parallel_pool.specs.declared.rayon.job_history.Deed.TheVariants.{Push, TakeFirst, TakeLast}
use Rattle.parallel_pool.specs.declared.rayon.job_history.Event.{Event}
use Rattle.parallel_pool.specs.declared.rayon.job_history.JobView.{JobView}
use Rattle.parallel_pool.specs.Histories.{Begins}

-- how a queue stands: the number of the next push, and the jobs in it with their numbers, first one
-- first
pub record Lineup (T : Type 0) : Type 0 where
  pub next : ℕ
  pub left : List (ℕ × T)

-- whether a deed is a push
abbrev pub one_push : Deed → ℕ
one_push Push = 1
one_push TakeFirst = 0
one_push TakeLast = 0

-- whether a deed takes a job
abbrev pub one_take : Deed → ℕ
one_take Push = 0
one_take TakeFirst = 1
one_take TakeLast = 1

module _ {T : Type 0} where
  -- what a pass did to a job
  abbrev pub event : ℕ → Deed → ℕ → T → Bool → Event T
  event by deed number job called =
      record { by = by; deed = deed; number = number; job = job; called = called }

  -- what a pass knows that has seen these deeds, of which these are its own
  abbrev pub job_view : List (Event T) → List (Event T) → JobView T
  job_view seen own = record { seen = seen; own = own }

  -- a pass that has seen nothing
  abbrev pub new_pass : JobView T
  new_pass = job_view [] []

  -- a queue to which nothing was pushed yet
  abbrev pub no_jobs : Lineup T
  no_jobs = record { next = 0; left = [] }

  -- what a deed does to a queue: a push gives the next number, and a job is taken with its number
  abbrev pub DeedMoves : Deed → ℕ → T → Lineup T → Lineup T → Type 0
  DeedMoves Push number job s t = (number ≡ s.next) × (t.next ≡ s.next + 1)
      × (t.left ≡ s.left ++ (number, job) ∷ [])
  DeedMoves TakeFirst number job s t = (t.next ≡ s.next) × (s.left ≡ (number, job) ∷ t.left)
  DeedMoves TakeLast number job s t = (t.next ≡ s.next) × (s.left ≡ t.left ++ (number, job) ∷ [])

  -- a history leads a queue from one state to another
  abbrev pub DeedsLead : Lineup T → List (Event T) → Lineup T → Type 0
  DeedsLead s [] t = s ≡ t
  DeedsLead s (e ∷ es) t = (m : Lineup T) × DeedMoves e.deed e.number e.job s m × DeedsLead m es t

  -- the deeds of one pass in a history
  abbrev pub events_by : ℕ → List (Event T) → List (Event T)
  events_by by [] = []
  events_by by (e ∷ es) = cond (e.by == by) (e ∷ events_by by es) (events_by by es)

  -- a pass has seen a beginning of the history, and its own deeds are all that the history has of
  -- it
  abbrev pub FitsJobs : List (Event T) → ℕ → JobView T → Type 0
  FitsJobs log by v = Begins log v.seen × (events_by by log ≡ v.own)

  -- there is one history, which leads to the jobs in the queue, fits each pass, and has the deeds
  -- of no others
  abbrev pub IsJobHistoryOf : List T → List (JobView T) → Type 0
  IsJobHistoryOf items views =
      (log : List (Event T)) × (now : Lineup T)
      × DeedsLead no_jobs log now
      × (map (λ (p : ℕ × T). p.1) now.left ≡ items)
      × ((by : ℕ) (v : JobView T) → get_elem? views by ≡ some v → FitsJobs log by v)
      × ((by : ℕ) → length views ≤ by → events_by by log ≡ [])

  -- how often the job of a number was pushed, and how often it was taken
  abbrev pub times_pushed : ℕ → List (Event T) → ℕ
  times_pushed number [] = 0
  times_pushed number (e ∷ es) =
      cond (e.number == number) (one_push e.deed) 0 + times_pushed number es

  abbrev pub times_taken : ℕ → List (Event T) → ℕ
  times_taken number [] = 0
  times_taken number (e ∷ es) =
      cond (e.number == number) (one_take e.deed) 0 + times_taken number es

  -- each job that was taken was pushed, and none was pushed or taken twice
  abbrev pub IsEachOnce : List (Event T) → Type 0
  IsEachOnce log = (number : ℕ) → (times_taken number log ≤ times_pushed number log)
      × (times_pushed number log ≤ 1)

-- one deed of a pass: the history now seen begins with all that the pass had seen, is one of a
-- queue, and ends with the deed; of the pass it has just this deed more
pub record Extends {T : Type 0} (old : JobView T) (e : Event T) (new : JobView T) : Type 0 where
  pub before : List (Event T)
  pub begins : Begins before old.seen
  pub ends : new.seen ≡ before ++ e ∷ []
  pub legal : (now : Lineup T) × DeedsLead no_jobs new.seen now
  pub own : new.own ≡ old.own ++ e ∷ []
  pub all : events_by e.by new.seen ≡ new.own
  pub once : IsEachOnce new.seen

module _ {T : Type 0} where
  -- A job was pushed: what the pass has seen now is a history that begins with all that it had seen
  -- before and ends with this push. In it each job that was taken was pushed, and none was pushed
  -- or taken twice.
  abbrev pub HasPushed : JobView T → T → JobView T → Type 0
  HasPushed old job new = (by : ℕ) × (number : ℕ) × Extends old (event by Push number job false) new

  -- Likewise, this job was taken, in this way. `called` marks the takes of a worker that takes a
  -- job to call it; a take by a seat's caller has false.
  abbrev pub HasTaken : Deed → Bool → JobView T → T → JobView T → Type 0
  HasTaken deed called old job new = (by : ℕ) × (number : ℕ)
      × Extends old (event by deed number job called) new
