-- What a worker knows, and what it does when it calls or pushes a job.
use Rattle.std.specs.Prelude.{◌≡◌, ℕ, ◌+◌, ◌⊎◌, Bool, true, false, List, [], ◌∷◌, length}
use Rattle.parallel_pool.specs.declared.rayon.job_history.Deed.TheVariants.{TakeFirst, TakeLast}
use Rattle.parallel_pool.specs.declared.rayon.job_history.Event.{Event}
use Rattle.parallel_pool.specs.declared.rayon.job_history.JobView.{JobView}
use Rattle.parallel_pool.specs.declared.rayon.queue.Queue.{Queue}
use Rattle.parallel_pool.specs.JobHistory.{HasPushed, HasTaken}
use Rattle.parallel_pool.specs.JobSeat.{SeatView, IsQueueOf, Does}

-- its index and its pool's label, what it knows of its own deque, and its seat of the pool's queues
pub record WorkerView (T : Type 0) : Type 0 where
  pub index : ℕ
  pub label : ℕ
  pub own : JobView T
  pub jobs : SeatView T

-- one where a job was taken to be called
abbrev pub one_call : Bool → ℕ
one_call true = 1
one_call false = 0

module _ {T : Type 0} where
  -- how many jobs were taken to be called
  abbrev pub called_in : List (Event T) → ℕ
  called_in [] = 0
  called_in (e ∷ es) = one_call e.called + called_in es

  -- how many jobs the passes of several queues have taken to call them
  abbrev pub called_by : List (JobView T) → ℕ
  called_by [] = 0
  called_by (v ∷ vs) = called_in v.own + called_by vs

  -- how many jobs a seat has taken to call them
  abbrev pub seat_calls : SeatView T → ℕ
  seat_calls seat = called_in seat.injected.own + called_by seat.broadcasts + called_by seat.deques

  -- how many jobs a worker has taken to call them
  abbrev pub calls_of : WorkerView T → ℕ
  calls_of worker = called_in worker.own.own + seat_calls worker.jobs

  -- the worker, knowing this of its own deque
  abbrev pub with_own : JobView T → WorkerView T → WorkerView T
  with_own own worker =
      record { index = worker.index; label = worker.label; own = own; jobs = worker.jobs }

  -- the worker, with this seat
  abbrev pub with_jobs : SeatView T → WorkerView T → WorkerView T
  with_jobs jobs worker =
      record { index = worker.index; label = worker.label; own = worker.own; jobs = jobs }

  -- it took the last job of its own deque to call it, and did nothing else
  abbrev pub CallsOwn : WorkerView T → T → WorkerView T → Type 0
  CallsOwn old job new = (view : JobView T) × HasTaken TakeLast true old.own job view
      × (new ≡ with_own view old)

  -- it took the first job of one of the pool's queues to call it, and did nothing else
  abbrev pub CallsFirst : WorkerView T → T → WorkerView T → Type 0
  CallsFirst old job new =
      (queue : Queue) × (seat : SeatView T) × IsQueueOf queue old.jobs
      × Does queue (λ v w. HasTaken TakeFirst true v job w) old.jobs seat
      × (new ≡ with_jobs seat old)

  -- it took one job to call it, and did nothing else
  abbrev pub CallsOne : WorkerView T → T → WorkerView T → Type 0
  CallsOne old job new = CallsOwn old job new ⊎ CallsFirst old job new

  -- it pushed a job to its own deque, and did nothing else
  abbrev pub PushesOwn : WorkerView T → T → WorkerView T → Type 0
  PushesOwn old job new = (view : JobView T) × HasPushed old.own job view
      × (new ≡ with_own view old)

-- the first worker of a pool of that many threads, by its index and its pool's label
pub record IsFirstWorker {T : Type 0} (tag count : ℕ) (worker : WorkerView T) : Type 0 where
  pub index : worker.index ≡ 0
  pub label : worker.label ≡ tag
  pub threads : length worker.jobs.broadcasts ≡ count
