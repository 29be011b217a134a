-- What a seat knows of a pool's queues, and what a call of it changes.
use Rattle.std.specs.Prelude.{◌≡◌, ℕ, ◌+◌, ◌<◌, ⊤, List, [], ◌∷◌, ◌++◌, All, length, slice_index_or, slice_set}
use Rattle.parallel_pool.specs.declared.rayon.job_history.JobView.{JobView}
use Rattle.parallel_pool.specs.declared.rayon.queue.Queue.{Queue}
use Rattle.parallel_pool.specs.declared.rayon.queue.Queue.TheVariants.{Injected, Broadcast, Deque}
use Rattle.parallel_pool.specs.JobHistory.{new_pass, HasPushed}

-- what a seat knows of the injected jobs, of each worker's broadcast queue and of each worker's
-- deque
pub record SeatView (T : Type 0) : Type 0 where
  pub injected : JobView T
  pub broadcasts : List (JobView T)
  pub deques : List (JobView T)

-- the queue is one to which a seat may push
abbrev pub IsInlet : {T : Type 0} → Queue → SeatView T → Type 0
IsInlet Injected seat = ⊤
IsInlet (Broadcast i) seat = i < length seat.broadcasts
IsInlet (Deque i) seat = ⊥

-- the queue is one of the pool
abbrev pub IsQueueOf : {T : Type 0} → Queue → SeatView T → Type 0
IsQueueOf Injected seat = ⊤
IsQueueOf (Broadcast i) seat = i < length seat.broadcasts
IsQueueOf (Deque i) seat = i < length seat.deques

-- what the seat knows of a queue
abbrev pub view_of : {T : Type 0} → Queue → SeatView T → JobView T
view_of Injected seat = seat.injected
view_of (Broadcast i) seat = slice_index_or seat.broadcasts i new_pass
view_of (Deque i) seat = slice_index_or seat.deques i new_pass

-- the seat, knowing this of the queue and the same as before of all others
abbrev pub with_view : {T : Type 0} → Queue → JobView T → SeatView T → SeatView T
with_view Injected view seat =
    record { injected = view; broadcasts = seat.broadcasts; deques = seat.deques }
with_view (Broadcast i) view seat =
    record {
      injected = seat.injected;
      broadcasts = slice_set seat.broadcasts i view;
      deques = seat.deques;
    }
with_view (Deque i) view seat =
    record {
      injected = seat.injected;
      broadcasts = seat.broadcasts;
      deques = slice_set seat.deques i view;
    }

-- a seat did something to one queue, and nothing to any other
abbrev pub Does : {T : Type 0} → Queue → (JobView T → JobView T → Type 0) → SeatView T → SeatView T
    → Type 0
Does {T} queue deed old new = (view : JobView T) × deed (view_of queue old) view
    × (new ≡ with_view queue view old)

-- a seat of a pool of that many workers that has seen nothing
pub record IsFreshSeat {T : Type 0} (workers : ℕ) (seat : SeatView T) : Type 0 where
  pub injected : seat.injected ≡ new_pass
  pub broadcasts : length seat.broadcasts ≡ workers
  pub broadcasts_fresh : All (λ view. view ≡ new_pass) seat.broadcasts
  pub deques : length seat.deques ≡ workers
  pub deques_fresh : All (λ view. view ≡ new_pass) seat.deques

-- a seat pushed each job to the broadcast queue of one worker, from this worker on, in order, and
-- did nothing else
abbrev pub PushesFrom : {T : Type 0} → ℕ → List T → SeatView T → SeatView T → Type 0
PushesFrom worker [] old new = new ≡ old
PushesFrom {T} worker (job ∷ jobs) old new = (mid : SeatView T)
    × Does (Broadcast worker) (λ v w. HasPushed v job w) old mid
    × PushesFrom (worker + 1) jobs mid new

-- The jobs that come back are the last ones, and those before them were pushed, in order.
abbrev pub PushesSome : {T : Type 0} → List T → List T → SeatView T → SeatView T → Type 0
PushesSome {T} jobs back old new = (done : List T) × (jobs ≡ done ++ back)
    × PushesFrom 0 done old new
