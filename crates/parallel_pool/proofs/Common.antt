-- The names of std, of the crates below and of `specs/` that proofs here cite, passed on from one
-- place. Declares nothing.
pub use Rattle.atomic_table.proofs.Lists.{at_set, set_again}
pub use Rattle.atomic_table.specs.Table.{Allows, Enters, Joins, Me, Splits, State, keeps}
pub use Rattle.parallel_pool.specs.CountHistory.{CountsAs, CountsFrom, FitsShare, IsCountOf, SameShare, Sees, founder, hearing_gives, one_less, one_share, share_view, stranger, telling_gives}
pub use Rattle.parallel_pool.specs.CountHistory.{times_given}
pub use Rattle.parallel_pool.specs.Histories.{Begins, Longer}
pub use Rattle.parallel_pool.specs.JobHistory.{DeedMoves, DeedsLead, Extends, FitsJobs, HasPushed, HasTaken, IsEachOnce, IsJobHistoryOf, Lineup, event, events_by, job_view, new_pass, no_jobs}
pub use Rattle.parallel_pool.specs.JobHistory.{one_push, one_take, times_pushed, times_taken}
pub use Rattle.parallel_pool.specs.JobSeat.{Does, IsQueueOf, PushesFrom, SeatView, view_of, with_view}
pub use Rattle.parallel_pool.specs.Latch.{IsLatchSeatOf, known}
pub use Rattle.parallel_pool.specs.LatchHistory.{Called, FitsLatch, HasSeenSet, IsHistoryOf, acts_of, call, hearing, newcomer, view}
pub use Rattle.parallel_pool.specs.LatchMoves.{Phase, is_latched, is_sleeping, is_sleepy, is_unset, latched, moved, phase_after, phase_from, sleeping, sleepy, unset, word_of}
pub use Rattle.parallel_pool.specs.SleepTries.{OnlyProbes}
pub use Rattle.parallel_pool.specs.Standings.{AreWoken, blocked_of, inactive_in, is_blocked, is_inactive, is_looking, looking_in, sleeping_in, standing_at}
pub use Rattle.parallel_pool.specs.declared.latch.count_share.ShareView.{ShareView}
pub use Rattle.parallel_pool.specs.declared.latch.history.Act.TheVariants.{FallAsleep, GetSleepy, Probe, Set, WakeUp}
pub use Rattle.parallel_pool.specs.declared.latch.history.Call.{Call}
pub use Rattle.parallel_pool.specs.declared.latch.history.View.{View}
pub use Rattle.parallel_pool.specs.declared.rayon.job_history.Deed.{Deed}
pub use Rattle.parallel_pool.specs.declared.rayon.job_history.Deed.TheVariants.{Push, TakeFirst, TakeLast}
pub use Rattle.parallel_pool.specs.declared.rayon.job_history.Event.{Event}
pub use Rattle.parallel_pool.specs.declared.rayon.job_history.JobView.{JobView}
pub use Rattle.parallel_pool.specs.declared.rayon.queue.Queue.{Queue}
pub use Rattle.parallel_pool.specs.declared.rayon.queue.Queue.TheVariants.{Broadcast, Deque, Injected}
pub use Rattle.parallel_pool.specs.declared.sleep.standing.Standing.TheVariants.{Looking, Sleeping, Working}
pub use Rattle.std.proofs.Common.{All, Bool, Contains, Err, IsTrue, List, MatchOption, MatchResult, None, Ok, Option, Result, Some, [], ap, append-nil, append_assoc, arith, cond, count_by, eq-eqb}
pub use Rattle.std.proofs.Common.{false, filter, get_or, get_or-set_other, get_or-set_same, if◌then◌else◌, inl, inr, length, length-append, length-set, map, ne_eqb, refl, rules, set, slice_index}
pub use Rattle.std.proofs.Common.{subst, suc, sum_by, sym, take, true, true≢false, vec_capacity, vec_len, zero, ℕ, ⊎_elim, ◌%◌, ◌++◌, ◌+◌, ◌-◌, ◌<◌, ◌==◌, ◌^◌, ◌↔◌, ◌∙◌, ◌∷◌, ◌≡◌, ◌≢◌, ◌≤◌, ◌⊎◌}
pub use Rattle.std.proofs.lemmas.List.{get_or_past, get_or_read_under, take_all}
pub use Rattle.std.proofs.lemmas.List.Sums.{count_by-le-length, sum_by-append, sum_by-cons, sum_by-set}
pub use lib.ListN.{get_elem?}
pub use mathlib.Core.List.{cons-ne-nil, head-eq_of_cons-eq, tail-eq_of_cons-eq}
pub use mathlib.Core.Logic.{dite}
pub use mathlib.Core.Option.{some, some-injective, some-ne-none}
pub use native.Mathlib.Decide.{dec_le, ℕ_discrete}
pub use prog.Atomic.{either}
