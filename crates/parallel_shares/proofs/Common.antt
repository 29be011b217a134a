-- The names of std, of the crates below and of `specs/` that proofs here cite, passed on from one
-- place. Declares nothing.
pub use Rattle.atomic_table.proofs.Lists.{at_set, at_snoc, exchanged, set_else}
pub use Rattle.atomic_table.specs.Table.{Act, Allows, Joins, Me, Splits, State, Valid, carried_after, keeps, step, stepped}
pub use Rattle.parallel_shares.specs.Answers.{Answers, CanClaim, CanRefill, CanSteal, ClaimAnswers, LoadAnswers, Pays, RefillAnswers, Replays, StealAnswers, cells_in, claim_cells, claim_stop}
pub use Rattle.parallel_shares.specs.Answers.{middle_of}
pub use Rattle.parallel_shares.specs.Cut.{BalancedCut, CutsFrom, IsEven, range_length}
pub use Rattle.parallel_shares.specs.Fillings.{Closes, Ends, FilledOpen, Fills, Finished, GoesOn, Underway, last_fill, no_fill}
pub use Rattle.parallel_shares.specs.Fronts.{IsFront}
pub use Rattle.parallel_shares.specs.Gathered.{HasAll}
pub use Rattle.parallel_shares.specs.Holders.{Claims, Hands, Holder, Holders, IsOpening, Leads, Move, Reached, Refills, Shows, Steals, StepsByMoves, carried, claim, claimed, in_range, in_ranges}
unfoldable pub use Rattle.parallel_shares.specs.Holders.{inside}
pub use Rattle.parallel_shares.specs.Holders.{in_transit, in_word, pending, refill, same, same_number, steal}
pub use Rattle.parallel_shares.specs.Machine.{IsSeatRowOf, IsStateOf, Machine, carries, forgets, fresh, gains, opening, opening_words, remembers, row_at, with_seat_row, with_word, word_at}
pub use Rattle.parallel_shares.specs.Seats.{AllDone, AllEmpty, AreFresh, AreSeatsOf, Carries, EachCellOnce, IsFresh, IsPartition, IsSameSeat, IsSeatOf, LoadsGrow, OthersStay}
pub use Rattle.parallel_shares.specs.Seats.{TriesClaim, claims_of, has_emptied, index_of, known, own_loads, own_share, own_word, plan_of, transit_of}
pub use Rattle.parallel_shares.specs.Sharing.{Empties, Exchanges, Idle, IsSharingOf, LooksAt, LooksOwn, PutsDown, SomeSplitPays, TakesBack, TakesFront, back_half, dealt, dealt_from, fresh_view}
pub use Rattle.parallel_shares.specs.Sharing.{gathered, in_view, loaded_at, loads_at, loads_since, looked, looked_own, missed, put_down, ranges_of, spent, took_back, took_front, undealt}
pub use Rattle.parallel_shares.specs.Sizes.{IsSound, Sizes, Work, opening_size, opening_start, share_of, shares_of, sizes_of}
pub use Rattle.parallel_shares.specs.Spaced.{Spaced, line_of, place_of, share_at, used}
unfoldable pub use Rattle.parallel_shares.specs.Spaced.{spaced}
pub use Rattle.parallel_shares.specs.Steals.{FoundNothing, GainsTry, IsBest, IsBetter, IsNoBetter, LoadsOthers, LooksRound, NonePays, OnlyLooks, TriesSteal}
pub use Rattle.parallel_shares.specs.Stretches.{AreApart, CutsCells, Grown, IsPiece, IsStretch, Parted, StartsAnew, all_cells, cut_cells, piece_cells, range_cells, stretch_cells, stretch_of}
pub use Rattle.parallel_shares.specs.Stretches.{stretches_of}
pub use Rattle.parallel_shares.specs.Totals.{times, total}
pub use Rattle.parallel_shares.specs.Words.{IsEmptyWord, IsWithin, end_of, packed, range_of, start_of}
pub use Rattle.parallel_shares.specs.declared.machine.event.Event.{Event}
pub use Rattle.parallel_shares.specs.declared.machine.event.Event.TheVariants.{Claim, Load, Refill, Steal}
pub use Rattle.parallel_shares.specs.declared.machine.event.Outcome.{Outcome}
pub use Rattle.parallel_shares.specs.declared.machine.event.Outcome.TheVariants.{Claimed, Empty, Loaded, Lost, Nothing, Refilled, Refused, Taken}
pub use Rattle.parallel_shares.specs.declared.machine.rows.Remembered.{Remembered}
pub use Rattle.parallel_shares.specs.declared.machine.rows.SeatRow.{SeatRow}
pub use Rattle.parallel_shares.specs.declared.shares.Shares.{Shares}
pub use Rattle.parallel_shares.specs.declared.shares.rule.View.{View}
pub use Rattle.parallel_shares.specs.declared.shares.seat.Seat.{Seat}
pub use Rattle.parallel_shares.specs.declared.shares.stretch.Piece.{Piece}
pub use Rattle.parallel_shares.specs.declared.shares.stretch.Stretch.{Stretch}
pub use Rattle.std.proofs.Common.{All, Bool, Err, HoldsAt, IfOk, IfSome, IsFalse, List, None, Ok, OnErr, Option, Result, Some, [], add-one, ap, append-nil, append_assoc, arith, cond, drop}
pub use Rattle.std.proofs.Common.{eqb, false, get_or, inl, inr, length, ltb, map, min, refl, replicate, rules, set, slice_index, subst, suc, sum_by, sym, take, true, vec_capacity, zero, ℕ}
pub use Rattle.std.proofs.Common.{◌%◌, ◌*◌, ◌++◌, ◌+◌, ◌-◌, ◌/◌, ◌<◌, ◌==◌, ◌^◌, ◌∙◌, ◌∷◌, ◌≡◌, ◌≢◌, ◌≤◌, ◌⊎◌}
pub use Rattle.std.proofs.lemmas.Bool.{cases_eq, cases_lt, cases_order, cond_both, eq-eqb, ne_eqb}
pub use Rattle.std.proofs.lemmas.Bool.Decides.{nat_tests}
pub use Rattle.std.proofs.lemmas.Grind.{common_steps, div_ceil_times}
pub use Rattle.std.proofs.lemmas.List.{get_or-map, get_or-replicate, get_or-set_other, get_or-set_same, get_or_append_left, get_or_past, get_or_push, length-map, length-replicate, length-set}
pub use Rattle.std.proofs.lemmas.List.{length_push, map-append, take_all, take_more}
pub use Rattle.std.proofs.lemmas.List.Elements.{All-append, All-cons, All-head, All-nil, All-push, All-tail, All-weaker, at_read}
pub use Rattle.std.proofs.lemmas.Nat.{div-mul-add, div_below, le-div, mod-mul-add, mod_below, mul-le}
pub use Rattle.std.specs.Borrow.{MutBor}
pub use Rattle.std.specs.Int.NonZero.{non_zero_usize_get}
pub use Rattle.std.specs.List.{flat_map, range_with_len}
pub use Rattle.std.specs.Slots.{slots_items}
pub use Rattle.std.specs.declared.ops.Range.{Range}
pub use lib.ListN.{get_elem?}
pub use mathlib.Core.Option.{none, some, some-injective, some-ne-none}
