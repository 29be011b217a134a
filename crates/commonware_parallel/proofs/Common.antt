-- The names of std, of the crates below and of `specs/` that proofs here cite, passed on from one
-- place. Declares nothing.
pub use Rattle.commonware_parallel.specs.Answers.{UnlessFaulty, flat_outcome}
pub use Rattle.commonware_parallel.specs.Batches.{IsBatch, OnSomeBatch, place_of, ranges_of, strategy_of}
pub use Rattle.commonware_parallel.specs.Calls.{AtSomePath, IsInnerOf, batches_call, body_call, multiplied_call, nth_path, tiles_call}
pub use Rattle.commonware_parallel.specs.Chains.{Chains, WholeRows, more_chains, no_chain}
pub use Rattle.commonware_parallel.specs.MergedRows.{FillsSome, FillsStretches, Follows, IsThere, Joins, MergesRows, MergesTo, Names, Placed, RowValues, TilesRow, results_in, stretches_in, wrapped_place}
pub use Rattle.commonware_parallel.specs.Merkle.{IsDetermined, MerkleRoot, NextLevel, RootOf, of_level, of_none, of_one}
pub use Rattle.commonware_parallel.specs.Mixes.{mixed_all, mixed_in}
pub use Rattle.commonware_parallel.specs.Rectangles.{CutsRectangle, IsWholeRow, has_cell, whole_row, whole_rows}
pub use Rattle.commonware_parallel.specs.Seated.{AllResults, WorksFrom, seat_of}
pub use Rattle.commonware_parallel.specs.declared.batches.Batches.{Batches}
pub use Rattle.commonware_parallel.specs.declared.call.Call.{Call}
pub use Rattle.commonware_parallel.specs.declared.call.Pick.{Pick}
pub use Rattle.commonware_parallel.specs.declared.call.Pick.TheVariants.{By, Into}
pub use Rattle.commonware_parallel.specs.declared.mocks.explorer.Explorer.{Explorer}
pub use Rattle.commonware_parallel.specs.declared.mocks.rule.Rule.TheVariants.{Parallel, Seeded}
pub use Rattle.parallel_bridge.proofs.Statefuls.{stateful_from_segment}
pub use Rattle.parallel_bridge.specs.Lists.{MapOf, of_segment}
pub use Rattle.parallel_bridge.specs.Outcomes.{UnlessRefused}
pub use Rattle.parallel_bridge.specs.States.{FoldStep, MapStep, Stateful, StatesFrom, more_segments, no_segment}
pub use Rattle.parallel_bridge.specs.Ways.{FoldedAs, FoldedInitAs, MappedInitAs, TryFoldedAs}
pub use Rattle.parallel_bridge.specs.declared.path.Path.{Path}
pub use Rattle.parallel_bridge.specs.declared.path.Path.TheVariants.{Serial}
pub use Rattle.parallel_fault.specs.declared.fault.Fault.TheVariants.{Memory}
pub use Rattle.parallel_fault.specs.declared.fault.Trouble.{Trouble}
pub use Rattle.parallel_fault.specs.declared.fault.Trouble.TheVariants.{Closure}
pub use Rattle.parallel_shares.proofs.Counts.{inside_after, inside_before, inside_cut, inside_within}
pub use Rattle.parallel_shares.proofs.Cuts.{BalancedCut-at_least, BalancedCut-minimum_share}
pub use Rattle.parallel_shares.proofs.FillsUnderway.{finished_append}
pub use Rattle.parallel_shares.proofs.Totals.{times_range, total_append, total_zero}
pub use Rattle.parallel_shares.specs.Fillings.{Ends, Filled, Fills, Finished, Gives, last_fill, no_fill}
pub use Rattle.parallel_shares.specs.Fronts.{IsFront}
unfoldable pub use Rattle.parallel_shares.specs.Holders.{inside}
pub use Rattle.parallel_shares.specs.Holders.{in_ranges, same_number}
pub use Rattle.parallel_shares.specs.Seats.{AllDone, AreSeatsOf, EachCellOnce, IsSeatOf, claims_of, has_emptied, index_of, plan_of, transit_of}
pub use Rattle.parallel_shares.specs.Sizes.{Work, sizes_of}
pub use Rattle.parallel_shares.specs.Stretches.{AreApart, Cutting, IsStretch, all_cells, cut_cells, range_cells, stretch_cells}
pub use Rattle.parallel_shares.specs.Totals.{times, total}
pub use Rattle.parallel_shares.specs.declared.shares.stretch.Stretch.{Stretch}
pub use Rattle.std.proofs.Common.{All, Bool, Err, IfOk, IsErrAnd, List, None, Ok, Option, Result, Some, [], add-one, ap, append-nil, append_assoc, arith, false, get_or, inl, inr, length}
pub use Rattle.std.proofs.Common.{drop, length-drop, one-mul}
pub use Rattle.std.proofs.Common.{length-append, map, max, min, refl, rules, subst, suc, sym, take, true, true≢false, vec_len, zero, ℕ, ◌%◌, ◌*◌, ◌++◌, ◌+◌, ◌-◌, ◌/◌, ◌<◌, ◌^◌, ◌∙◌, ◌∷◌, ◌≡◌, ◌≢◌}
pub use Rattle.std.proofs.Common.{◌≤◌, ◌⊎◌}
pub use Rattle.std.proofs.Math.Nat.{add-mul, min-eq_left, min-eq_right, mod-add-div, mod-lt, mul-sub, mul_assoc, mul_comm}
pub use Rattle.std.proofs.lemmas.Bool.{cases_lt, cases_order, eq-eqb, ne_eqb}
pub use Rattle.std.proofs.lemmas.List.{append_cancel_left, length-map, map-append, map-id, nil_from_length, take_all, take_more}
pub use Rattle.std.proofs.lemmas.List.Elements.{All-append, All-cons, All-map, All-head, All-nil, All-tail}
pub use Rattle.std.proofs.lemmas.List.Sorted.{All-permutation, IsNonDecreasingBy-from_sort_by_key, IsPermutation-refl, sum_by-IsPermutation}
pub use Rattle.std.proofs.lemmas.Nat.{row_fits, same_from_place}
pub use Rattle.std.specs.Borrow.{Bor, MutBor}
pub use Rattle.std.specs.Int.NonZero.{non_zero_usize_get}
pub use Rattle.std.specs.List.{AllZip, FoldsTo, range_with_len, sum_by}
pub use Rattle.std.specs.Option.{option_to_list}
pub use Rattle.std.specs.Prelude.{MatchOption, MatchResult, if◌then◌else◌, nat_le}
pub use Rattle.std.specs.Vec.Iter.{into_iter_items, into_iter_len}
pub use Rattle.std.specs.declared.ops.Range.{Range}
pub use Rattle.std.specs.Fork.{AcceptsAt, ChangesAt}
pub use Rattle.commonware_parallel.specs.MerkleBlocks.{AreBlocks, AreTops, AreTopsOf, ComesDown, HasGiven, HasItems, IsBlockSize, Levels, leaves_below}
pub use Rattle.parallel_bridge.specs.Fills.{SamePlaces}
pub use Rattle.parallel_bridge.specs.Windows.{part}
pub use Rattle.parallel_bridge.proofs.Halves.{halved_room}
pub use Rattle.std.proofs.Common.{length-take-le, take-append-drop}
pub use Rattle.std.proofs.Math.Seq.{drop-nil, take-add}
pub use Rattle.std.proofs.Math.Nat.{mul-add, zero-mul}
pub use Rattle.std.proofs.lemmas.List.{drop-drop, drop_all}
pub use Rattle.std.proofs.lemmas.Grind.{div_ceil_times}
pub use Rattle.std.specs.Int.{div_ceil}
pub use Rattle.std.proofs.lemmas.Result.{IfOk-weaker}
pub use Rattle.parallel_shares.specs.Cut.{CutsFrom}
