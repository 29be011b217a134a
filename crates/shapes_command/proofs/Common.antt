-- The names of std, of the crates below and of `specs/` that proofs here cite, passed on from one
-- place. Declares nothing.
pub use Rattle.commonware_parallel.proofs.Picks.{one_path}
pub use Rattle.commonware_parallel.specs.Explorers.{ExplorerTakes, picked}
pub use Rattle.commonware_parallel.specs.Merkle.{MerkleRoot, NextLevel, RootOf, of_level, of_none, of_one}
pub use Rattle.commonware_parallel.specs.declared.mocks.explorer.Explorer.{Explorer}
pub use Rattle.commonware_parallel.specs.declared.mocks.rule.Rule.TheVariants.{Serial}
pub use Rattle.parallel_bridge.specs.Lists.{Chain, FoldSegment, MapOf}
pub use Rattle.parallel_bridge.specs.Shapes.{Along, AlongLeaves, FoldsAs, ReducedSegment, Shape, cutdepth}
pub use Rattle.parallel_bridge.specs.declared.path.Path.TheVariants.{Parallel}
pub use Rattle.parallel_shares.proofs.Counts.{after, before, inside_after, inside_nothing, inside_within, side, within}
pub use Rattle.parallel_shares.proofs.Totals.{in_ranges_append, no_numbers, one_more, same_once, times_range, total_append, total_zero}
unfoldable pub use Rattle.parallel_shares.specs.Holders.{inside}
pub use Rattle.parallel_shares.specs.Holders.{in_ranges, same_number}
pub use Rattle.parallel_shares.specs.Seats.{AllDone, AreSeatsOf, EachCellOnce, IsSameSeat, IsSeatOf, claims_of, has_emptied, index_of, plan_of, transit_of}
pub use Rattle.parallel_shares.specs.Totals.{times, total}
pub use Rattle.shapes_command.specs.Answer.{EndsAtParallel, SumsAlong, combined, over_two, range_text, spaced}
pub use Rattle.shapes_command.specs.Drain.{AreDrained, HasEachOnce, IsDrained, listed, seat_of}
pub use Rattle.shapes_command.specs.Number.{CountsOrNone, IsCountOrNone, IsCountUpTo, IsNumberUpTo, IsTextOrNone}
pub use Rattle.shapes_command.specs.Request.{AreItems, HasForm, IsCallLine, IsExplorerLine, IsInRange, IsItem, IsListLine, IsShareLine, Says, SaysCall, SaysExplorer, SaysList, SaysShare, number_of}
pub use Rattle.shapes_command.specs.Request.{word}
pub use Rattle.std.proofs.Common.{Bool, Bor, Err, Global, IfErr, IfOk, List, MatchOption, None, Ok, OnErr, Option, Result, Some, String, [], ap, append-nil, append_assoc, arith, codes, drop, false}
pub use Rattle.std.proofs.Common.{get_or, inl, inr, length, map, refl, rules, slice_index_or, string_bytes, subst, suc, sum_by, sym, take, take-append-drop, true, true≢false, zero, ℕ, ◌%◌, ◌*◌, ◌++◌}
pub use Rattle.std.proofs.Common.{◌+◌, ◌-◌, ◌/◌, ◌<◌, ◌^◌, ◌∙◌, ◌∷◌, ◌≡◌, ◌≤◌, ◌⊎◌}
pub use Rattle.std.proofs.Math.Nat.{pow-succ', suc-mul}
pub use Rattle.std.proofs.lemmas.Bool.{cases_lt, ne_eqb}
pub use Rattle.std.proofs.lemmas.Iterator.{YieldsList, YieldsList-from_range, YieldsList-from_slice, items_from_drains}
pub use Rattle.std.proofs.lemmas.List.{drop-map, get_or-map, length-drop, length-map, length-take-le, map-append, take-map, take_all, take_more, take_rest}
pub use Rattle.std.proofs.lemmas.List.Elements.{All-drop, All-get_or, All-head, All-tail, All-take}
pub use Rattle.std.proofs.lemmas.List.Sorted.{IsNonDecreasingBy-from_sort, sum_by-IsPermutation}
pub use Rattle.std.proofs.lemmas.List.Sums.{sum_by-cons}
pub use Rattle.std.proofs.lemmas.Result.{IfOk-weaker}
pub use Rattle.std.specs.Fmt.{decimal}
pub use Rattle.std.specs.Io.KnownBytes.{Appends, Keeps}
pub use Rattle.std.specs.List.{All, range_with_len}
pub use Rattle.std.specs.List.Sorted.{IsNonDecreasing, IsPermutation}
pub use Rattle.std.specs.NonZero.{non_zero_usize_get}
pub use Rattle.std.specs.Str.Parse.{digits_value}
