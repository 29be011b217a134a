-- The names of std and of `specs/` that proofs here cite, passed on from one place. Declares
-- nothing.
pub use Rattle.atomic_table.proofs.Lists.{at_longer, at_set, set_else, set_here}
pub use Rattle.parallel_bridge.specs.Chunks.{chunks_of, pieces_of}
pub use Rattle.parallel_bridge.specs.Fills.{Answered, IsFull, OneAfterAnother, SamePlaces, kept, written}
pub use Rattle.parallel_bridge.specs.Folds.{FoldLaws, IsPlainFold}
pub use Rattle.parallel_bridge.specs.Fulls.{OnResults, OnValue}
pub use Rattle.parallel_bridge.specs.GateRule.{FitsGate, IsGateOf, KeepsGate, WasTold, back_half, front_half, gathered, greatest, looking, newcomer, one_less, telling}
pub use Rattle.parallel_bridge.specs.Gates.{IsAtMost, IsGateSeatOf, IsWatching, MayTell, SameWatch, ToldByOne, known, seats_of, stands_for}
pub use Rattle.parallel_bridge.specs.Halting.{IsUnhalted, NotStopped, halting, unstopped}
pub use Rattle.parallel_bridge.specs.Lists.{Bracketing, Brackets, Chain, FoldSegment, IsFront, MapOf, of_parts, of_segment}
pub use Rattle.parallel_bridge.specs.Loads.{LoadCameTo, steps_left, steps_of}
pub use Rattle.parallel_bridge.specs.Moves.{IsRoomFor, Joinable, holding, side_by_side}
pub use Rattle.parallel_bridge.specs.Onto.{PartitionOnto, ReducesTo, TryContinues, TryMapBehind, TryMapOnto}
pub use Rattle.parallel_bridge.specs.Outcomes.{IsListed, PutTogether, UnlessRefused, ended, joined, listed}
pub use Rattle.parallel_bridge.specs.Pairs.{odd_of, pair_items, pair_rest, pairs_of}
pub use Rattle.parallel_bridge.specs.Parts.{PartitionOf, keys_in, keys_of, values_in, values_of}
pub use Rattle.parallel_bridge.specs.Places.{laid, shifted, values}
pub use Rattle.parallel_bridge.specs.Producers.{drain_items, drain_rest}
pub use Rattle.parallel_bridge.specs.Shapes.{Along, AlongCut, AlongLeaves, Cut, FoldsAs, Shape, cut_items, cutdepth, halved_lengths, halves, leaf_lengths, segment}
pub use Rattle.parallel_bridge.specs.Sources.{Driven, GivesSome, MayCome}
pub use Rattle.parallel_bridge.specs.States.{AnyState, FoldInitSegment, FoldStep, MapStep, StateChain, StateSegment, Stateful, StatesAlong, StatesAs, StatesFrom, more_segments, no_segment}
pub use Rattle.parallel_bridge.specs.Tries.{EachOk, FirstErr, OnlyOk, TryAlong, TryAlongCut, TryAlongLeaves, TryBracketing, TryBrackets, TryChain, TryFoldSegment, TryFoldsAs, TryMapOf}
pub use Rattle.parallel_bridge.specs.Tries.{TryReducedSegment, of_left_error, of_right_error, of_try_segment, of_values, unless_full}
pub use Rattle.parallel_bridge.specs.Ways.{FoldedAs, FoldedInitAs, MappedInitAs, TryFoldedAs}
pub use Rattle.parallel_bridge.specs.Windows.{Adjoins, Follows, IsRow, View, part}
pub use Rattle.parallel_bridge.specs.Zips.{PairsOf, both, zipped_steps}
pub use Rattle.parallel_bridge.specs.declared.gate.seat.GateSeat.{GateSeat}
pub use Rattle.parallel_bridge.specs.declared.gate.seat.GateView.{GateView}
pub use Rattle.parallel_bridge.specs.declared.gate.watch.GateWatch.{GateWatch}
pub use Rattle.parallel_bridge.specs.declared.halt.Halt.{Halt}
pub use Rattle.parallel_bridge.specs.declared.halt.Halt.TheVariants.{Failed, Stopped}
pub use Rattle.parallel_bridge.specs.declared.path.Path.{Path}
pub use Rattle.parallel_bridge.specs.declared.path.Path.TheVariants.{Parallel, Serial}
pub use Rattle.parallel_fault.specs.declared.fault.Fault.{Fault}
pub use Rattle.parallel_fault.specs.declared.fault.Trouble.{Trouble}
pub use Rattle.parallel_fault.specs.declared.fault.Trouble.TheVariants.{Closure, Fault as OfFault}
pub use Rattle.std.proofs.Common.{All, Bool, Contains, Err, Global, IfErr, IfOk, IsPermutation, IsSome, IsTrue, List, MatchResult, None, Ok, Option, Result, Some, Vec, [], add-mul, ap, append-nil}
pub use Rattle.std.proofs.Common.{append_assoc, arith, drop, drop-drop, false, fold, get_or, inl, inr, is_err, is_some, le-ltb, length, length-append, length-drop, length-take, length-take-le, lt-ltb}
pub use Rattle.std.proofs.Common.{ltb-false, ltb-true, map, map-id, min, mul-le-mul_right, nat_lt, pow_pos, refl, replicate, rules, set, slice_index, subst, suc, suc-mul, sum, sum_by, sym, take}
pub use Rattle.std.proofs.Common.{take-append-drop, take-take, take_all, vec_len, zero, zip, ℕ, ⊎_elim, ◌%◌, ◌*◌, ◌++◌, ◌+◌, ◌-◌, ◌/◌, ◌<◌, ◌^◌, ◌∙◌, ◌∷◌, ◌≡◌, ◌≢◌, ◌≤◌, ◌⊎◌}
pub use Rattle.std.proofs.Math.Nat.{add-mod-mod, mod-add-mod, mod-eq_of_lt, pow-succ', zero-add, zero-mul}
pub use Rattle.std.proofs.Math.Seq.{drop-append_seam, get_or-append_seam, set-append_seam, take-append_seam}
pub use Rattle.std.proofs.lemmas.Bool.{cases_lt, cond-false, cond_both, false≢true}
pub use Rattle.std.proofs.lemmas.Fn.{answers_by, serves_by}
pub use Rattle.std.proofs.lemmas.Grind.{common_steps, div_ceil_times}
pub use Rattle.std.proofs.lemmas.Iterator.{YieldsList, YieldsList-from_range, YieldsList-from_slice, items_from_drains}
pub use Rattle.std.proofs.lemmas.Iterator.Consumers.{YieldsList-from_copied, YieldsList-from_first}
pub use Rattle.std.proofs.lemmas.List.{drop-replicate, drop-take, drop_all, length-map, length-replicate, map-append, nil_from_length, take_rest, replicate-append-replicate, take-replicate}
pub use Rattle.std.proofs.lemmas.List.Elements.{All-append, All-cons, All-contains, All-contains_itself, All-from_recursion, All-head, All-nil, All-push, All-tail, All-weaker, Contains-append_cases}
pub use Rattle.std.proofs.lemmas.List.Elements.{Contains-append_left, Contains-append_right, Contains-push, Contains-push_cases, recursion_from_All}
pub use Rattle.std.proofs.lemmas.List.FromFn.{length-range_with_len}
pub use Rattle.std.proofs.lemmas.List.Sums.{fold-append, get_or-le-sum_by, sum_by-append, sum_by-cons, sum_by-set, sum_by_push}
pub use Rattle.std.proofs.lemmas.Nat.{leading_top, mod_below}
pub use Rattle.std.proofs.lemmas.Result.{IfOk-weaker, on_ok_weaker}
pub use Rattle.std.specs.Borrow.{Bor, MutBor}
pub use Rattle.std.specs.Fn.{Called, ComparesAs, Mut}
pub use Rattle.std.specs.Int.{div_ceil}
pub use Rattle.std.specs.Int.NonZero.{non_zero_usize_get}
pub use Rattle.std.specs.Iterator.{AlwaysYields, CallableAtEachTurn, Drains, DrainsIf, HoldsAlong, IsFinite, Yields}
pub use Rattle.std.specs.Iterator.Adapters.{map_callee, map_source, map_steps}
pub use Rattle.std.specs.List.{AllByRecursion, AllZip, enumerate_from, range_with_len}
pub use Rattle.std.specs.Vec.Ownership.{FitsInBlock}
pub use Rattle.std.specs.declared.convert.Infallible.{Infallible}
pub use denote.Param.{param}
pub use lib.ListN.{get_elem?}
pub use mathlib.Core.Logic.{dite}
pub use mathlib.Core.Option.{some, some-injective, some-ne-none}
pub use native.Mathlib.Decide.{dec_le, ℕ_discrete}
