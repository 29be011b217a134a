-- What the proofs by hand of `window` cite: the assertions of memory, the steps of a walk, and the
-- places of a row. Declares nothing.
pub use Prim.Native.Nat.{suc, zero, ℕ, ◌*◌, ◌+◌, ◌-◌, ◌<◌, ◌^◌, ◌≤◌}
pub use Rattle.core.proofs.alloc.Calls.{Goes-blank, token}
pub use Rattle.core.proofs.mem.Param.{El, R, args, el_x, elτ}
pub use Rattle.core.proofs.ptr.Rows.{one_below, times_below}
pub use Rattle.core.specs.declared.alloc.Allocator.{Ghosts}
pub use Rattle.parallel_bridge.specs.Places.{IsFilled, cells_own, deed_owns, shifted, slot, slots, values}
pub use Rattle.std.proofs.raw_atomic.Walks.{proved_at}
pub use Rattle.std.specs.Mem.{type_size}
pub use Rattle.std.specs.Prelude.{Bool, None, Option, Some, false, true}
pub use Rattle.std_alloc.proofs.RawLayout.{as_raw, as_written}
pub use Rattle.std_alloc.proofs.RcSteps.{Good, word, word-Good}
pub use Rattle.std_alloc.proofs.VecSteps.Opens.{Blk, not_live, vec_closes⁰, vec_opens⁰}
pub use Rattle.std_alloc.proofs.VecSteps.Shapes.{after}
pub use Rattle.std_alloc.specs.Vec.Ownership.{has_block, owns_if}
pub use base.Fml.{Fml, fat, flft, froom, fsep, ftrue}
pub use base.Fraction.{full_share}
pub use base.Logic.{SProp, emp, ent, ex, guard, id⊢, mono_r, never, sep, via}
pub use contract.BorrowLft.{◌⊑◌}
pub use contract.Monad.{Fun, fact, fact_i}
pub use contract.Running.{tables}
unfoldable pub use contract.Running.{tables_of}
pub use denote.Builtin.{usize}
pub use denote.Exit.{no, yes}
pub use denote.Index.{row}
pub use denote.Memory.{part_at}
pub use denote.Param.{layout}
pub use denote.Param.Laws.{Laws, param_laws}
pub use denote.Param.Send.{AllSend, Frees, IsSend, owning_send, part_keyless, sendable, struct_send}
pub use denote.Param.Shared.{copy_shared}
pub use denote.RattleType.{RattleType, Valss, owns}
pub use denote.RawPtr.{Ptr, RawPtr, block_ptr, in_a_block, null_ptr, ptr_val}
pub use denote.SharingLaws.{nothing_shr_laws}
pub use denote.Signature.{plain, types_at}
pub use denote.Steps.{closes, heard, nothing, opens, peeks}
pub use denote.Struct.Laws.{field_copy}
pub use denote.Struct.Lending.{Lends-nothing, of_Lends}
pub use denote.Struct.Owning.{fields, shape, to}
pub use denote.Struct.Struct.{Shape, Struct, exits_of, within}
pub use denote.Struct.Tuple.{Tuple, tuple_type}
pub use denote.Triple.Clauses.{Clauses, Ended}
pub use denote.Triple.Walked.{Goes-dropped, Goes-ref, Stays, ends_at, says, stay_dropped, stay_ref, walk_of}
pub use lib.Dec.{T, lit<}
pub use lib.ListN.{drop as from, get_or, length, length-append, length-drop, length-replicate, length-set, length-take, replicate, set, take, take-append-drop}
pub use mathlib.Core.List.{List, [], map, ◌++◌, ◌∷◌}
pub use mathlib.Core.Path.{ap, refl, subst, sym, ◌∙◌, ◌≡◌}
pub use mir.MapTy.{inst_fn}
pub use mir.Raw.{raw as bare}
pub use mir.Syntax.{Fn, Ty, ty_array, w64}
pub use mir.Val.{Val, of_list, vcons, vint, vnil, vptr, vstruct, vunit}
pub use native.Mathlib.Nat.{suc-mul, zero-mul}
pub use native.Mathlib.Omega.{arith}
pub use prog.Memory.{Memory}
pub use prog.Routine.{Routine}
pub use prog.Wp.{Env, Tables, WpFn}
pub use seplogic.Ra.Ura.{Ura}
pub use types.ByLocal.{alloc_all, env, free_all, get, get_in, give_at, is, look_at, pass_all, sets, sets_last, take_at, through}
pub use types.Kit.{Goal, Item, Seq, Step, at_ret, by, check, done, drop, feq_i, feq_l, fjoin, fjoin3, flt_i, flt_l, fpack, fpick, frame, fsplit, fsplit3, given, join, keep, learn, move, pick, prop}
pub use types.Kit.{qed, raw, rewrite, show, some, split, split3, step, suffices, use0, use1, use2, use3, !, ‵, ◌$◌, ◌∵◌, ◌⊛◌}
pub use types.Logic.{Logic, sem}
pub use types.Part.{agg, look_in, store_in, sub, whole}
pub use types.Run.{addr, and_then, assigns, assigns_last, bin, blocks, enter, exec, first, fld, init, lit, load, look, no_more, of_opd, returns, size_lit, size_word, stop, unit_lit}
