-- What many proofs of this crate cite, passed on from one place.
pub use Prim.Native.Nat.{◌*◌, ◌-◌, ◌<◌, ◌^◌}
pub use Rattle.chain_arena.specs.Chains.{AreApart, IsCursor, from_knot, has_knot, is_at, put_before, rest_of, set_value, shown, value_at, values_of, without}
pub use Rattle.chain_arena.specs.Linked.{Empties, Fills, IsChain, IsFree, IsLink, IsLinked, IsOn, Joined, Joins, SamePlaces, SetsLeft, SetsRight, knot, knot_at, left, left_in, nil, node, pair_then, pairs_of, right, right_in, value, value_in, walk, with_free, with_value}
pub use Rattle.chain_arena.specs.Places.{IsPlace}
pub use Rattle.chain_arena.specs.contracts.memory.Memory.{the_row, the_type}
pub use Rattle.chain_arena.specs.declared.knots.Knot.{Knot}
pub use Rattle.chain_arena.specs.declared.links.Links.{Links}
pub use Rattle.chain_arena.specs.declared.links.Node.{Node}
pub use Rattle.core.proofs.alloc.Calls.{Answer, Answer-typed, Answered, Gives, Gives-Gives, Gives-goes, Takes, Takes-gives, Takes-goes, answers, at_gives, at_takes, gives_key, takes_key, token}
pub use Rattle.core.proofs.alloc.Resizes.{Flagged, Grows, Resizes, Resizes-gives, Resizes-goes, at_resizes, flagged, left_by, resize_key, times_capped}
pub use Rattle.core.proofs.ptr.Rows.{one_below, times_below}
pub use Rattle.core.proofs.slice.Lists.{hd}
pub use Rattle.core.specs.Allocator.{FitsBlock, array_of, block_with_items}
pub use Rattle.core.specs.Mem.{type_size}
pub use Rattle.core.specs.declared.alloc.Allocator.{Ghosts}
pub use Rattle.std.proofs.Common.{List, None, Option, Some, [], ap, ap₂, arith, false, inl, inr, is_some, length, length-append, length-set, refl, set, subst, suc, sym, true, true≢false, zero, ℕ, ◌+◌, ◌==◌, ◌||◌, ◌∙◌, ◌∷◌, ◌≡◌, ◌≢◌, ◌≤◌, ◌⊎◌}
pub use Rattle.std.proofs.lemmas.Bool.{ne_eqb}
pub use Rattle.std.proofs.lemmas.Grind.{common_steps}
pub use Rattle.std.proofs.lemmas.Option.{slice_get-get_or, slice_get_past, slice_get_within}
pub use Rattle.std.specs.Prelude.{if◌then◌else◌, slice_get}
pub use Rattle.std_alloc.proofs.RawLayout.{as_raw, as_written}
pub use Rattle.std_alloc.proofs.SendSync.{lies, quiet, seen}
pub use Rattle.std_alloc.proofs.VecSteps.El.{El, P, R, args, el_lawful, el_x, elτ, sz, wider}
pub use Rattle.std_alloc.proofs.VecSteps.Rows.{all_room, el_in, empty, put_in, room_split, snoc, spare, take_out}
pub use Rattle.std_alloc.proofs.VecSteps.Shapes.{after, arm_body, front}
pub use base.Fml.{Fml, GName, Incl-trans, Lft, Share, fauth, fbor, ffalse, fhide, flft, flt, fobor, fobs, froom, fsep, ftrue}
pub use base.Fraction.{full_share}
pub use base.Logic.{SProp, ent, ex, fst∗, id⊢, never, sep, snd∗, via}
pub use contract.BorrowLft.{meet_⊑_left, ◌⊑◌}
pub use contract.Monad.{Fun, fact}
pub use contract.Running.{tables}
pub use denote.Array.{Array}
pub use denote.Builtin.{RawPtr, RefMutOf, RefOf, usize}
pub use denote.Exit.{no, yes}
pub use denote.Index.{others, place, place_is}
pub use denote.Memory.{cell_at, each_shared, hidden_shr, lone, mem, part_at, shared_of, shares}
pub use denote.Param.Send.{AllSend, Frees, IsSend, IsSync, array_send, array_sync, owning_send, sendable, struct_send, struct_sync}
pub use denote.RattleType.{RattleType, owns}
pub use denote.RawPtr.{Ptr, block_ptr, in_a_block, null_ptr, ptr_val, room_for, ◌+ₚ◌}
pub use denote.Signature.{plain, types_at}
pub use denote.Steps.{closes, heard, nothing, opens, peeks}
pub use denote.Struct.Lending.{Lends-both, Lends-first, Lends-lies, Lends-said, lent_at, lent_out, of_Lends}
pub use denote.Struct.Owning.{fields, shape, to}
pub use denote.Struct.Struct.{Struct, exits_of}
pub use denote.Triple.Call.{calls_at, calls_at_last}
pub use denote.Triple.Clauses.{Clauses, Ended, closing}
pub use denote.Triple.Spec.{Meets, triple_of}
pub use denote.Triple.Statement.{Triple}
pub use denote.Triple.Table.{entered}
pub use denote.Triple.Walked.{Goes-dropped, Goes-ref, Goes-spent_ref, Stays, ends_at, says, stay_dropped, stay_ref, walk_Meets, walk_of}
pub use lib.Dec.{T, lit<}
pub use lib.ListN.{get_or}
pub use mathlib.Core.Bool.{Bool}
pub use mathlib.Core.List.{◌++◌}
pub use mir.MapTy.{inst_fn}
pub use mir.Syntax.{Body, Fn, Ty, named, ty_array, ty_unit, w64}
pub use mir.Val.{Val, WT, has_ty, of_list, vbool, vcons, vint, vnil, vptr, vstruct, vunit}
pub use prog.Capped.{capped_fits, capped_is}
pub use prog.Memory.{Memory, align, capped}
pub use prog.RawLaws.{align-raw, size-raw}
pub use prog.Routine.{Routine}
pub use prog.Wp.{Env, Tables, Wp, WpFn, after_seq, at_return}
pub use seplogic.Ra.Ura.{Ura}
pub use sound.WpLaws.{WpFn-mono, fm_of}
pub use types.ByLocal.{alloc_all, env, free_all, get, get_in, get_tag, lands_as, lands_last, look_at, pass_all, sets, sets_last, through}
pub use types.Kit.{ !, Goal, Item, Seq, Soaks, Step, any_q, at_ret, await, by, done, drop, feq_i, feq_l, fjoin, fjoin3, flt_i, flt_l, fpack, fpick, frame, fsplit, fsplit3, given, group, join, keep, later, learn, move, pick, qed, raw, rewrite, some, split, split3, step, suffices, use0, use1, use2, use3, ‵, ⋆, ◌$◌, ◌∵◌, ◌⊛◌}
pub use types.Logic.{Logic, sem}
pub use types.Match.{in_variant, live, vrt}
pub use types.Part.{agg, look_in, store_in, sub, whole}
pub use types.Run.{addr, align_word, and_then, assigns, assigns_last, bin, blocks, enter, exec, false_lit, first, fld, init, lit, load, look, no_more, of_opd, returns, size_lit, size_word, stop, switches_on, true_lit, unit_lit}
