-- What many proofs of this crate cite, passed on from one place.
pub use Rattle.core.proofs.alloc.Calls.{Al, Goes-blank, handle_tells}
pub use Rattle.core.proofs.cell.Inside.{Good}
pub use Rattle.home_states.specs.LiveHomes.{LiveState}
pub use Rattle.home_states.specs.contracts.homes.LiveHome.{the_row}
pub use Rattle.lazbendix_c.specs.Owned.{block_owns}
pub use Rattle.std.proofs.Common.{List, [], ap, lit<, refl, subst, sym, ℕ, ◌++◌, ◌∙◌, ◌∷◌, ◌≡◌, ◌≢◌}
pub use Rattle.std.proofs.raw_atomic.Walks.{leaves, proved_at}
pub use Rattle.std.specs.Prelude.{None, Option, Some}
pub use Rattle.std.specs.contracts.impls.GlobalAllocator.TheImpl.{ghosts}
pub use Rattle.std.specs.declared.alloc.Global.{Global}
pub use Rattle.std_alloc.proofs.BoxSteps.Steps.{box_in, box_out}
pub use Rattle.std_alloc.specs.Box.Ownership.{box_owns}
pub use base.Fml.{Fml, flft, fsep, ftrue}
pub use base.Logic.{SProp, emp, ent, fst∗, id⊢, never}
pub use contract.Monad.{fact, fact_i}
pub use contract.Running.{tables}
pub use denote.Builtin.{RawPtr}
pub use denote.Exit.{no}
pub use denote.Memory.{lone}
pub use denote.Param.{bounded, layout, param}
pub use denote.Param.Laws.{Laws, param_laws}
pub use denote.Param.Send.{AllSend, IsSend, owning_send, part_keyless, sendable, struct_send}
pub use denote.RattleType.{RattleType, Valss, owns}
pub use denote.RawPtr.{Ptr, block_ptr, in_a_block, null_ptr, ptr_val}
pub use denote.Signature.{plain, types_at}
pub use denote.Steps.{heard, nothing, only}
pub use denote.Struct.Owning.{fields, shape, to}
pub use denote.Struct.Struct.{Struct, exits_of, within}
pub use denote.Triple.Call.{calls_at, calls_at_last}
pub use denote.Triple.Entry.{alive}
pub use denote.Triple.Spec.{triple_of}
pub use denote.Triple.Table.{framed}
pub use denote.Triple.Walked.{Goes-dropped, Stays, stay_dropped, walk_of}
pub use mir.MapTy.{inst_fn}
pub use mir.Syntax.{a_type, dcons, dnil, impl, tcons, tnil, ty_ptr, ty_struct}
pub use mir.Val.{Val, WT, has_ty, of_list, vcons, vnil, vptr, vstruct}
pub use prog.Wp.{Env, WpFn}
pub use types.ByLocal.{alloc_all, env, free_all, get, get_in, lands_as, lands_last, look_at, pass_all, sets}
pub use types.Kit.{ !, Goal, Item, Seq, Step, at_ret, await, by, drop, feq_i, feq_l, fjoin, fpack, fpick, fsplit, join, keep, later, move, pick, qed, raw, rewrite, some, split, split3, step, suffices, use0, use1, ‵, ◌$◌, ◌∵◌, ◌⊛◌}
pub use types.Logic.{Logic, sem}
pub use types.Part.{agg, sub, whole}
pub use types.Run.{and_then, blocks, enter, exec, first, fld, lit, no_more, of_opd, returns, stop}
