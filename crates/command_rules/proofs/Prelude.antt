-- What many proofs of this crate cite, passed on from one place.
unfoldable pub use Rattle.command_rules.specs.ClosedSets.{IsClosed, IsPart, brought, chosen, closure, either_of, exchanged, others}
pub use Rattle.command_rules.specs.ClosedSets.{BarsRise, Exchanged, HoldsFirst, IsFitting, IsLeast, Meets, Stays, Swaps, are_apart, grown, may_pass, rearranged, widened, wider}
pub use Rattle.command_rules.specs.Footprints.{AreFootprints, FitsIndex, IsFootprint, alone, ends_use}
pub use Rattle.command_rules.specs.Rosters.{Run, commands_of, estimate_to_last, followed_by, follows, is_on, is_run, no_command, plain_run, reads_first, reads_unwritten, run_in_roster, runs_of, settles, shares, touches, writes_on}
pub use Rattle.command_rules.specs.declared.indexed_rosters.Footprint.{Footprint}
pub use Rattle.command_rules.specs.declared.rosters.RosterRun.{RosterRun}
pub use Rattle.home_types.proofs.Cited.{contains_insert, contains_remove, or_bit, snoc_get}
pub use Rattle.home_types.specs.Commands.{is_always, reads, writes}
pub use Rattle.home_types.specs.DeviceSets.{Devices, Meet}
pub use Rattle.home_types.specs.declared.commands.Command.{Command}
pub use Rattle.std.proofs.Common.{add_assoc, ap, append_assoc, arith, cond, inl, inr, length-append, refl, rules, subst, sym, zero-add, ◌*◌, ◌∙◌}
pub use Rattle.std.proofs.lemmas.Grind.{common_steps}
pub use Rattle.std.proofs.lemmas.List.{at_drop_more, drop_all, drop_more, get_or_default, length-map, map-append, take-append-drop}
pub use Rattle.std.specs.List.{list_any}
pub use Rattle.std.specs.Option.{option_copied, option_or}
pub use Rattle.std.specs.Ordering.{nat_cmp}
pub use Rattle.std.specs.Prelude.{Bool, IfNone, IfSome, IsTrue, List, None, Option, Some, [], bit_or, count_by, drop, false, filter, find, fold, get_or, if◌then◌else◌, length, map, nat_le, not, option_and_then, option_map, slice_get, slice_index_or, suc, take, true, unwrap_or, zero, ℕ, ◌&&◌, ◌++◌, ◌+◌, ◌-◌, ◌<◌, ◌==◌, ◌^◌, ◌||◌, ◌∷◌, ◌≡◌, ◌≤◌, ◌⊎◌}
