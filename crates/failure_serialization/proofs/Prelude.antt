-- What many proofs of this crate cite, passed on from one place.
pub use Rattle.command_rules.specs.Rosters.{device_no, run_no, touches}
pub use Rattle.failure_serialization.specs.Events.{event_place, first_waiting, is_lost, is_sound, is_up_view, lost_run, place_or_end, waits}
pub use Rattle.history_book.specs.Books.{doom_of}
pub use Rattle.history_book.specs.declared.entries.Kept.{Kept}
pub use Rattle.home_types.specs.declared.items.Item.TheVariants.{Back, Failed, Ran}
pub use Rattle.home_types.specs.declared.numbers.RunNo.{RunNo}
pub use Rattle.lineage_table.specs.Accesses.{accesses_before, first_before, has_access, is_acquired, is_of, is_scheduled, status_of}
pub use Rattle.lineage_table.specs.Lineages.{LineageState, accesses_at, lineage_at}
pub use Rattle.lineage_table.specs.declared.accesses.Access.{Access}
pub use Rattle.lineage_table.specs.declared.accesses.Status.TheVariants.{Acquired, Released, Scheduled}
pub use Rattle.serial_line.proofs.Cited.{items_inserted, place_told, unsealed_place}
pub use Rattle.serial_line.specs.Marks.{Mark, Marked, items_of, place_of, untouched, with_item}
pub use Rattle.std.proofs.Common.{ap, arith, cond, refl, rules, subst, sym, ◌∙◌}
pub use Rattle.std.proofs.lemmas.Grind.{common_steps}
pub use Rattle.std.specs.List.{list_any}
pub use Rattle.std.specs.Prelude.{Bool, List, None, Option, Some, [], drop, false, find, if◌then◌else◌, is_none, is_some, length, map, not, option_map, take, true, unwrap_or, ℕ, ◌&&◌, ◌++◌, ◌<◌, ◌==◌, ◌||◌, ◌∷◌, ◌≡◌, ◌≤◌}
