-- What many proofs of this crate cite, passed on from one place.
pub use Rattle.command_rules.specs.Rosters.{commands_of, device_no, is_run, reads_first, run_no, touches}
pub use Rattle.history_book.specs.Books.{doom_of}
pub use Rattle.history_book.specs.Readings.{Reading, did, is_doomed, is_live, pends}
pub use Rattle.history_book.specs.Settings.{Setting}
pub use Rattle.history_book.specs.declared.entries.Kept.{Kept}
pub use Rattle.home_types.specs.declared.items.Item.{Item}
pub use Rattle.home_types.specs.declared.items.Item.TheVariants.{Back, Failed, Ran}
pub use Rattle.home_types.specs.declared.numbers.RunNo.{RunNo}
pub use Rattle.jit_scheduler.specs.Admissions.{Admitting, IsAdmissionOf, IsPlaceOfLine, IsPlacingOf, IsToBePlaced, MayAdmit, admission, admitted_placing, answer_by}
pub use Rattle.jit_scheduler.specs.Denials.{denial_on, denier, first_denial, only_before, stands_before}
pub use Rattle.lineage_table.specs.Accesses.{accesses_before, effective_writer, first_before, is_released}
pub use Rattle.lineage_table.specs.Lineages.{accesses_at, lineage_at}
pub use Rattle.lineage_table.specs.declared.accesses.Access.{Access}
pub use Rattle.lock_leasing.proofs.Cited.{EachTail, Facts, HasAccess, command_pends, facts_of, has_work, live_writer, place_within, run_in, workers_have_access, writer_has_effect, writer_is}
pub use Rattle.lock_leasing.specs.Configurations.{Configuration, Grips, grips_command, point, point_of, read_of}
pub use Rattle.lock_leasing.specs.Holders.{access_holds, holder_before, is_writer}
pub use Rattle.lock_leasing.specs.Places.{Denial, DeniedBy, Placing, denial_of, denied_by, first_place, first_some, just_in_time, patience}
pub use Rattle.lock_leasing.specs.Standings.{IsStandingOf, WindowParts}
pub use Rattle.lock_leasing.specs.Tables.{EachTellsOfRun, IsLineageOf, TellsOfRun, runs_with_access, status_by_answers, uses}
pub use Rattle.lock_leasing.specs.Words.{Write, effective_write, effective_writer_of, has_effect, holds_device, live_runs}
pub use Rattle.serial_line.specs.Marks.{Mark, is_item, items_of}
pub use Rattle.std.proofs.Common.{ap, ap₂, arith, cond, refl, subst, sym, ◌-◌, ◌∙◌}
pub use Rattle.std.proofs.lemmas.Grind.{common_steps}
pub use Rattle.std.specs.List.{cons_option, list_any, prefix_len, range_with_len}
pub use Rattle.std.specs.Option.{option_or}
pub use Rattle.std.specs.Prelude.{Bool, IsTrue, List, None, Option, Some, [], false, filter, find, if◌then◌else◌, is_some, length, map, nat_le, nat_lt, not, option_and_then, option_map, position, suc, take, true, unwrap_or, zero, ℕ, ◌&&◌, ◌+◌, ◌<◌, ◌==◌, ◌||◌, ◌∷◌, ◌≡◌, ◌≢◌, ◌≤◌}
