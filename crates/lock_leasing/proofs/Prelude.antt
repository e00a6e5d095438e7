-- What many proofs of this crate cite, passed on from one place.
pub use Rattle.command_rules.proofs.Cited.{grown_least, last_told, last_within}
unfoldable pub use Rattle.command_rules.specs.ClosedSets.{IsPart, chosen}
pub use Rattle.command_rules.specs.ClosedSets.{BarsRise, IsLeast, others, rearranged}
pub use Rattle.command_rules.specs.Items.{is_ran, of_run}
pub use Rattle.command_rules.specs.Rosters.{Run, command_at, commands_of, estimate_to_last, followed_by, follows, is_on, is_run, no_command, reads_first, reads_unwritten, run_no, runs_of, shares, touches, writes_on}
pub use Rattle.command_rules.specs.Searches.{last_place}
pub use Rattle.history_book.proofs.Cited.{Each, ReadsOwn, Shaped, Standing, StandsOnce, any_parted, asks_next, base_length, committed_in, did_not_passed, did_touches, doom_is, end_is, first_holds, first_within, gap_holds, gaps_behind, is_abort, line_length, live_own, map_some, masked, own_commands, own_follows, own_pends, own_touches, pending_not_passed, placing_is, same_devices, same_gap, same_split, shapes, some_is, standing, stands_in, stands_once}
pub use Rattle.history_book.specs.Books.{doom_of, end_of}
unfoldable pub use Rattle.history_book.specs.Gaps.{gap_set}
pub use Rattle.history_book.specs.Gaps.{bars, base_of, is_needed, line_for, split_of}
pub use Rattle.history_book.specs.Lines.{Split, before, is_event_on, put_before, split_at}
pub use Rattle.history_book.specs.Plans.{Planning, free, greatest, plan_more, planned_end, planned_start, planned_times, whole_end}
pub use Rattle.history_book.specs.Readings.{OfRun, PlacedAt, Planned, Reading, asks_on, did, has_written, is_committed, is_committing, is_doomed, is_live, is_next_on, is_open, next_of, passed_by, pends, sees_down, view_of}
pub use Rattle.history_book.specs.Settings.{Setting, device_numbers, devices_of, is_device, scheduler_of}
pub use Rattle.history_book.specs.declared.entries.Kept.{Kept}
pub use Rattle.home_types.specs.Commands.{holds, reads}
pub use Rattle.home_types.specs.declared.commands.Command.{Command}
pub use Rattle.home_types.specs.declared.items.Item.{Item}
pub use Rattle.home_types.specs.declared.items.Item.TheVariants.{Back, Failed, Ran}
pub use Rattle.home_types.specs.declared.modes.Scheduler.{Scheduler}
pub use Rattle.home_types.specs.declared.modes.Scheduler.TheVariants.{Fcfs, JustInTime, Timeline}
pub use Rattle.home_types.specs.declared.numbers.RunNo.{RunNo}
pub use Rattle.lineage_table.specs.Accesses.{access_of, accesses_before, accesses_without, effective_writer, first_before, has_access, is_released, value_standing}
pub use Rattle.lineage_table.specs.Lineages.{accesses_at, lineage_at}
pub use Rattle.lineage_table.specs.declared.accesses.Access.{Access}
pub use Rattle.lock_leasing.specs.Configurations.{Configuration, Grip, Grips, grips_command, grips_undo, is_command, is_undo, point, point_of, read_of}
pub use Rattle.lock_leasing.specs.Counts.{up_to, up_to_committed, up_to_followed, up_to_touched}
pub use Rattle.lock_leasing.specs.Holders.{access_holds, dirty_writer, holder_before, is_down_view, is_writer, reads_its_place, sees_it_down, writer_before}
pub use Rattle.lock_leasing.specs.Leases.{IsBorrowedFrom, IsDeadlineOf, IsNeverOverdue, IsOverdueOf, access_borrows, access_deadline, access_is_overdue, placed_at}
pub use Rattle.lock_leasing.specs.Order.{committed_value, covers, is_touched, open_runs_are_last}
pub use Rattle.lock_leasing.specs.Places.{At, Denial, DeniedBy, GripsFit, IsClear, IsEarliestSet, IsScheduled, MayBeOut, Placing, at_end, binds, denial_of, denied_by, first_place, first_some, in_order, just_in_time, patience, plan_end, scheduled_place, timeline, up_to_first, up_to_last}
pub use Rattle.lock_leasing.specs.Standings.{Asking, IsAsking, IsAtCommand, IsRosterFor, IsStandingOf, Leasing, MayAsk, MayLease, WindowParts, has_ended, item_has_touched}
pub use Rattle.lock_leasing.specs.Tables.{EachTellsOfRun, IsLineageOf, TellsOfRun, runs_with_access, status_by_answers, uses, view_when}
pub use Rattle.lock_leasing.specs.Touches.{IsTouchOf, touch_by, touch_of}
pub use Rattle.lock_leasing.specs.Waits.{behind_wait, dirty_wait, strict_wait}
pub use Rattle.lock_leasing.specs.Words.{Write, borrower_from, committed_write, effective_write, effective_writer_of, has_effect, has_touched, holds_device, is_borrower, is_overdue, is_undone, lease_deadline, live_before, live_runs, next_undo_of, overdue_for, stamp_of, tenth_up, value_without, write_of}
pub use Rattle.serial_line.proofs.Cited.{front_in_line, last_counted, last_in_line, meets_by, place_is, place_told, place_unfound, up_to_either}
pub use Rattle.serial_line.specs.Marks.{Mark, all_differ, front_of, is_item, items_of, last_meeting, place_of, untouched}
pub use Rattle.std.proofs.Common.{ap, ap₂, arith, cond, refl, rules, subst, subst₂, sym, ◌∙◌}
pub use Rattle.std.proofs.lemmas.Bool.{eq-eqb, or_right}
pub use Rattle.std.proofs.lemmas.Grind.{common_steps}
pub use Rattle.std.proofs.lemmas.List.Folds.{fold_along, list_any-append}
pub use Rattle.std.proofs.lemmas.List.Sums.{fold-append, sum_by-cons, take_while-cons}
pub use Rattle.std.specs.List.{cons_option, list_any, position_or_len, range_with_len}
pub use Rattle.std.specs.Option.{option_or}
pub use Rattle.std.specs.Prelude.{Bool, IsTrue, List, None, Option, Some, [], count_by, drop, false, filter, find, fold, if◌then◌else◌, is_none, is_some, length, map, max, min, nat_le, nat_lt, not, option_map, position, slice_get, slice_index_or, suc, take, true, unwrap_or, zero, ℕ, ⊤, ◌&&◌, ◌++◌, ◌+◌, ◌<◌, ◌==◌, ◌||◌, ◌∷◌, ◌≡◌, ◌≤◌}
