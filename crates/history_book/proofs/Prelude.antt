-- What many proofs of this crate cite, passed on from one place.
pub use Rattle.command_rules.proofs.Cited.{grown_closed, grown_holds, of_one_device, part_kept, rearranged_any, rearranged_count}
pub use Rattle.command_rules.specs.Apart.{are_tied, meet, share_device}
unfoldable pub use Rattle.command_rules.specs.ClosedSets.{IsClosed, IsPart, chosen, closure, others}
pub use Rattle.command_rules.specs.ClosedSets.{either_of, grown, rearranged, widened, wider}
pub use Rattle.command_rules.specs.Items.{is_ran, of_run}
pub use Rattle.command_rules.specs.Rosters.{Run, command_at, commands_of, follows, is_on, is_run, no_command, plain_run, reads_first, reads_unwritten, run_in_roster, runs_of, shares, touches, touches_from, writes_on}
pub use Rattle.history_book.specs.Books.{answer_count, doom_in, doom_of, end_in, end_of, first_told, is_answer_of, placing_in, placing_of}
unfoldable pub use Rattle.history_book.specs.Gaps.{gap_set, split_of}
pub use Rattle.history_book.specs.Gaps.{bars, base_flags, base_of, front_for, is_needed, is_overlapped, line_for}
pub use Rattle.history_book.specs.Histories.{answered, entries_of, entry, is_fall_of, kept_by, line_of, more_if, reading, with_event, with_placed, with_run_told, with_turn}
pub use Rattle.history_book.specs.Joined.{with_joined}
pub use Rattle.history_book.specs.Lines.{Split, behind, is_item_on, put_before, split_at, up_to_first, without}
pub use Rattle.history_book.specs.Plans.{free, is_overwritten, plan_more, planned_end, planned_start, planned_times, whole_end}
pub use Rattle.history_book.specs.Progress.{arrival_in, arrival_of, noted, nothing_done, progress_after, progress_in, progress_of, run_in, tells_of}
pub use Rattle.history_book.specs.ReadHistories.{HistoryState, IsReadWith, read_in, with_entry}
pub use Rattle.history_book.specs.Readings.{Event, First, Last, LogMark, OfRun, OnDevice, PlacedAt, Planned, Reading, asks_on, did, is_access, is_committed, is_committing, is_doomed, is_fine, is_first_mark, is_last_mark, is_live, is_next_on, is_open, next_command, next_of, nothing_read, passed_by, pends, put, span_of, unread, untouched_device, view_by}
pub use Rattle.history_book.specs.Sealed.{BeginsWithSealed, IsPlacedBehind, StaysSealed, sealed_in, sealed_of}
pub use Rattle.history_book.specs.Settings.{Setting, device_numbers, devices_of, is_device, is_weak, scheduler_of}
pub use Rattle.history_book.specs.WellFormed.{Along, IsWellFormed, along, cause_fits, each_entry, is_cause_of, is_well_formed, may_follow, same_cause, suits}
pub use Rattle.history_book.specs.declared.entries.Cause.{Cause}
pub use Rattle.history_book.specs.declared.entries.End.{End}
pub use Rattle.history_book.specs.declared.entries.End.TheVariants.{Aborted, Committed}
pub use Rattle.history_book.specs.declared.entries.Entry.{Entry}
pub use Rattle.history_book.specs.declared.entries.Entry.TheVariants.{Arrived, Did, Doomed, Ended, Fell, Placed, Rose, Undid}
pub use Rattle.history_book.specs.declared.entries.Kept.{Kept}
pub use Rattle.history_book.specs.declared.progress.RunProgress.{RunProgress}
pub use Rattle.home_types.specs.Commands.{driven, holds, is_always, register_after, writes}
pub use Rattle.home_types.specs.Kinds.{kind_at}
pub use Rattle.home_types.specs.Limits.{most_runs}
pub use Rattle.home_types.specs.Listed.{Listed}
pub use Rattle.home_types.specs.declared.commands.Answer.{Answer}
pub use Rattle.home_types.specs.declared.commands.Answer.TheVariants.{Down, Fine, Found, Skipped}
pub use Rattle.home_types.specs.declared.commands.Command.{Command}
pub use Rattle.home_types.specs.declared.items.Item.{Item}
pub use Rattle.home_types.specs.declared.items.Item.TheVariants.{Back, Failed, Ran}
pub use Rattle.home_types.specs.declared.modes.Scheduler.{Scheduler}
pub use Rattle.home_types.specs.declared.modes.Scheduler.TheVariants.{Fcfs, JustInTime, Timeline}
pub use Rattle.home_types.specs.declared.numbers.DeviceNo.{DeviceNo}
pub use Rattle.home_types.specs.declared.numbers.RunNo.{RunNo}
pub use Rattle.std.proofs.Common.{IfNone, ap, append-nil, append_assoc, ap₂, arith, inl, inr, length-append, refl, rules, subst, sym, ◌^◌, ◌∙◌}
pub use Rattle.std.proofs.lemmas.Grind.{common_steps, get_or-set_at}
pub use Rattle.std.proofs.lemmas.List.{get_or-set_other, length-map, length-set, map-append, take-append-drop, take_more}
pub use Rattle.std.proofs.lemmas.List.Folds.{list_all-append, list_any-append}
pub use Rattle.std.proofs.lemmas.List.Sums.{count_by-le-length, fold-append, sum_by-append, sum_by-cons, take_while-cons}
pub use Rattle.std.proofs.lemmas.Option.{slice_get_within, unwrap_or-slice_get}
pub use Rattle.std.specs.List.{cons_option, list_all, list_any, position, position_or_len, range_with_len}
pub use Rattle.std.specs.Option.{option_copied, option_or}
pub use Rattle.std.specs.Prelude.{Bool, Err, IfSome, IsTrue, List, None, Ok, OnErr, OnOk, Option, Result, Some, [], cond, count_by, drop, false, filter, filter_map, find, fold, get_or, if◌then◌else◌, is_none, is_some, length, map, max, nat_lt, not, option_and_then, option_map, option_to_list, replicate, slice_get, slice_index_or, slice_set, suc, take, take_while, true, unwrap_or, zero, ℕ, ⊤, ◌&&◌, ◌++◌, ◌+◌, ◌-◌, ◌<◌, ◌==◌, ◌||◌, ◌∷◌, ◌≡◌, ◌≢◌, ◌≤◌, ◌⊎◌}
