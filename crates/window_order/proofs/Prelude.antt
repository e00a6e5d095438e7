-- What many proofs of this crate cite, passed on from one place.
pub use Rattle.command_rules.specs.Items.{is_ran, of_run}
pub use Rattle.command_rules.specs.Rosters.{Run, command_at, commands_of, device_no, is_on, is_run, no_command, plain_run, run_no, touches, touches_from}
pub use Rattle.device_order.proofs.Cited.{Cut, EventCut, access_died, alone_behind, calm_entries, command_out, cut, cut_at, device_restarted, down_answered, down_unseen, effect, effective_entries, event_cut, has_entries, held_end, next_used, one_spans, order_serial, pair_more, probe_died, probe_died_under_run, probe_found_down, probe_found_up, probe_out, read_answered, read_covered, restart_loses_none, run_commits, run_doomed, run_leaves_line, run_placed, skip_answered, stand_line, summary_more, two_places, undo_answered, undo_died, undo_dropped, undo_loses_none, undo_out, untouched_after, untouched_behind, used_at, uses_rest, waits_calm, walk_back, window_begins, write_answered}
pub use Rattle.device_order.specs.Invariant.{DeviceFits, DeviceInvariant}
unfoldable pub use Rattle.device_order.specs.LineChanges.{Lacks, line_with_event}
pub use Rattle.device_order.specs.LineChanges.{waits_at}
unfoldable pub use Rattle.device_order.specs.LineEntries.{entries}
pub use Rattle.device_order.specs.LineEntries.{command_grip, entry_if, entry_of, stage_of, usage, with_order_entry}
unfoldable pub use Rattle.device_order.specs.LineWords.{RunsAreDistinct, any_run, is_calm_line, last_in_effect}
pub use Rattle.device_order.specs.LineWords.{CutAt, at_device, standing_value_on}
pub use Rattle.device_order.specs.Records.{walk_start}
unfoldable pub use Rattle.device_order.specs.RunStates.{paired, remaining}
pub use Rattle.device_order.specs.RunStates.{RunState, RunStates, answered_commands, device_summary, rest, uses_device}
unfoldable pub use Rattle.device_order.specs.Summaries.{AnswersFit, AreHomed, NoCommandFails, summary}
pub use Rattle.device_order.specs.Summaries.{DeviceSummary, Summary, blank, device_summary_then, first_view, summary_then}
pub use Rattle.device_order.specs.Usages.{awaits_first, has_pending, has_used_device, holds_command, holds_grip, holds_undo, is_free, is_in_effect, is_seen_down, is_up, spans_up, stage_is_committed, stage_is_open}
unfoldable pub use Rattle.device_order.specs.Walks.{WalkHolds, effective, has, walk_end}
pub use Rattle.device_order.specs.Walks.{GripFits, after_usage, if_written, is_command_out, is_home, is_write_settled, written_or_first}
pub use Rattle.device_order.specs.WindowSteps.{ChangesInPlace, GetsAnswer, KeepsElsewhere, KeepsRuns, MayAnswerDown, MayUndo, with_event_in}
pub use Rattle.device_order.specs.Windows.{HasLiveWriteAt, IsCovered, IsPendingAt, OrderIsSerial, RunInvariant, WindowInvariant, device_record}
pub use Rattle.device_order.specs.declared.records.Event.TheVariants.{Failure, Restart}
pub use Rattle.device_order.specs.declared.records.HeldGrip.TheVariants.{Free, Reads, Writes}
pub use Rattle.device_order.specs.declared.records.OrderEntry.{OrderEntry}
pub use Rattle.device_order.specs.declared.records.OrderEntry.TheVariants.{Occurred, Used}
pub use Rattle.device_order.specs.declared.records.Usage.{Usage}
pub use Rattle.device_order.specs.declared.walks.WalkState.{WalkState}
pub use Rattle.history_book.proofs.Cited.{IsShaped, Logged, ReadsOwn, Shaped, Standing, StandsOnce, aborted, among_more, any_insert, any_other, any_put_before, any_without, asks_guard, asks_next, count_append, count_insert, did_not_passed, did_touches, differ, each_found, first_holds, is_abort, is_among, is_event_of, is_stray, line_any, line_count, line_part, live_own, logged, logged_step, map_none, map_some, masked, own_commands, own_devices, own_passed, own_pends, own_touches, part, pending_not_passed, put_all, put_keeps, put_other, put_same, shapes, some_is, split_any, standing, stands_in, stands_once}
pub use Rattle.history_book.specs.Histories.{answered, answers_in, entry, executed, more_if, reading, with_event, with_placed}
pub use Rattle.history_book.specs.Lines.{before, behind, is_event_on, is_item_on, put_before, split_at, without}
pub use Rattle.history_book.specs.Plans.{planned_end, planned_start, planned_times}
pub use Rattle.history_book.specs.Readings.{Event, First, Last, LogMark, OfRun, OnDevice, PlacedAt, Planned, Reading, asks_on, did, events_of, has_written, is_access, is_committed, is_committing, is_doomed, is_event, is_fine, is_first_mark, is_last_mark, is_live, is_open, is_told, next_command, next_of, nothing_read, passed_by, pends, put, sees_down, sees_up, span_of, unread, view_by, view_of}
pub use Rattle.history_book.specs.Settings.{Setting, device_numbers, devices_of, is_device, is_weak, scheduler_of}
pub use Rattle.history_book.specs.WellFormed.{IsWellFormed, along, is_cause_of, may_follow, same_cause}
pub use Rattle.history_book.specs.declared.entries.Cause.{Cause}
pub use Rattle.history_book.specs.declared.entries.End.{End}
pub use Rattle.history_book.specs.declared.entries.End.TheVariants.{Aborted, Committed}
pub use Rattle.history_book.specs.declared.entries.Entry.{Entry}
pub use Rattle.history_book.specs.declared.entries.Entry.TheVariants.{Arrived, Did, Doomed, Ended, Fell, Placed, Rose, Undid}
pub use Rattle.home_types.specs.Commands.{driven, fails, holds, reads, register_after}
pub use Rattle.home_types.specs.HomeStates.{nowhere, stand_at}
pub use Rattle.home_types.specs.Kinds.{kind_at}
pub use Rattle.home_types.specs.declared.commands.Answer.{Answer}
pub use Rattle.home_types.specs.declared.commands.Answer.TheVariants.{Fine, Found, Skipped}
pub use Rattle.home_types.specs.declared.commands.Command.{Command}
pub use Rattle.home_types.specs.declared.commands.View.{View}
pub use Rattle.home_types.specs.declared.commands.View.TheVariants.{Down, Up}
pub use Rattle.home_types.specs.declared.items.Item.{Item}
pub use Rattle.home_types.specs.declared.items.Item.TheVariants.{Back, Failed, Ran}
pub use Rattle.home_types.specs.declared.kinds.Kind.{Kind}
pub use Rattle.home_types.specs.declared.numbers.DeviceNo.{DeviceNo}
pub use Rattle.home_types.specs.declared.numbers.RunNo.{RunNo}
pub use Rattle.lineage_table.proofs.Cited.{ChangedUpTo, acquired_at, before_at, behind_at, changed_all, changed_more, changed_none, no_access, none_behind, pairs_back, pairs_from_all, pairs_front, pass_at, put_at, status_at, without_at, without_none, written_at}
pub use Rattle.lineage_table.specs.Accesses.{AreInTurn, AreOfTwoRuns, IsDisciplined, access_of, accesses_before, accesses_behind, accesses_without, first_before, has_access, is_acquired, is_of, is_released, is_scheduled, put_access_before, put_before_run, run_behind, some_acquired, some_scheduled, status_of, with_change, written_by}
pub use Rattle.lineage_table.specs.Lineages.{LineageState, TableIsOpened, accesses_at, acquired, committed_lineage, counted_up, lineage_at, no_lineage, released, removed, runs_on, scheduled, settled, undone, with_lineage, with_more_room}
pub use Rattle.lineage_table.specs.declared.accesses.Access.{Access}
pub use Rattle.lineage_table.specs.declared.accesses.Status.{Status}
pub use Rattle.lineage_table.specs.declared.accesses.Status.TheVariants.{Acquired, Released, Scheduled}
pub use Rattle.lock_leasing.proofs.Cited.{before_first, before_none, clear_touch, effect_is, joined_grips, last_filter, none_beside, unbound_touch}
pub use Rattle.lock_leasing.specs.Configurations.{Grip, Grips, Point, grips_command, grips_undo, is_command, is_out, is_undo, no_grips, point}
pub use Rattle.lock_leasing.specs.Order.{InHistoryOrder, OrderStands, SettledAgree, committed_home, committed_value, covers, firsts_of_line, firsts_of_log, has_live_write, has_read_first, is_covered, is_in_line, is_late, is_settled, is_touched, live_writes_are_covered, marks_of_line, marks_of_log, open_runs_are_last, opens, settled_items}
pub use Rattle.lock_leasing.specs.Places.{GripsFit, IsClear, binds, in_order, up_to_first}
pub use Rattle.lock_leasing.specs.Tables.{EachTellsOfRun, Represents, TellsOfRun, is_at_work, may_be_passed, runs_with_access, some_in_use, status_by_answers, uses, view_when}
pub use Rattle.lock_leasing.specs.Waits.{behind_wait, busy_wait, dirty_wait, grip_wait, lost_by}
pub use Rattle.lock_leasing.specs.Words.{Write, committed_write, effective_write, effective_writer_of, has_effect, has_touched, holds_device, is_undone, last_some, live_before, live_runs, next_undo_of, standing_value, value_without, write_of}
pub use Rattle.lock_leasing.specs.declared.purposes.Purpose.{Purpose}
pub use Rattle.lock_leasing.specs.declared.purposes.Purpose.TheVariants.{Commands, Probes, Undoes}
pub use Rattle.serial_line.proofs.Cited.{front_inserted, front_settling, front_without, line_empty, line_inserted, line_rearranged, line_removed, line_retold, line_settling, line_touching, run_comes}
pub use Rattle.serial_line.specs.Marks.{Mark, front_of, is_failure, is_item, is_open_run, is_restart_of, items_of, marks_without, settling, stands, touching, untouched, with_item}
pub use Rattle.std.proofs.Common.{ap, append_assoc, ap₂, arith, inl, inr, length-append, refl, set, subst, sym, ◌∙◌}
pub use Rattle.std.proofs.lemmas.Bool.{and_parts, and_right, both_ways, eq-eqb, eqb-false, eqb-true, ltb-true, ne_eqb, not-true, or_from, or_left, or_parts, or_right}
pub use Rattle.std.proofs.lemmas.Grind.{common_steps}
pub use Rattle.std.proofs.lemmas.List.{append-nil, drop_all, drop_more, ext_get_or, get_or-set_other, get_or-set_same, length-map, length-set, set-get_or, set-set, take-append-drop, take_all}
pub use Rattle.std.proofs.lemmas.List.Folds.{list_all-append, list_any-append}
pub use Rattle.std.proofs.lemmas.List.Sums.{fold-append, sum_by-cons, take_while-cons}
pub use Rattle.std.specs.List.{All, AllByRecursion, AllPairs, cons_option, list_all, list_any, range_with_len}
pub use Rattle.std.specs.Option.{ForSome, option_map_or, option_or}
pub use Rattle.std.specs.Prelude.{Bool, IsTrue, List, None, Option, Some, [], cond, count_by, drop, false, filter, filter_map, find, fold, get_or, if◌then◌else◌, is_none, is_some, length, map, nat_lt, not, option_and_then, option_map, option_to_list, slice_get, slice_index_or, slice_set, suc, take, take_while, true, unwrap_or, zero, ℕ, ◌&&◌, ◌++◌, ◌+◌, ◌-◌, ◌<◌, ◌==◌, ◌||◌, ◌∷◌, ◌≡◌, ◌≢◌, ◌≤◌, ◌⊎◌}
pub use Rattle.window_order.specs.MarksKept.{MarksAreKept}
pub use Rattle.window_order.specs.OrderKept.{OrderIsKept}
pub use Rattle.window_order.specs.ReadWindows.{held_by, held_for, probe_for_purpose, probe_of, run_state, window_of}
pub use Rattle.window_order.specs.TableChanges.{ChangesEach, IsFirst, IsNewOn, IsWaiting, accesses_from, acquired_if, answer_noted, answered_change, answered_lineage, doomed_change, doomed_lineage, doomed_unless, first_with_access, from_run, has_acquired, is_done_there, is_named_device, pass_access, passed, passed_if, placed_change, released_if, rescheduled, skipped_change, skipped_lineage, told_write, turned_change, undone_change, waiting_access, waits_again, with_again, with_again_from, with_passed, written_if}
pub use Rattle.window_order.specs.TableKept.{LineageIsKept, TableIsKept, access_read, accesses_along, accesses_read, commits_write, unplaced_among, unplaced_on}
