-- What many proofs of this crate cite, passed on from one place.
pub use Rattle.command_rules.specs.Items.{is_ran, of_run}
pub use Rattle.command_rules.specs.Rosters.{Run, command_at, commands_of, device_no, estimate_to_last, followed_by, follows, is_on, is_run, no_command, plain_run, reads_first, run_in_roster, run_no, runs_of, shares, touches, touches_from}
pub use Rattle.device_gate.specs.Calls.{answer_told, has_died, held_after, is_counted_up, may_tell, probed, turns_of, value_after}
pub use Rattle.device_gate.specs.Grips.{Gripped, WasCalled}
pub use Rattle.device_gate.specs.Places.{AllHome, AreNumbered, IsFirstOut, IsHome, IsKept, all_home, slip_of}
pub use Rattle.device_gate.specs.declared.gates.Place.{Place}
pub use Rattle.device_gate.specs.declared.gates.Place.TheVariants.{Home, Out}
pub use Rattle.device_gate.specs.declared.grips.Done.{Done}
pub use Rattle.device_gate.specs.declared.slips.Slip.{Slip}
pub use Rattle.device_gate.specs.declared.slips.Task.{Task}
pub use Rattle.device_gate.specs.declared.slips.Told.{Told}
pub use Rattle.device_gate.specs.declared.slips.Told.TheVariants.{Died, Sensed, Worked}
pub use Rattle.device_states.specs.Devices.{MayBeProbed, Shown}
pub use Rattle.history_book.proofs.Cited.{Along_joined, Along_more, Each, IsShaped, Logged, MayTake, ReadsOwn, Shaped, Standing, aborted, along_joined, along_on, any_insert, any_left, any_other, any_put_before, any_taken, any_without, base_length, begins_with_sealed, count_append, count_insert, count_put_before, did_live, did_touches, doom_is, doomed_live, each_at, each_filter, each_found, each_more, each_on, entries_on, fell_is, first_holds, formed_joined, gap_closed, is_abort, is_stray, line_any, line_follows, line_length, live_own, map_some, none_is, none_strays, own_commands, own_devices, own_run, own_shares, own_start, part, put_all, put_keeps, put_other, put_same, reading_more, reading_on, run_place, same_reading, sealed_on, shapes, shapes_step, size_is, some_is, span_more, split_count, split_part, standing, stands_in, stays_itself, takes_first, takes_rest}
unfoldable pub use Rattle.history_book.specs.Gaps.{gap_set, split_of}
pub use Rattle.history_book.specs.Gaps.{bars, base_flags, base_of, front_for, is_needed, line_for}
pub use Rattle.history_book.specs.Histories.{answered, entries_of, entry, is_fall_of, kept_by, line_after, line_of, moment_of, more_if, reading}
pub use Rattle.history_book.specs.Lines.{Split, before, behind, is_item_on, put_before, split_at, up_to_first, without}
pub use Rattle.history_book.specs.Packed.{entries_made}
pub use Rattle.history_book.specs.Plans.{free, greatest, planned_end, planned_start, planned_times}
pub use Rattle.history_book.specs.ReadHistories.{HistoryState, read_in, with_doom, with_entry, with_lost, with_more}
pub use Rattle.history_book.specs.Readings.{Event, First, Last, LogMark, OfRun, OnDevice, PlacedAt, Planned, Reading, asks_on, did, events_of, has_written, is_access, is_committed, is_committing, is_doomed, is_fall, is_fine, is_first_mark, is_last_mark, is_live, is_open, is_told, next_command, next_of, nothing_read, passed_by, pends, put, same_answer, sees_down, sees_up, span_of, unread, view_by, view_of}
pub use Rattle.history_book.specs.Settings.{Setting, device_numbers, devices_of, is_device, is_strict, is_weak, run_numbers, scheduler_of}
pub use Rattle.history_book.specs.WellFormed.{Along, IsWellFormed, along, cause_fits, each_entry, is_well_formed, may_act, may_follow, same_cause, suits}
pub use Rattle.history_book.specs.declared.entries.Cause.{Cause}
pub use Rattle.history_book.specs.declared.entries.Cause.TheVariants.{DownAtEnd, Lost, MustDown, Refuted, Revoked}
pub use Rattle.history_book.specs.declared.entries.End.{End}
pub use Rattle.history_book.specs.declared.entries.End.TheVariants.{Aborted, Committed}
pub use Rattle.history_book.specs.declared.entries.Entry.{Entry}
pub use Rattle.history_book.specs.declared.entries.Entry.TheVariants.{Arrived, Did, Doomed, Ended, Fell, Placed, Rose, Undid}
pub use Rattle.history_book.specs.declared.entries.Kept.{Kept}
pub use Rattle.home_types.specs.Commands.{driven, fails, holds, reads, refutes, register_after, writes}
pub use Rattle.home_types.specs.HomeStates.{nowhere, stand_at}
pub use Rattle.home_types.specs.Kinds.{has_value, kind_at, nearest}
pub use Rattle.home_types.specs.declared.commands.Answer.{Answer}
pub use Rattle.home_types.specs.declared.commands.Answer.TheVariants.{Down, Fine, Found, Skipped}
pub use Rattle.home_types.specs.declared.commands.Command.{Command}
pub use Rattle.home_types.specs.declared.items.Item.{Item}
pub use Rattle.home_types.specs.declared.items.Item.TheVariants.{Back, Failed, Ran}
pub use Rattle.home_types.specs.declared.kinds.Kind.{Kind}
pub use Rattle.home_types.specs.declared.modes.Scheduler.{Scheduler}
pub use Rattle.home_types.specs.declared.modes.Scheduler.TheVariants.{Fcfs, JustInTime, Timeline}
pub use Rattle.home_types.specs.declared.modes.Visibility.{Visibility}
pub use Rattle.home_types.specs.declared.numbers.DeviceNo.{DeviceNo}
pub use Rattle.home_types.specs.declared.numbers.RunNo.{RunNo}
pub use Rattle.home_types.specs.declared.worlds.Stand.{Stand}
pub use Rattle.hub_core.specs.BlockedRuns.{EndNoWait, IsBlocked, IsElsewhere, NeverRevokes, is_at_command, is_quiet, is_wait, next_device}
pub use Rattle.hub_core.specs.Bounds.{IsBounded, is_doom, is_end, most_entries, most_events, most_items}
pub use Rattle.hub_core.specs.Homes.{AreNew, CountsAreLow, HomeIsKept, HomeState, IsNew, setting_for}
pub use Rattle.hub_core.specs.HubCalls.{Answers, DeviceGoesOut, HomeAfter, HubStands, IsGiven, IsNextGrip, IsOpened, IsProbeGiven, IsProbed, IsTurn, NoneFails, PlansEarliest, RunsHaveEnded, SameWindow, SomeRunMoves, WindowIsClosed, carried_by, probes_taken}
pub use Rattle.hub_core.specs.HubKept.{ActsInTurn, ConfigurationIsKept, EachOut, FollowersStand, HistoryIsKept, NoneAnsweredDoomed, UndosFit, is_of_run, is_placed_later, is_probed, keeps_leases, placed_in_order, probes_of, undo_fits}
pub use Rattle.hub_core.specs.HubSteps.{Carried, Chose, Gave, Give, GiveProbe, HubState, HubStep, IsSlipOf, ProbeTaken, Probed, Refused, Returned, RunGiven, SlipFits, Take, TakeProbe, carried_after, carrying, command_task, entries_back, give, give_if, give_probe, is_kept, same_carried, same_optional, same_slip, same_task, stranger, take_probe, task_of}
pub use Rattle.hub_core.specs.HubsKept.{FitsAtHome, FitsOut, HasRoomLeft, HubIsKept, IsWhole, all_probes_taken, is_away, open_of}
pub use Rattle.hub_core.specs.KeptByModel.{IsKeptByModel}
pub use Rattle.hub_core.specs.OpenHubs.{OpenHub, carried_in, configuration_of, events_in, held_in, hub_state_of}
pub use Rattle.hub_core.specs.Openings.{MayOpen, is_fcfs, is_mode, names_values_of}
pub use Rattle.hub_core.specs.OrderStates.{HasFallen, HasRisen, IsLostTo, IsOrderOf, LineageIsBare, MayTurn, OrderIsBeside, TableFits, hand_of}
pub use Rattle.hub_core.specs.Steps.{Absent, Choice, HandsOut, Moves, Over, Waits, aborts, after_choice, after_give, after_take, after_take_probe, answers_down, at_moment, behind_case, busy_case, choice_of, command_cases, command_entries, decide, decide_answered, decide_arrived, decide_command, decide_doomed, dirty_case, down_case, down_entries, first_case, give_entries, may_probe, not_quiet, only_if, opened, overdue_case, place_choice, probe_entries, probe_grip, restored, skip_entries, strict_case, undo_cases, undo_choice, undo_entries, with_entries, with_grip}
pub use Rattle.hub_core.specs.declared.decisions.Chosen.TheVariants.{Aborts, AnswersDown, Arrives, Commits, Drops, FailsAtEnd, Joins, Revokes, Skips}
pub use Rattle.hub_core.specs.declared.open_windows.OpenWindow.TheInside.{Inside}
pub use Rattle.legal_days.proofs.Cited.{at_place, count_cons, joined_clean, joined_justified, joined_strict, same_told, shown}
pub use Rattle.legal_days.specs.AccountedCalls.{CallsAreAccounted, tells_call, told_calls, told_falls}
pub use Rattle.legal_days.specs.JustifiedAborts.{IsJustified, abort_is_justified, equals_some, has_answer, shows}
pub use Rattle.legal_days.specs.LegalWindows.{IsLegalWindow, IsSeriallyLegal, IsWeaklyLegal, all_ended, history_of, none_fails, weakly_allowed}
pub use Rattle.lineage_table.specs.Accesses.{IsDisciplined, access_of, effective_writer, has_access, is_acquired, is_of, is_scheduled, status_of, value_standing}
pub use Rattle.lineage_table.specs.Lineages.{LineageState, TableIsOpened, accesses_at, committed_lineage, counted_up, lineage_at, no_lineage, released, removed, scheduled, undone, with_lineage}
pub use Rattle.lock_leasing.proofs.Cited.{EachTail, Facts, all_stay, asks_at, committed_stays, effect_is, facts_of, first_live, front_is, gap_is_earliest, gap_least, item_there, joined_grips, joined_scheduled, last_filter, last_some_of, live_runs_live, live_uncommitted, next_is_left, no_write, pends_touches, scheduled_is_clear, scheduled_stands, stands_without, waits_for_none, writes_last}
pub use Rattle.lock_leasing.specs.Configurations.{Configuration, Grip, Grips, Point, grips_command, has_grip, is_command, is_out, is_undo, no_grips, point, point_of, read_of}
pub use Rattle.lock_leasing.specs.Places.{At, Denial, DeniedBy, GripsFit, IsClear, IsEarliestSet, IsFittingSet, IsScheduled, MayBeOut, PlacesAreScheduled, Placing, at_end, binds, denied_by, first_place, first_some, in_order, just_in_time, patience, scheduled_place, timeline}
pub use Rattle.lock_leasing.specs.Standings.{Asking, IsAsking, IsAtCommand, IsRosterFor, IsStandingOf, MayAsk, Touching, WindowParts, has_ended, window_parts}
pub use Rattle.lock_leasing.specs.Tables.{IsLineageOf, Represents, status_by_answers, uses, view_when}
pub use Rattle.lock_leasing.specs.Waits.{behind_wait, busy_wait, dirty_wait, down_at_end, follow_wait, grip_wait, lost_by, strict_wait, undo_wait}
pub use Rattle.lock_leasing.specs.Words.{Write, committed_write, effective_write, effective_writer_of, has_effect, has_touched, holds_device, is_overdue, is_undone, last_some, lease_deadline, live_before, live_runs, next_undo_of, overdue_for, stamp_of, standing_value, tenth_up, value_without, write_of}
pub use Rattle.lock_leasing.specs.declared.purposes.Purpose.{Purpose}
pub use Rattle.lock_leasing.specs.declared.purposes.Purpose.TheVariants.{Commands, Probes, Undoes}
pub use Rattle.serial_line.specs.Marks.{Mark, Marked, front_of, items_of, marks_without, settling, stands, touching, untouched, with_end, with_item, with_touch}
pub use Rattle.std.proofs.Common.{ap, append-nil, append_assoc, ap₂, arith, inl, inr, length-append, refl, rules, subst, subst₂, sym, ◌∙◌}
pub use Rattle.std.proofs.Math.Bool.{and-false, and-true, or-true}
pub use Rattle.std.proofs.lemmas.Bool.{and_from, and_parts, both_ways, eq-eqb, eqb-false, eqb-true, le-ltb, lt-ltb, ltb-true, ne_eqb, not-true, or_from, or_left, or_parts, or_right}
pub use Rattle.std.proofs.lemmas.Grind.{common_steps}
pub use Rattle.std.proofs.lemmas.List.{drop_more, get_or-map, length-drop, length-map, length-set, length-take-le, map-append, nil_from_length, take-append-drop, take_all, take_more}
pub use Rattle.std.proofs.lemmas.List.Sums.{AllPass-from_list_all, count_by-le-length, sum_by-le, sum_by-set, take_while-cons}
pub use Rattle.std.proofs.lemmas.Option.{get_or_from_slice_get, same_Some, slice_get-get_or, slice_get-map, slice_get_within}
pub use Rattle.std.specs.List.{All, cons_option, list_all, list_any, range_with_len}
pub use Rattle.std.specs.Option.{option_copied, option_or}
pub use Rattle.std.specs.Prelude.{Bool, Err, IfNone, IfSome, IsSome, IsTrue, List, None, Ok, Option, Result, Some, [], cond, count_by, drop, false, filter, find, fold, get_or, if◌then◌else◌, is_none, is_some, length, map, max, min, nat_le, nat_lt, not, option_and_then, option_map, option_to_list, replicate, slice_get, slice_index_or, slice_set, suc, sum_by, take, take_while, true, unwrap_or, zero, ℕ, ⊤, ◌&&◌, ◌*◌, ◌++◌, ◌+◌, ◌-◌, ◌<◌, ◌==◌, ◌^◌, ◌||◌, ◌↔◌, ◌∷◌, ◌≡◌, ◌≢◌, ◌≤◌, ◌⊎◌}
pub use Rattle.window_devices.proofs.Cited.{IsOf, There, device_here, device_there, find_first, find_least, find_none, find_same, get_set, grips_set, hand_goes, hands_come, known_as, known_same, known_set, known_there, left_at, left_size, no_held_tokens, none_does, none_found, none_out, none_there, not_none, others_hold, past_end, place_here, place_there, probe_goes, put_at, run_above, run_hand, there, unknown}
pub use Rattle.window_devices.specs.Checkouts.{HeldTokensAre, IsHomeAgain, IsSent, MayComeHome, MaySend, with_hand}
pub use Rattle.window_devices.specs.KnownDevices.{AreKnown, events_after, grip_in, known_after, no_device, no_events, progress_at, turned}
pub use Rattle.window_devices.specs.declared.known.DeviceProgress.{DeviceProgress}
pub use Rattle.window_order.proofs.Cited.{AgreesAtEnd, HoldsNone, IsOut, IsRead, IsSkipped, IsToldDown, NoneIsLive, ReadIsOut, TouchesNow, aborted_table, aborts_kept, agrees_at_end, along_none, along_there, answered_run, answered_table, arrived_table, arrives_kept, asked_up, awaits_there, below_home, both, called_unseen, called_up, changes_one, command_held, command_out_table, commits_kept, committed_table, cut_live, died_doomed_kept, died_kept, died_table, doomed_each, doomed_kept, doomed_table, doomed_unless_table, down_doomed_kept, down_kept, dropped_kept, event_before, event_last, event_place_of, failure_absent, fell_table, few_accesses, finds_clean, fits_other, fits_same, fits_with, fits_without, found_kept, front_accesses, goes_kept, held_none, holds_none, home_fits, joined_lineage, joined_order, joined_table, joined_window_order, left_after, length_set, lineage_set, live_run, live_stands, logs_own_events, lost_read, marks_aborted, marks_answered, marks_arrived, marks_begin, marks_committed, marks_died, marks_doomed, marks_fell, marks_out, marks_placed, marks_probe_home, marks_probe_out, marks_rose, marks_skipped, marks_told, marks_undo_home, marks_undo_out, marks_undone, may_command, never_passed, new_on, next_is, none_commits, none_dirty, none_in_front, none_is_live, none_left, open_behind, opened_table, order_events, order_runs, order_stands, out_is, own_command, pending_touches, probe_died_doomed_kept, probe_died_kept, probe_goes_kept, probe_home_table, probe_missed_kept, probe_out_table, probe_worked_kept, read_facts, read_kept, refuted_kept, represents, rest_drop, restart_absent, restarted_kept, restored_down, roomier_table, rose_table, run_positive, run_stands, same_parts, skipped_holds, skipped_kept, skipped_status, skipped_table, standing_committed, stands_home, starts_kept, status_there, stranger_idle, table_kept, three, told_holds, told_table, told_touches_now, touches_now, undid_table, undo_died_kept, undo_died_table, undo_dropped_table, undo_goes_kept, undo_out_table, undo_up, undone_kept, unplaced_absent, uses_now, waiting_read, waits_there, wrote_kept}
pub use Rattle.window_order.specs.MarksKept.{MarksAreKept}
pub use Rattle.window_order.specs.OrderStates.{IsSealed, IsUnreleased, MayArrange, MayNote, arranged, is_first, left_by, noted_first, scheduled_so, scheduled_with}
pub use Rattle.window_order.specs.TableChanges.{ChangesEach, IsNewOn, IsWaiting, answered_change, answered_lineage, doomed_lineage, doomed_unless, first_with_access, is_done_there, is_named_device, placed_change, rescheduled, scheduled_on, skipped_change, told_write, turned_change, undone_change, waiting_access}
pub use Rattle.window_order.specs.TableKept.{LineageIsKept, TableIsKept, access_read, accesses_along, accesses_read, commits_write}
