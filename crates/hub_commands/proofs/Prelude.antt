-- What many proofs of this crate cite, passed on from one place.
pub use Rattle.command_words.specs.declared.command_lines.CommandLine.TheVariants.{Keep, Replay, Run, Trial, Watch}
pub use Rattle.command_words.specs.declared.command_lines.Options.{Options}
unfoldable pub use Rattle.day_report.specs.Days.{abort_count, commit_count, day_text_from, total_text, window_lines, window_text, window_texts_from}
pub use Rattle.day_report.specs.Days.{counts_line, day_text, head_text, is_abort, is_commit, kept_line}
pub use Rattle.device_states.specs.Devices.{Shown}
pub use Rattle.history_book.specs.Settings.{Setting, is_device, is_weak}
pub use Rattle.history_book.specs.declared.records.WindowRecord.{WindowRecord}
pub use Rattle.home_journal.specs.Journals.{AddsStates, IsDamage, IsStateOf, JournalState, KeepsFirst, KnowsKept, LeavesFirst, LeavesOldOrSame, states_kept}
pub use Rattle.home_types.proofs.Cited.{snoc_get}
pub use Rattle.home_types.specs.Listed.{Listed}
pub use Rattle.home_types.specs.declared.kinds.Kind.{Kind}
pub use Rattle.home_types.specs.declared.modes.Mode.{Mode}
pub use Rattle.home_types.specs.declared.worlds.Stand.{Stand}
unfoldable pub use Rattle.hub_commands.specs.Boards.{board_line}
pub use Rattle.hub_commands.specs.Boards.{IsToldOf, as_over, board_text, counts_behind, counts_each, counts_of, publishings_of}
pub use Rattle.hub_commands.specs.CommandsTaken.{keep_options, keep_options_of, run_line, run_line_of, still_line, still_line_of, watch_line, watch_line_of}
pub use Rattle.hub_commands.specs.Days.{Closing, DayCourse, DayIsUnderWay, DevicesAreProbed, HaveCommitted, IsUnderWayOn, NoneHasFailedOn, WindowsArePlayed, WindowsArePlayedOn, boarded, course_behind, new_course, plain, record_text_on, script_of, text_due, text_due_on, text_on, text_so_far}
pub use Rattle.hub_commands.specs.Finishes.{AppendsFirst, DayEnds, DayEndsOn, DayIsWhole, InputIsRead, IsCut, IsCutOn, IsRead, IsStarved, IsStarvedOn, IsUnread, IsUnwritten, IsWholeOn, IsWrittenAsClosed, IsWrittenAsClosedOn, NoScriptIsRead, NothingIsPlayed, Reads, Writes, read_off, written}
pub use Rattle.hub_commands.specs.Going.{HandsBack, IsGoingOn, IsNextToTell, IsToldOfDay, NextIs, PlaysOneMore, windows_in}
pub use Rattle.hub_commands.specs.KeptDays.{HandsAllBack, HasEndedBehind, HasEndedKept, HomeBegins, HomeGoesOn, IsDiskLeft, IsJournalSoFar, IsKeptSoFar, IsUnkeptOn, KeepsAtLeast, KeptDayEnds, kept_course, last_states, surely_kept, windows_of}
pub use Rattle.hub_commands.specs.Played.{HasGoneOn, IsClosed, IsWorkedAs, NextIsOpened, setting_on}
pub use Rattle.hub_commands.specs.RoomDays.{AgreesWithRooms, AreSplit, EachOrderAgrees, RoomsAreLeft, RoomsArePlayed, RoomsAreUnderWay, Windows, home_executed, records_of, room_count, rooms_home_before, told_records}
pub use Rattle.hub_commands.specs.RoomDevices.{AreAllPlaced, HasDevicesOf, HasRoomFor, IsRoomed}
pub use Rattle.hub_commands.specs.RoomGoing.{AreNewHomes, AreTold, IsFirstDay, IsNewHome, IsRoomDay, IsWrittenSoFar, Lines, RoomGoesOn, RoomNextIs, RoomStopEnds, TellsLines, lines_from}
pub use Rattle.hub_commands.specs.Trials.{HasJudged, HasStarved, IsTrialDay, TrialEnds, agreeing, finding, line_due, trial_mode}
pub use Rattle.hub_commands.specs.Ways.{IsReplayOf, IsRunWithin, WindowWay}
pub use Rattle.hub_commands.specs.declared.chunks.ChunkFault.{ChunkFault}
pub use Rattle.hub_commands.specs.declared.faults.Fault.{Fault}
pub use Rattle.hub_commands.specs.declared.faults.Fault.TheVariants.{Check, Cross, Damaged, Disk, Memory, Read, Words, Write}
pub use Rattle.hub_commands.specs.declared.finishes.Day.{Day}
pub use Rattle.hub_core.specs.Homes.{AreNew, HomeIsKept, HomeState, IsNew, setting_for}
pub use Rattle.hub_core.specs.Openings.{MayOpen, is_mode, names_values_of}
pub use Rattle.legal_days.proofs.Cited.{at_place}
pub use Rattle.legal_days.specs.LegalDays.{AreLeftFrom, Beginning, IsLegalCutDayFrom, IsLegalDayFrom, RecordsAreLegal, new_day, one_more_where, setting_from, setting_of, state_after, state_from, total, windows_behind}
pub use Rattle.room_hubs.proofs.Cited.{OwnRunsAreSound, all_numbers, any_is, filtered, home_of_rooms, joined_is, next_number, none_passes, own_is, own_kinds_are, own_runs_are, own_runs_sound, own_start_is, parts, rooms_few, rooms_size, split_is, split_parts, whole}
pub use Rattle.room_hubs.specs.RoomScripts.{own_script, own_window, plain_devices, room_devices}
pub use Rattle.room_hubs.specs.Rooms.{PlainRooms, no_rooms, plain_rooms, room_name, rooms_of, with_device, with_room}
pub use Rattle.room_hubs.specs.Splits.{device_room, devices_in, room_at, runs_in, script_split}
pub use Rattle.room_hubs.specs.declared.rosters.RoomWindow.{RoomWindow}
pub use Rattle.routine_reader.proofs.Cited.{runs-there, window-there}
pub use Rattle.routine_reader.specs.Rosters.{kinds_of, run_of_text, script_runs, start_home, start_stand}
pub use Rattle.routine_reader.specs.Scripts.{PlainDevice, plain_device, plain_routine, plain_script, plain_window}
pub use Rattle.routine_reader.specs.Sound.{IsSound, IsSoundWindow, suits_device}
pub use Rattle.routine_reader.specs.declared.scripts.Script.{Script}
pub use Rattle.routine_reader.specs.declared.scripts.WindowText.{WindowText}
pub use Rattle.std.proofs.Common.{All, ap, append-nil, append_assoc, ap₂, arith, filter, get_or, inl, inr, reverse, rules, string_bytes, subst, sym, take-append-drop, ◌∙◌}
pub use Rattle.std.proofs.lemmas.Grind.{common_steps}
pub use Rattle.std.proofs.lemmas.List.{drop_all, flat_map_more, get_or-map, get_or-set_same, get_or_past, length-append, length-drop, length-map, length-reverse, length-set, length-take-le, map-append, reverse-append, reverse-reverse, take_all, take_more}
pub use Rattle.std.proofs.lemmas.Option.{get_or_from_slice_get, slice_get-get_or, slice_get-map, slice_get_cases, slice_get_within}
pub use Rattle.std.specs.List.{cons_option, enumerate_from, flat_map, list_any, position, position_or_len, range_with_len}
pub use Rattle.std.specs.Prelude.{Bool, Err, IfErr, IfOk, IfSome, IsTrue, List, None, Ok, Option, Result, Some, [], codes, cond, count_by, drop, false, fold, if◌then◌else◌, is_some, length, map, nat_le, nat_lt, not, option_and_then, option_map, refl, replicate, slice_get, slice_index_or, slice_set, suc, sum_by, take, true, unwrap_or, vec_capacity, vec_len, zero, ℕ, ◌&&◌, ◌*◌, ◌++◌, ◌+◌, ◌-◌, ◌<◌, ◌==◌, ◌^◌, ◌||◌, ◌∷◌, ◌≡◌, ◌≢◌, ◌≤◌, ◌⊎◌}
