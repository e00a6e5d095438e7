-- What many proofs of this crate cite, passed on from one place.
pub use Rattle.command_rules.specs.Items.{is_ran}
pub use Rattle.command_rules.specs.Rosters.{Run, command_at, commands_of, followed_by, follows, is_run, no_command, run_no}
pub use Rattle.command_rules.specs.Serial.{SerialRun, Served, serial_execution, serve}
unfoldable pub use Rattle.day_report.specs.Days.{abort_count, commit_count, day_text_from, head_text, total_text, window_lines, window_text, window_texts_from}
pub use Rattle.day_report.specs.Days.{counts_line, day_text, is_abort, is_commit}
unfoldable pub use Rattle.day_report.specs.Lines.{answer_word, answer_words, end_text, entry_text, home_line, home_word, home_words, item_word, item_words, line_of_run, order_line, run_lines, trace_line, trace_lines, window_line}
pub use Rattle.day_report.specs.Lines.{zero_below}
unfoldable pub use Rattle.day_report.specs.Words.{answer_text, cause_text, device_name, device_of, states_of, value_text}
pub use Rattle.day_report.specs.Words.{routine_of, run_at}
pub use Rattle.history_book.proofs.Cited.{IsShaped, answer_by, answers_are, any_insert, any_put_before, committed_in, count_insert, end_is, none_is, put_all, put_keeps, shapes, split_any}
pub use Rattle.history_book.specs.Books.{end_in, end_of}
pub use Rattle.history_book.specs.Histories.{answers_in, entries_of, entry, reading}
pub use Rattle.history_book.specs.Lines.{behind, without}
pub use Rattle.history_book.specs.Readings.{OfRun, PlacedAt, Reading, is_committed, is_committing, next_of, nothing_read, put, same_answer}
pub use Rattle.history_book.specs.Settings.{Setting, is_device, run_numbers}
pub use Rattle.history_book.specs.WellFormed.{IsWellFormed, along, cause_fits, may_follow, same_cause, suits}
pub use Rattle.history_book.specs.declared.entries.Cause.{Cause}
pub use Rattle.history_book.specs.declared.entries.Cause.TheVariants.{DownAtEnd, Lost, MustDown, Refuted, Revoked}
pub use Rattle.history_book.specs.declared.entries.End.{End}
pub use Rattle.history_book.specs.declared.entries.End.TheVariants.{Aborted, Committed}
pub use Rattle.history_book.specs.declared.entries.Entry.{Entry}
pub use Rattle.history_book.specs.declared.entries.Entry.TheVariants.{Arrived, Did, Doomed, Ended, Fell, Placed, Rose, Undid}
pub use Rattle.history_book.specs.declared.entries.Kept.{Kept}
pub use Rattle.history_book.specs.declared.records.WindowRecord.{WindowRecord}
pub use Rattle.home_types.specs.Commands.{Execution, command_effect, done_effect, execute, fails, holds, is_always, writes}
pub use Rattle.home_types.specs.HomeStates.{nowhere, stand_at, with_up}
pub use Rattle.home_types.specs.Kinds.{has_value, kind_at, nearest}
pub use Rattle.home_types.specs.declared.commands.Answer.{Answer}
pub use Rattle.home_types.specs.declared.commands.Answer.TheVariants.{Down, Fine, Found, Skipped}
pub use Rattle.home_types.specs.declared.commands.Command.{Command}
pub use Rattle.home_types.specs.declared.commands.Guard.{Guard}
pub use Rattle.home_types.specs.declared.commands.Job.{Job}
pub use Rattle.home_types.specs.declared.commands.Job.TheVariants.{Check, Load, Set, Store}
pub use Rattle.home_types.specs.declared.items.Item.{Item}
pub use Rattle.home_types.specs.declared.items.Item.TheVariants.{Back, Failed, Ran}
pub use Rattle.home_types.specs.declared.kinds.Kind.{Kind}
pub use Rattle.home_types.specs.declared.kinds.Kind.TheVariants.{Range, States}
pub use Rattle.home_types.specs.declared.modes.Mode.{Mode}
pub use Rattle.home_types.specs.declared.modes.Scheduler.{Scheduler}
pub use Rattle.home_types.specs.declared.modes.Visibility.{Visibility}
pub use Rattle.home_types.specs.declared.modes.Visibility.TheVariants.{Eventual, Global, Partitioned, Weak}
pub use Rattle.home_types.specs.declared.numbers.RunNo.{RunNo}
pub use Rattle.home_types.specs.declared.worlds.Stand.{Stand}
pub use Rattle.legal_days.proofs.Cited.{at_place, count_cons}
pub use Rattle.legal_days.specs.LegalWindows.{IsLegalWindow, IsSeriallyLegal}
pub use Rattle.order_checker.proofs.Cited.{lines-cons, own, seen_at, window_sound}
unfoldable pub use Rattle.order_checker.specs.Answers.{first_wrong, home_behind}
pub use Rattle.order_checker.specs.Answers.{first_found, is_same, wrong_of}
pub use Rattle.order_checker.specs.Heads.{are_window_words, digit, is_head, is_window_line}
unfoldable pub use Rattle.order_checker.specs.HomeLines.{home_agrees, stand_by_word, stands_told}
pub use Rattle.order_checker.specs.HomeLines.{home_told, home_words_told, next_device_told, next_stand, stand_written, stands_so}
unfoldable pub use Rattle.order_checker.specs.Lines.{lines_of_pieces}
pub use Rattle.order_checker.specs.Lines.{is_note, line_at, lines_of, pieces_of}
unfoldable pub use Rattle.order_checker.specs.OrderLines.{item_of, order_words_told}
pub use Rattle.order_checker.specs.OrderLines.{OrderSetting, event_device, failure_item, home_with_event, is_up_behind, items_told, may_run, name_in, next_item, next_stands, order_line_told, order_place, order_told, restart_item}
unfoldable pub use Rattle.order_checker.specs.Records.{record_told, verdict_of}
pub use Rattle.order_checker.specs.Records.{first_progress, in_window, next_window_told, verdict}
unfoldable pub use Rattle.order_checker.specs.RunLines.{answers_told, end_told, run_words_told}
pub use Rattle.order_checker.specs.RunLines.{command_named, command_numbered, is_cause, is_run_among, is_told_committed, is_value_of, next_answer, run_told, told_of}
unfoldable pub use Rattle.order_checker.specs.Steps.{walk}
pub use Rattle.order_checker.specs.Steps.{required, ◌>>=◌}
pub use Rattle.order_checker.specs.Totals.{RecordCounts, are_total_words, is_total}
pub use Rattle.order_checker.specs.Values.{answer_of, device_named, value_at, value_of, value_written}
unfoldable pub use Rattle.order_checker.specs.Windows.{order_end_told, window_told}
pub use Rattle.order_checker.specs.Windows.{DayProgress, RunsTold, named_routine, next_run_told, window_line_told}
unfoldable pub use Rattle.order_checker.specs.Words.{number_of}
pub use Rattle.order_checker.specs.Words.{Parts, cut_at, is_none_word, is_number, is_numeral, words_of}
pub use Rattle.order_checker.specs.declared.verdicts.Place.{Place}
pub use Rattle.order_checker.specs.declared.verdicts.Place.TheVariants.{Device, Head, Home, Order, Total, Window}
pub use Rattle.order_checker.specs.declared.verdicts.Verdict.TheVariants.{Agrees, Differs}
unfoldable pub use Rattle.printed_records.specs.Ends.{answers_of_run, ends_told, numbered_answers}
pub use Rattle.printed_records.specs.Ends.{AnswersInOrder, answer_in, numbered_in, told_end}
pub use Rattle.printed_records.specs.FitWindows.{DayFits, HaveValues, WindowFits, home_before, order_setting}
unfoldable pub use Rattle.printed_records.specs.Fits.{AllStand, ItemsMayStand}
pub use Rattle.printed_records.specs.Fits.{EndFits, MayStand, RunFits, plain_item}
pub use Rattle.printed_records.specs.Modes.{has_order, prints_order}
pub use Rattle.printed_records.specs.SmallTimes.{CausesAreSmall, IsSmall, TimesAreSmall, are_small, is_small}
unfoldable pub use Rattle.printed_records.specs.Typed.{AreTyped}
pub use Rattle.printed_records.specs.Typed.{IsCauseFor, IsTyped}
pub use Rattle.routine_reader.specs.Names.{is_name_byte, starts_with_letter}
pub use Rattle.routine_reader.specs.Rosters.{kinds_of, routine_commands, run_of_text, script_runs, start_home, start_stand}
pub use Rattle.routine_reader.specs.Scripts.{PlainDevice, plain_device, plain_routine, plain_script, plain_window}
pub use Rattle.routine_reader.specs.Sound.{IsName, IsSound, IsSoundCommand, IsSoundDevice, IsSoundKind, IsSoundRoutine, IsSoundWindow, device_kinds, suits_device}
pub use Rattle.routine_reader.specs.declared.scripts.DeviceText.{DeviceText}
pub use Rattle.routine_reader.specs.declared.scripts.RoutineText.{RoutineText}
pub use Rattle.routine_reader.specs.declared.scripts.RunText.{RunText}
pub use Rattle.routine_reader.specs.declared.scripts.Script.{Script}
pub use Rattle.routine_reader.specs.declared.scripts.WindowText.{WindowText}
pub use Rattle.std.proofs.Common.{Result, add-zero, ap, append-nil, append_assoc, ap₂, arith, drop, get_or, inl, inr, length-append, lt-ltb, nat_lt, refl, subst, subst₂, sym, take, true≢false, ◌%◌, ◌*◌, ◌-◌, ◌/◌, ◌^◌, ◌∙◌}
pub use Rattle.std.proofs.lemmas.Bool.{eq-eqb, le-ltb}
pub use Rattle.std.proofs.lemmas.Fmt.{decimal_digit, decimal_nonempty, decimal_step, digits_decimal, digits_value-decimal, first_decimal}
pub use Rattle.std.proofs.lemmas.Grind.{common_steps}
pub use Rattle.std.proofs.lemmas.List.{length-map}
pub use Rattle.std.proofs.lemmas.List.Elements.{All-append, All-cons, All-get_or, All-head, All-tail}
pub use Rattle.std.proofs.lemmas.List.Folds.{list_all-append, list_any-append, list_any_at}
pub use Rattle.std.proofs.lemmas.List.Sums.{AllPass-from_list_all, sum_by-cons}
pub use Rattle.std.proofs.lemmas.Option.{get_or_from_slice_get, slice_get-get_or, slice_get-map, slice_get_within}
pub use Rattle.std.proofs.lemmas.Slice.Eq.{bytes_eq-Decides}
pub use Rattle.std.specs.Char.{is_ascii_digit}
pub use Rattle.std.specs.Fmt.{decimal, digit_glyph, digits_onto}
pub use Rattle.std.specs.List.{cons_option, count_by, enumerate_from, filter_map, flat_map, list_all, list_any, position, position_or_len, range_with_len}
pub use Rattle.std.specs.Option.{option_map_or, option_or}
pub use Rattle.std.specs.Prelude.{All, Bool, IsTrue, List, None, Ok, Option, Some, [], codes, cond, false, fold, if◌then◌else◌, is_none, is_some, length, map, nat_le, not, ok_or, option_and_then, option_map, slice_get, slice_index, slice_index_or, slice_set, suc, sum_by, true, unwrap_or, zero, ℕ, ⊤, ◌&&◌, ◌++◌, ◌+◌, ◌<◌, ◌==◌, ◌||◌, ◌∷◌, ◌≡◌, ◌≢◌, ◌≤◌, ◌⊎◌}
pub use Rattle.std.specs.Str.{bytes_eq}
pub use Rattle.std.specs.Str.Parse.{digits_value}
