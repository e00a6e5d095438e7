-- What many proofs of this crate cite, passed on from one place.
unfoldable pub use Rattle.day_report.specs.Days.{abort_count, commit_count, day_text_from, head_text, total_text, window_lines, window_text, window_texts_from}
pub use Rattle.day_report.specs.Days.{day_text, is_abort, is_commit}
unfoldable pub use Rattle.day_report.specs.Lines.{answer_word, answer_words, end_text, entry_text, four_digits, home_line, home_word, home_words, item_word, item_words, line_of_run, order_line, run_lines, time_text, trace_line, trace_lines, two_digits, window_line}
pub use Rattle.day_report.specs.RunEntries.{AreApart, entries_of_run, run_told_of}
unfoldable pub use Rattle.day_report.specs.Words.{answer_text, cause_text, device_name, device_of, routine_name, states_of, value_text}
pub use Rattle.history_book.specs.Books.{end_in, end_of, first_told}
pub use Rattle.history_book.specs.declared.entries.End.TheVariants.{Aborted, Committed}
pub use Rattle.history_book.specs.declared.entries.Entry.{Entry}
pub use Rattle.history_book.specs.declared.entries.Entry.TheVariants.{Arrived, Did, Doomed, Ended, Fell, Placed, Rose, Undid}
pub use Rattle.history_book.specs.declared.records.WindowRecord.{WindowRecord}
pub use Rattle.home_types.specs.HomeStates.{nowhere, stand_at}
pub use Rattle.home_types.specs.declared.worlds.Stand.{Stand}
pub use Rattle.routine_reader.specs.declared.scripts.Script.{Script}
pub use Rattle.routine_reader.specs.declared.scripts.WindowText.{WindowText}
pub use Rattle.std.proofs.Common.{Bool, Option, Some, add-zero, ap, arith, cond, filter, get_or, length, rules, slice_get, string_bytes, subst, suc, sym, take, unwrap_or, ◌*◌, ◌+◌, ◌<◌, ◌^◌, ◌∙◌, ◌≤◌}
pub use Rattle.std.proofs.lemmas.List.{append-nil, append_assoc, flat_map_more, get_or_default, length-take-le, take_more}
pub use Rattle.std.specs.Fmt.{decimal}
pub use Rattle.std.specs.List.{count_by, enumerate_from, flat_map}
pub use Rattle.std.specs.Prelude.{List, None, [], codes, false, map, refl, true, ℕ, ◌++◌, ◌==◌, ◌∷◌, ◌≡◌}
