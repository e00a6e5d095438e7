-- What proofs of other crates cite of this one: lemmas, and the words in which these are said, by
-- the file in which they stand. Every other file of proofs/ is private.

-- One entry more.
pub use Rattle.history_book.proofs.Snoc.{Along_more, along_on, each_at, each_more, each_on, entries_on, put_keeps, put_other, put_same, reading_more, reading_on}
-- Who stands in the line.
pub use Rattle.history_book.proofs.Lines.{any_insert, any_left, any_other, any_parted, any_put_before, any_taken, any_without}
-- An answer, or a doom, leaves each run as live as it was.
pub use Rattle.history_book.proofs.Frames.{did_live, doomed_live}
-- What the reading says, in words of the entries alone.
pub use Rattle.history_book.proofs.Plain.{answer_by, answers_are}
-- All that is known of where a run is placed: each test and count of the line, and each device's
-- own part of it, stay.
pub use Rattle.history_book.proofs.Splits.{base_length, gap_closed, gap_holds, line_any, line_count, line_length, line_part, part, split_any, split_count, split_part}
-- In a well-formed history a run stands in the line exactly where it is placed and no abort of it
-- has ended.
pub use Rattle.history_book.proofs.Standing.{Standing, aborted, is_abort, standing, stands_in}
-- What a well-formed history says of each run.
pub use Rattle.history_book.proofs.Shapes.{IsShaped, Shaped, committed_in, did_not_passed, did_touches, pending_not_passed, put_all, shapes, shapes_step}
-- What a reading counts: its entries, and the failures of a device.
pub use Rattle.history_book.proofs.Counts.{fell_is, size_is}
-- In a well-formed history a run stands in the line once where it is placed and no abort of it has
-- ended, else not.
pub use Rattle.history_book.proofs.Once.{StandsOnce, count_append, count_insert, count_put_before, stands_once}
-- The items of a window's order are runs and events of its own.
pub use Rattle.history_book.proofs.OwnItems.{is_stray, none_strays}
-- What a search through a list finds.
pub use Rattle.history_book.proofs.Searches.{Each, each_filter, each_found, map_none, map_some, none_is, own_devices, some_is}
-- What the log of a device holds of each run.
pub use Rattle.history_book.proofs.Logs.{Logged, is_event_of, logged, logged_step, span_more}
-- What the first entry that tells something tells: by places, and after one more entry.
pub use Rattle.history_book.proofs.FirstTold.{first_told-places}
-- What the book tells of the end, the doom, the placing and the answers of a run is what the
-- history says.
pub use Rattle.history_book.proofs.Told.{answer_count_is, doom_is, end_is, placing_is}
-- A history beside what is fixed in its window: as it opens, with one entry more, and what is known
-- of a run.
pub use Rattle.history_book.proofs.HistoryReads.{MayTake, run_place, takes_first, takes_rest}
-- A run stays behind the one that it follows, where the line is rearranged.
pub use Rattle.history_book.proofs.Followers.{line_follows}
-- The place that the timeline gives a run is behind the final items of the line.
pub use Rattle.history_book.proofs.GapFronts.{gaps_behind}
-- The items before the first live run stay as they are, and do not become fewer, with one entry
-- more; and so along a history.
pub use Rattle.history_book.proofs.Sealed.{begins_with_sealed, first_within, sealed_on, stays_itself}
-- A run that asks for a device has its next command there.
pub use Rattle.history_book.proofs.Asking.{asks_guard, asks_next}
-- The devices of the first so many commands.
pub use Rattle.history_book.proofs.CommandFronts.{among_more, differ, is_among}
-- One run more joins the window: what a roster and a reading say of a run that there was, and what
-- the timeline asks of it.
pub use Rattle.history_book.proofs.Joined.{first_holds, live_own, masked, own_commands, own_follows, own_passed, own_pends, own_run, own_shares, own_touches, same_devices, same_gap, same_split}
-- .. a well-formed history reads the same, and what is said along it stays.
pub use Rattle.history_book.proofs.JoinedReads.{Along_joined, ReadsOwn, along_joined, formed_joined, own_start, same_reading}
