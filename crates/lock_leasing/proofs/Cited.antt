-- What proofs of other crates cite of this one: lemmas, and the words in which these are said, by
-- the file in which they stand. Every other file of proofs/ is private.

-- The last value that the items of a list give stays where items that give none are left out.
pub use Rattle.lock_leasing.proofs.Places.{last_filter}
-- Live runs, and runs with an effective write.
pub use Rattle.lock_leasing.proofs.Effects.{effect_is, last_some_of, live_runs_live}
-- What holds of a configuration that is not of the weak model, and whose history, grips and order
-- are as they must be.
pub use Rattle.lock_leasing.proofs.Facts.{Facts, command_out, command_pends, committed_stays, facts_of, live_stands, live_uncommitted, next_is_left, pends_touches, written_did, written_touches}
-- Which runs have an access: each with more to do on the device that is not doomed, and each live
-- one with the effective write there.
pub use Rattle.lock_leasing.proofs.AccessRuns.{Alone, EachTail, HasAccess, alone, has_work, workers_have_access}
-- The effective writer that the accesses to a device tell is the run of its effective write, where
-- that run is live.
pub use Rattle.lock_leasing.proofs.Writers.{Stays, all_stay, live_writer, no_write, run_in, writer_has_effect, writer_is}
-- What the accesses to a device tell of an undo: whether the run has the effective write there, and
-- the value that would stand if it had not written.
pub use Rattle.lock_leasing.proofs.Undoing.{next_device, stands_without, writes_last}
-- The runs that hold a device, or wrote it, before a run: the accesses tell them as the history
-- does.
pub use Rattle.lock_leasing.proofs.Holding.{TellsTest, sound_holds}
-- A run at a command asks for its device; and an item of a list, by its place.
pub use Rattle.lock_leasing.proofs.Meetings.{asks_at, item_there}
-- How many items of the line stand before its first live run; the devices of a run, by its
-- commands; whether a test holds of some item of a part, or of some number of a range.
pub use Rattle.lock_leasing.proofs.Bindings.{any_filter, any_range, devices_by_commands, front_is}
-- The places behind which nothing must stand before a run: those of every scheduler are such
-- places.
pub use Rattle.lock_leasing.proofs.ClearPlaces.{clear_touch, none_beside, place_within, scheduled_is_clear, scheduled_stands, unbound_touch}
-- No set of items plans an earlier end of a run than that of the timeline does.
pub use Rattle.lock_leasing.proofs.EarliestPlaces.{bars_rise, gap_is_earliest, gap_least}
-- A run that stands behind no live run waits for none; where a run of the line is live there is a
-- first live one.
pub use Rattle.lock_leasing.proofs.FirstRuns.{first_live, waits_for_none}
-- The first live run of the line of which a test holds, as the accesses to a device tell it, and
-- what is put before it: so an event finds its place, and a failure the run that it loses.
pub use Rattle.lock_leasing.proofs.EventRuns.{before_first, before_none, first_open, found_there, put_at, run_place}
-- What the words on a point say stays as it is where one run more joins the window: who holds a
-- device, who asks for it, what may be out, and where a run is placed.
pub use Rattle.lock_leasing.proofs.JoinedPoints.{joined_grips, joined_scheduled, own_asks, same_holds}
