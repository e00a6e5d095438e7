-- What proofs of other crates cite of this one: lemmas, and the words in which these are said, by
-- the file in which they stand. Every other file of proofs/ is private.

-- The walk along an order of two parts.
pub use Rattle.device_order.proofs.Lists.{walk_back}
-- A device that is out somewhere on the walk is out at its end.
pub use Rattle.device_order.proofs.Effects.{held_end}
-- An order, cut at a use.
pub use Rattle.device_order.proofs.Parts.{Cut, cut}
-- What the invariant of a device says of two uses, one behind the other.
pub use Rattle.device_order.proofs.Claims.{alone_behind, effect, reads, untouched_behind, waits_calm}
-- How many runs a failure or a restart loses.
pub use Rattle.device_order.proofs.Losses.{down_unseen, one_spans, restart_loses_none, undo_loses_none}
-- Where a device stands.
pub use Rattle.device_order.proofs.Standing.{stands}
-- The summary of answers in two parts.
pub use Rattle.device_order.proofs.Runs.{summary_more}
-- Routines and events on different devices do not see one another.
pub use Rattle.device_order.proofs.Swaps.{exchanged}
-- The order of a device at a run that uses it; what is left of a routine uses no device more.
pub use Rattle.device_order.proofs.LineEntries.{used_at, uses_rest}
-- Words on a line and on the order of a device that it makes.
pub use Rattle.device_order.proofs.LineWords.{calm_entries, cut_at, effective_entries, has_entries, stand_line}
-- What one more answer makes of a run.
pub use Rattle.device_order.proofs.NewAnswers.{pair_more}
-- A run uses the device of its next command; what holds of one device and of others holds of all.
pub use Rattle.device_order.proofs.InPlace.{next_used, two_places}
-- The steps in which a run gets an answer keep the invariant of the window.
pub use Rattle.device_order.proofs.WindowAnswers.{access_died, down_answered, read_answered, skip_answered, write_answered}
-- The steps in which a grip or a probe goes out or comes home keep the invariant of the window.
pub use Rattle.device_order.proofs.WindowGrips.{command_out, device_restarted, probe_died, probe_found_down, probe_found_up, probe_out, undo_answered, undo_died, undo_dropped, undo_out}
-- The steps in which a run is placed, doomed, committed or aborted keep the invariant of the
-- window.
pub use Rattle.device_order.proofs.WindowRuns.{probe_died_under_run, run_commits, run_doomed, run_leaves_line, run_placed, window_begins}
-- What the invariant of a window says of its order.
pub use Rattle.device_order.proofs.WindowClaims.{order_serial, read_covered, untouched_after}
-- Where an event goes into a line: at its end, or before a run that waits there.
pub use Rattle.device_order.proofs.EventCuts.{EventCut, event_cut}
