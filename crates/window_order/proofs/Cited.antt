-- What proofs of other crates cite of this one: lemmas, and the words in which these are said, by
-- the file in which they stand. Every other file of proofs/ is private.

-- What the reading of a well-formed history says of each run and of the line, together.
pub use Rattle.window_order.proofs.ReadFacts.{IsRead, read_facts, rest_drop}
-- Words of the reading and of the grips that are out, as the window that they make has them.
pub use Rattle.window_order.proofs.PromisedWords.{command_held}
-- Where a device stands: at its standing value, where it is home and up, and where a command's grip
-- of it is out.
pub use Rattle.window_order.proofs.StandingValues.{stands_home}
-- The end of a window, where no run is live: its line is a serial order for its history, and its
-- last state agrees with the serial execution of the line.
pub use Rattle.window_order.proofs.WindowEnds.{AgreesAtEnd, NoneIsLive, agrees_at_end, logs_own_events, none_is_live, order_events, order_runs, standing_committed}
-- The serial order invariant: the four promised clauses of a window whose order is kept.
pub use Rattle.window_order.proofs.Promises.{order_stands}
-- What a read finds, while it is out: its run's own last write, else the last committed write
-- before the run in the line; and no live run before it has the effective write.
pub use Rattle.window_order.proofs.CleanValues.{ReadIsOut, finds_clean, none_dirty}
-- Which grips may be out, and what the runs of a window hold.
pub use Rattle.window_order.proofs.Grips.{HoldsNone, fits_other, fits_same, fits_with, fits_without, held_none, holds_none, may_command, none_left}
-- What the reading says of the runs of the line.
pub use Rattle.window_order.proofs.Runs.{both, cut_live, live_run, live_uncommitted, run_positive, three}
-- A device of the window has a first state.
pub use Rattle.window_order.proofs.Firsts.{below_home}
-- Behind a run that is open on a device no run has an answer there.
pub use Rattle.window_order.proofs.Goes.{open_behind}
-- That a run is open on a device and has done nothing there.
pub use Rattle.window_order.proofs.EventPlaces.{awaits_there}
-- Each kind of change keeps the order of a window.
pub use Rattle.window_order.proofs.Steps.{IsOut, arrives_kept, commits_kept, found_kept, goes_kept, home_fits, next_is, out_is, starts_kept, wrote_kept}
-- Each kind of change of a doomed run keeps the order of a window: it is doomed, undone device by
-- device, and leaves.
pub use Rattle.window_order.proofs.Rollbacks.{aborts_kept, doomed_kept, dropped_kept, none_out, refuted_kept, undo_goes_kept, undone_kept}
-- The accesses along a line, by three plain functions: which runs have one, which runs cover those
-- before them, and what the access is.
pub use Rattle.window_order.proofs.AccessLists.{along_none, along_there, front_accesses}
-- A lineage table that is kept so, each lineage of which is disciplined, represents the
-- configuration of its window.
pub use Rattle.window_order.proofs.Representing.{represents}
-- What the grip of one device says of the runs.
pub use Rattle.window_order.proofs.GripWords.{own_command}
-- An answer keeps the lineages, with the access of its run changed on the command's device alone.
pub use Rattle.window_order.proofs.AnsweredTables.{TouchesNow, answered_run, left_after, never_passed, none_commits, none_in_front, pending_touches, uses_now}
-- What the calls of a lineage table ask for, where a command that was out is answered.
pub use Rattle.window_order.proofs.TableCalls.{status_there, touches_now, waits_there}
-- The lineages as a window opens, as a run arrives, and as one is placed in the line.
pub use Rattle.window_order.proofs.PlacedTables.{arrived_table, new_on, opened_table}
-- Each step keeps the lineage table of a window.
pub use Rattle.window_order.proofs.TableSteps.{aborted_table, answered_table, changes_one, command_out_table, committed_table, doomed_each, doomed_table, doomed_unless_table, undid_table, undo_dropped_table, undo_out_table}
-- The items of a line with what each has touched, step by step.
pub use Rattle.window_order.proofs.TouchedLines.{live_stands, marks_aborted, marks_answered, marks_arrived, marks_begin, marks_committed, marks_doomed, marks_out, marks_placed, marks_undo_home, marks_undo_out, marks_undone, run_stands, unplaced_absent}
-- A device has at most one access for each run of the window.
pub use Rattle.window_order.proofs.FewAccesses.{few_accesses}
-- The answer Down keeps the order of a window: where the device fails at a command that is out, and
-- where it is given with no call.
pub use Rattle.window_order.proofs.DeadAccesses.{died_doomed_kept, died_kept}
-- A command is answered Down with no call: its run sees the device down already, or the device is
-- home and counted down.
pub use Rattle.window_order.proofs.AnsweredDowns.{IsToldDown, down_doomed_kept, down_kept, told_holds}
-- A probe keeps the order of a window, whether it works or dies, and an undo that dies.
pub use Rattle.window_order.proofs.ProbedOrders.{probe_died_doomed_kept, probe_died_kept, probe_goes_kept, probe_missed_kept, probe_worked_kept, restarted_kept, undo_died_kept}
-- How a device is counted that is out: up for a command, by a run that does not see it down, and
-- for an undo and where it is asked, and down where it is restored.
pub use Rattle.window_order.proofs.OutDevices.{asked_up, called_unseen, called_up, restored_down, undo_up}
-- The items of a line with what each has touched, where a device fails or comes back, is answered
-- for with no call, or is probed.
pub use Rattle.window_order.proofs.TurnedLines.{event_before, event_last, event_place_of, failure_absent, marks_died, marks_fell, marks_probe_home, marks_probe_out, marks_rose, marks_told, restart_absent}
-- A device fails or comes back, and the lineage table is kept: it is counted so, and the accesses
-- stay.
pub use Rattle.window_order.proofs.TurnedTables.{died_table, fell_table, probe_home_table, probe_out_table, rose_table, undo_died_table}
-- A command is answered Down with no call, and the lineage table is kept: the access is acquired by
-- a run that sees the device down, or stays as it was.
pub use Rattle.window_order.proofs.ToldTables.{told_table, told_touches_now}
-- The run that is lost where a device fails, and the run before which its event stands, read off
-- the device's lineage.
pub use Rattle.window_order.proofs.LostReads.{lost_read, waiting_read}
-- A line whose items stand in another order, each device's own ones in theirs, keeps the order of a
-- window, its table and what its reading says.
pub use Rattle.window_order.proofs.Rearranged.{read_kept, table_kept}
-- A run is placed: the line is rearranged, and the run goes in at a clear place.
pub use Rattle.window_order.proofs.Joined.{joined_order, joined_table, same_parts}
-- A command is skipped by its guard.
pub use Rattle.window_order.proofs.SkippedCommands.{IsSkipped, marks_skipped, skipped_holds, skipped_kept}
-- The lineage table is kept where a command is skipped by its guard.
pub use Rattle.window_order.proofs.SkippedTables.{skipped_status, skipped_table}
-- A table in which the lineage of one device is changed: how long it is, and that lineage.
pub use Rattle.window_order.proofs.NotedAnswers.{length_set, lineage_set}
-- One run more joins the window: its order and its lineages are kept, where there is room for the
-- accesses of the run; nothing has happened to a run that is none of the window.
pub use Rattle.window_order.proofs.JoinedOrders.{joined_lineage, joined_window_order, roomier_table, stranger_idle}
