-- Each exchange of each worked order: the items at a place and at the next one, which are apart, change places, and the window is as
-- legal as before. It is computed by the definitions, and not by the laws of `exchange_laws`.
use Rattle.worked_windows.proofs.AMorning as a_morning
use Rattle.worked_windows.proofs.AbortAfterOverwrite as abort_after_overwrite
use Rattle.worked_windows.proofs.BaseIsClosed as base_is_closed
use Rattle.worked_windows.proofs.BaseWithWhoIsToSkipNext as base_with_who_is_to_skip_next
use Rattle.worked_windows.proofs.BaseWithoutWhoSkippedThere as base_without_who_skipped_there
use Rattle.worked_windows.proofs.BehindOnFan as behind_on_fan
use Rattle.worked_windows.proofs.BusyBeforeDown as busy_before_down
use Rattle.worked_windows.proofs.CheckLeavesTheRegister as check_leaves_the_register
use Rattle.worked_windows.proofs.DiesAfterFirstAccess as dies_after_first_access
use Rattle.worked_windows.proofs.DirtyBehindASkippedWrite as dirty_behind_a_skipped_write
use Rattle.worked_windows.proofs.DirtyThoughDown as dirty_though_down
use Rattle.worked_windows.proofs.DoomedBeforeItsSkip as doomed_before_its_skip
use Rattle.worked_windows.proofs.DoomedRunBoundsTheFloor as doomed_run_bounds_the_floor
use Rattle.worked_windows.proofs.DoomedRunIsNotWaitedFor as doomed_run_is_not_waited_for
use Rattle.worked_windows.proofs.DoomedWriterIsWaitedFor as doomed_writer_is_waited_for
use Rattle.worked_windows.proofs.DownAtEnd as down_at_end
use Rattle.worked_windows.proofs.FailureAfterLastAccess as failure_after_last_access
use Rattle.worked_windows.proofs.FailureBeforeWhoHasMoreToCome as failure_before_who_has_more_to_come
use Rattle.worked_windows.proofs.FailurePassesDoomedRun as failure_passes_doomed_run
use Rattle.worked_windows.proofs.FirstHolderIsNotOverdue as first_holder_is_not_overdue
use Rattle.worked_windows.proofs.FirstLiveRunBoundsTheFloor as first_live_run_bounds_the_floor
use Rattle.worked_windows.proofs.FitsInFrontOfARunThatSkipped as fits_in_front_of_a_run_that_skipped
use Rattle.worked_windows.proofs.FollowerBehindARunThatSkipped as follower_behind_a_run_that_skipped
use Rattle.worked_windows.proofs.Follows as follows
use Rattle.worked_windows.proofs.FollowsBehindLiveRun as follows_behind_live_run
use Rattle.worked_windows.proofs.FourModelsGsv as four_models_gsv
use Rattle.worked_windows.proofs.FourModelsPsv as four_models_psv
use Rattle.worked_windows.proofs.GapsOfTwoLineages as gaps_of_two_lineages
use Rattle.worked_windows.proofs.GuardBelowTheRegisterItself as guard_below_the_register_itself
use Rattle.worked_windows.proofs.GuardedCommands as guarded_commands
use Rattle.worked_windows.proofs.JitDeniedByTheFloorItself as jit_denied_by_the_floor_itself
use Rattle.worked_windows.proofs.JitDeniesDirtyRead as jit_denies_dirty_read
use Rattle.worked_windows.proofs.JitFirstHolderDenies as jit_first_holder_denies
use Rattle.worked_windows.proofs.JitPatienceJustUnder as jit_patience_just_under
use Rattle.worked_windows.proofs.JitPatienceOver as jit_patience_over
use Rattle.worked_windows.proofs.JitPatiencePutsAtTheEnd as jit_patience_puts_at_the_end
use Rattle.worked_windows.proofs.LeaseAtDeadline as lease_at_deadline
use Rattle.worked_windows.proofs.LeaseEndsWithASkip as lease_ends_with_a_skip
use Rattle.worked_windows.proofs.LeaseOverdue as lease_overdue
use Rattle.worked_windows.proofs.LeaseRoundsUp as lease_rounds_up
use Rattle.worked_windows.proofs.LostBehindASkip as lost_behind_a_skip
use Rattle.worked_windows.proofs.LostBetweenAccesses as lost_between_accesses
use Rattle.worked_windows.proofs.NoDirtyRead as no_dirty_read
use Rattle.worked_windows.proofs.OneLight as one_light
use Rattle.worked_windows.proofs.OnlyWhoTouchedIsDownAtEnd as only_who_touched_is_down_at_end
use Rattle.worked_windows.proofs.PlanDoesNotWaitForWhoHasSkipped as plan_does_not_wait_for_who_has_skipped
use Rattle.worked_windows.proofs.ProbePassed as probe_passed
use Rattle.worked_windows.proofs.ReaderPlansBehindWriter as reader_plans_behind_writer
use Rattle.worked_windows.proofs.ReaderPlansWithoutWhatWasSkipped as reader_plans_without_what_was_skipped
use Rattle.worked_windows.proofs.ReleasedDeviceIsFree as released_device_is_free
use Rattle.worked_windows.proofs.ReleasedLampOverwritten as released_lamp_overwritten
use Rattle.worked_windows.proofs.RestartKeepsDownView as restart_keeps_down_view
use Rattle.worked_windows.proofs.SeesDownThenProbeDies as sees_down_then_probe_dies
use Rattle.worked_windows.proofs.SkipBehindADoomedRun as skip_behind_a_doomed_run
use Rattle.worked_windows.proofs.SkipReleasesWhatWasTouched as skip_releases_what_was_touched
use Rattle.worked_windows.proofs.SkipRevokesNoOverdueLease as skip_revokes_no_overdue_lease
use Rattle.worked_windows.proofs.SkipWaitsStrictGsv as skip_waits_strict_gsv
use Rattle.worked_windows.proofs.SkipWaitsUnderPsvForWhoShares as skip_waits_under_psv_for_who_shares
use Rattle.worked_windows.proofs.SkipWhereNothingWasTouched as skip_where_nothing_was_touched
use Rattle.worked_windows.proofs.SkipWithMoreToCome as skip_with_more_to_come
use Rattle.worked_windows.proofs.SkippedAccessThenFailure as skipped_access_then_failure
use Rattle.worked_windows.proofs.SkippedAndDownAtEnd as skipped_and_down_at_end
use Rattle.worked_windows.proofs.SkippedAndMustDown as skipped_and_must_down
use Rattle.worked_windows.proofs.SkippedUnderLiveUndo as skipped_under_live_undo
use Rattle.worked_windows.proofs.SkippedWriteThenRead as skipped_write_then_read
use Rattle.worked_windows.proofs.SmallestDeviceDownAtEnd as smallest_device_down_at_end
use Rattle.worked_windows.proofs.StoreAndLoad as store_and_load
use Rattle.worked_windows.proofs.StrictReadWaits as strict_read_waits
use Rattle.worked_windows.proofs.StrictWhileProbed as strict_while_probed
use Rattle.worked_windows.proofs.TimelineBehindADoomedRunWhoseCommandIsNext as timeline_behind_a_doomed_run_whose_command_is_next
use Rattle.worked_windows.proofs.TimelineBehindAllBeforeTheFirstLiveRun as timeline_behind_all_before_the_first_live_run
use Rattle.worked_windows.proofs.TimelineClosedThroughARunBetween as timeline_closed_through_a_run_between
use Rattle.worked_windows.proofs.TimelineEachRunBehindIsLookedAt as timeline_each_run_behind_is_looked_at
use Rattle.worked_windows.proofs.TimelineFailureComesWithTheRunBehindIt as timeline_failure_comes_with_the_run_behind_it
use Rattle.worked_windows.proofs.TimelineFailurePassesLiveRuns as timeline_failure_passes_live_runs
use Rattle.worked_windows.proofs.TimelineGapFits as timeline_gap_fits
use Rattle.worked_windows.proofs.TimelineGapTooShort as timeline_gap_too_short
use Rattle.worked_windows.proofs.TimelineLeaderComesWithItsFollower as timeline_leader_comes_with_its_follower
use Rattle.worked_windows.proofs.TimelineSecondRoundTakesOneMore as timeline_second_round_takes_one_more
use Rattle.worked_windows.proofs.UndoDies as undo_dies
use Rattle.worked_windows.proofs.UndoDrivesLiveWriter as undo_drives_live_writer
use Rattle.worked_windows.proofs.UndoWaitsForTheDevice as undo_waits_for_the_device
use Rattle.worked_windows.proofs.WholeEndWithoutOverwritten as whole_end_without_overwritten
use Rattle.worked_windows.proofs.WriterFirstDoesNotWait as writer_first_does_not_wait
use Rattle.command_rules.specs.Apart.{meet}
unfoldable use Rattle.command_rules.specs.ClosedSets.{exchanged}
use Rattle.command_rules.specs.ClosedSets.{are_apart}
use Rattle.command_rules.specs.Items.{is_ran}
use Rattle.command_rules.specs.Rosters.{follows}
use Rattle.worked_windows.proofs.Prelude.{Bool, Grips, Item, List, Reading, [], answers_in, count_by, events_of, executed, false, filter, fold, if◌then◌else◌, in_order, is_committed, length, not, reading, true, ℕ, ◌&&◌, ◌++◌, ◌+◌, ◌==◌, ◌||◌, ◌∷◌, ◌≡◌}
use Rattle.history_book.specs.Lines.{behind, is_event_on}
use Rattle.history_book.specs.Settings.{Setting, device_numbers, run_numbers}
use Rattle.history_book.specs.declared.entries.Entry.{Entry}
use Rattle.home_types.specs.declared.worlds.Stand.{Stand}
use Rattle.std.specs.List.{list_all, list_any, range_with_len}
use Rattle.worked_windows.proofs.Points.{clauses_of_history, clauses_of_line}
use Rattle.worked_windows.proofs.Tables.{Table, reading_at, same_clauses, same_execution, same_item}
use Rattle.worked_windows.proofs.Words.{chosen, closure, either_of, gap_set, no_grips, others, refl, split_of}
use lib.Pointwise.{pointwise}

-- The windows

record WorkedOrder : Type 0 where
  window : Setting
  history : List Entry
  table : Table

abbrev worked : Setting → List Entry → Table → WorkedOrder
worked w history table = record { window = w; history = history; table = table }

abbrev first_orders : List WorkedOrder
first_orders =
    worked one_light.window one_light.history one_light.table
    ∷ worked behind_on_fan.window behind_on_fan.history behind_on_fan.table
    ∷ worked released_lamp_overwritten.window released_lamp_overwritten.history released_lamp_overwritten.table
    ∷ worked abort_after_overwrite.window abort_after_overwrite.history abort_after_overwrite.table
    ∷ worked undo_drives_live_writer.window undo_drives_live_writer.history undo_drives_live_writer.table
    ∷ worked no_dirty_read.window no_dirty_read.history no_dirty_read.table
    ∷ worked skipped_and_must_down.window skipped_and_must_down.history skipped_and_must_down.table
    ∷ worked failure_after_last_access.window failure_after_last_access.history failure_after_last_access.table
    ∷ worked lost_between_accesses.window lost_between_accesses.history lost_between_accesses.table
    ∷ worked restart_keeps_down_view.window restart_keeps_down_view.history restart_keeps_down_view.table
    ∷ worked dies_after_first_access.window dies_after_first_access.history dies_after_first_access.table
    ∷ worked undo_dies.window undo_dies.history undo_dies.table
    ∷ worked skipped_under_live_undo.window skipped_under_live_undo.history skipped_under_live_undo.table
    ∷ worked jit_patience_over.window jit_patience_over.history jit_patience_over.table
    ∷ worked jit_patience_just_under.window jit_patience_just_under.history jit_patience_just_under.table
    ∷ worked lease_at_deadline.window lease_at_deadline.history lease_at_deadline.table
    ∷ worked lease_overdue.window lease_overdue.history lease_overdue.table
    ∷ worked timeline_gap_fits.window timeline_gap_fits.history timeline_gap_fits.table
    ∷ worked timeline_gap_too_short.window timeline_gap_too_short.history timeline_gap_too_short.table
    ∷ worked four_models_psv.window four_models_psv.history four_models_psv.table
    ∷ worked four_models_gsv.window four_models_gsv.history four_models_gsv.table ∷ []

abbrev second_orders : List WorkedOrder
second_orders =
    worked down_at_end.window down_at_end.history down_at_end.table
    ∷ worked follows.window follows.history follows.table
    ∷ worked store_and_load.window store_and_load.history store_and_load.table
    ∷ worked strict_read_waits.window strict_read_waits.history strict_read_waits.table
    ∷ worked probe_passed.window probe_passed.history probe_passed.table
    ∷ worked follows_behind_live_run.window follows_behind_live_run.history follows_behind_live_run.table
    ∷ worked sees_down_then_probe_dies.window sees_down_then_probe_dies.history sees_down_then_probe_dies.table
    ∷ worked lease_rounds_up.window lease_rounds_up.history lease_rounds_up.table
    ∷ worked reader_plans_behind_writer.window reader_plans_behind_writer.history reader_plans_behind_writer.table
    ∷ worked whole_end_without_overwritten.window whole_end_without_overwritten.history whole_end_without_overwritten.table
    ∷ worked failure_passes_doomed_run.window failure_passes_doomed_run.history failure_passes_doomed_run.table
    ∷ worked strict_while_probed.window strict_while_probed.history strict_while_probed.table
    ∷ worked dirty_though_down.window dirty_though_down.history dirty_though_down.table
    ∷ worked busy_before_down.window busy_before_down.history busy_before_down.table
    ∷ worked jit_denies_dirty_read.window jit_denies_dirty_read.history jit_denies_dirty_read.table
    ∷ worked skipped_and_down_at_end.window skipped_and_down_at_end.history skipped_and_down_at_end.table
    ∷ worked jit_denied_by_the_floor_itself.window jit_denied_by_the_floor_itself.history jit_denied_by_the_floor_itself.table
    ∷ worked writer_first_does_not_wait.window writer_first_does_not_wait.history writer_first_does_not_wait.table
    ∷ worked jit_patience_puts_at_the_end.window jit_patience_puts_at_the_end.history jit_patience_puts_at_the_end.table
    ∷ worked first_holder_is_not_overdue.window first_holder_is_not_overdue.history first_holder_is_not_overdue.table
    ∷ worked smallest_device_down_at_end.window smallest_device_down_at_end.history smallest_device_down_at_end.table ∷ []

abbrev third_orders : List WorkedOrder
third_orders =
    worked doomed_run_is_not_waited_for.window doomed_run_is_not_waited_for.history doomed_run_is_not_waited_for.table
    ∷ worked released_device_is_free.window released_device_is_free.history released_device_is_free.table
    ∷ worked doomed_writer_is_waited_for.window doomed_writer_is_waited_for.history doomed_writer_is_waited_for.table
    ∷ worked jit_first_holder_denies.window jit_first_holder_denies.history jit_first_holder_denies.table
    ∷ worked doomed_run_bounds_the_floor.window doomed_run_bounds_the_floor.history doomed_run_bounds_the_floor.table
    ∷ worked first_live_run_bounds_the_floor.window first_live_run_bounds_the_floor.history first_live_run_bounds_the_floor.table
    ∷ worked undo_waits_for_the_device.window undo_waits_for_the_device.history undo_waits_for_the_device.table
    ∷ worked skipped_write_then_read.window skipped_write_then_read.history skipped_write_then_read.table
    ∷ worked gaps_of_two_lineages.window gaps_of_two_lineages.history gaps_of_two_lineages.table
    ∷ worked base_is_closed.window base_is_closed.history base_is_closed.table
    ∷ worked timeline_each_run_behind_is_looked_at.window timeline_each_run_behind_is_looked_at.history timeline_each_run_behind_is_looked_at.table
    ∷ worked timeline_failure_passes_live_runs.window timeline_failure_passes_live_runs.history timeline_failure_passes_live_runs.table
    ∷ worked timeline_leader_comes_with_its_follower.window timeline_leader_comes_with_its_follower.history timeline_leader_comes_with_its_follower.table
    ∷ worked timeline_behind_a_doomed_run_whose_command_is_next.window timeline_behind_a_doomed_run_whose_command_is_next.history timeline_behind_a_doomed_run_whose_command_is_next.table
    ∷ worked timeline_failure_comes_with_the_run_behind_it.window timeline_failure_comes_with_the_run_behind_it.history timeline_failure_comes_with_the_run_behind_it.table
    ∷ worked timeline_closed_through_a_run_between.window timeline_closed_through_a_run_between.history timeline_closed_through_a_run_between.table
    ∷ worked timeline_behind_all_before_the_first_live_run.window timeline_behind_all_before_the_first_live_run.history timeline_behind_all_before_the_first_live_run.table
    ∷ worked timeline_second_round_takes_one_more.window timeline_second_round_takes_one_more.history timeline_second_round_takes_one_more.table
    ∷ worked guarded_commands.window guarded_commands.history guarded_commands.table
    ∷ worked skipped_access_then_failure.window skipped_access_then_failure.history skipped_access_then_failure.table
    ∷ worked skip_with_more_to_come.window skip_with_more_to_come.history skip_with_more_to_come.table ∷ []

abbrev fourth_orders : List WorkedOrder
fourth_orders =
    worked skip_releases_what_was_touched.window skip_releases_what_was_touched.history skip_releases_what_was_touched.table
    ∷ worked skip_where_nothing_was_touched.window skip_where_nothing_was_touched.history skip_where_nothing_was_touched.table
    ∷ worked skip_behind_a_doomed_run.window skip_behind_a_doomed_run.history skip_behind_a_doomed_run.table
    ∷ worked doomed_before_its_skip.window doomed_before_its_skip.history doomed_before_its_skip.table
    ∷ worked lease_ends_with_a_skip.window lease_ends_with_a_skip.history lease_ends_with_a_skip.table
    ∷ worked skip_revokes_no_overdue_lease.window skip_revokes_no_overdue_lease.history skip_revokes_no_overdue_lease.table
    ∷ worked skip_waits_strict_gsv.window skip_waits_strict_gsv.history skip_waits_strict_gsv.table
    ∷ worked skip_waits_under_psv_for_who_shares.window skip_waits_under_psv_for_who_shares.history skip_waits_under_psv_for_who_shares.table
    ∷ worked only_who_touched_is_down_at_end.window only_who_touched_is_down_at_end.history only_who_touched_is_down_at_end.table
    ∷ worked dirty_behind_a_skipped_write.window dirty_behind_a_skipped_write.history dirty_behind_a_skipped_write.table
    ∷ worked failure_before_who_has_more_to_come.window failure_before_who_has_more_to_come.history failure_before_who_has_more_to_come.table
    ∷ worked base_without_who_skipped_there.window base_without_who_skipped_there.history base_without_who_skipped_there.table
    ∷ worked base_with_who_is_to_skip_next.window base_with_who_is_to_skip_next.history base_with_who_is_to_skip_next.table
    ∷ worked fits_in_front_of_a_run_that_skipped.window fits_in_front_of_a_run_that_skipped.history fits_in_front_of_a_run_that_skipped.table
    ∷ worked reader_plans_without_what_was_skipped.window reader_plans_without_what_was_skipped.history reader_plans_without_what_was_skipped.table
    ∷ worked plan_does_not_wait_for_who_has_skipped.window plan_does_not_wait_for_who_has_skipped.history plan_does_not_wait_for_who_has_skipped.table
    ∷ worked guard_below_the_register_itself.window guard_below_the_register_itself.history guard_below_the_register_itself.table
    ∷ worked check_leaves_the_register.window check_leaves_the_register.history check_leaves_the_register.table
    ∷ worked follower_behind_a_run_that_skipped.window follower_behind_a_run_that_skipped.history follower_behind_a_run_that_skipped.table
    ∷ worked lost_behind_a_skip.window lost_behind_a_skip.history lost_behind_a_skip.table ∷ []

-- the longest one: a morning of twelve items
abbrev morning : WorkedOrder
morning = worked a_morning.window a_morning.history a_morning.table

abbrev shorter_orders : List WorkedOrder
shorter_orders = first_orders ++ second_orders ++ third_orders ++ fourth_orders

abbrev worked_orders : List WorkedOrder
worked_orders = shorter_orders ++ morning ∷ []

-- Tests: two values that they compare are equal where they hold (`SameClauses`)

-- the places at which an item and the next one are apart
abbrev places_apart : Setting → List Item → List ℕ
places_apart w line = filter (λ at. are_apart (meet w.runs) at line) (range_with_len 0 (length line))

-- the order holds what it is to hold: `IsOrderFor`, of each run, each device and each two runs
abbrev holds_all : Setting → Reading → List Item → Bool
holds_all w n order =
    list_all (λ r. count_by (is_ran r) order == (if is_committed n r then 1 else 0)) (run_numbers w)
    && list_all (λ d. pointwise same_item (filter (is_event_on d) order) (events_of (n.log d))) (device_numbers w)
    && list_all (λ r. list_all (λ f. not (follows w.runs r f && is_committed n r && is_committed n f) || list_any (is_ran r) (behind f order)) (run_numbers w)) (run_numbers w)

-- its serial execution gives the answers of the history, and leaves this state: `AgreesWithSerial`
abbrev agrees : Setting → Reading → List Stand → List Item → Bool
agrees w n last order = same_execution (executed w order) (record { home = last; answers = answers_in n order; refused = false })

-- at this point the four clauses hold of the line: `OrderStands`
abbrev clauses_hold_of : Setting → Reading → Grips → List Item → Bool
clauses_hold_of w n out line = same_clauses (clauses_of_line w (in_order n line) out) (clauses_of_history w (in_order n line))

-- Exchanges

-- each exchange of the order
abbrev orders_exchange : WorkedOrder → Bool
orders_exchange x = list_all (λ at. serves (exchanged at x.table.outcome.order)) (places_apart x.window x.table.outcome.order)
  where
    serves : List Item → Bool
    serves order = holds_all x.window (reading x.window x.history) order && agrees x.window (reading x.window x.history) x.table.outcome.home order

-- each exchange of this line
abbrev line_exchanges : Setting → Reading → Grips → Bool
line_exchanges w n out = list_all (λ at. clauses_hold_of w n out (exchanged at n.line)) (places_apart w n.line)

-- .. at each point of the window
abbrev lines_exchange : WorkedOrder → Bool
lines_exchange x = list_all (λ r. line_exchanges x.window (reading_at x.window x.history r.entries) r.out) x.table.rows

orders_are_exchanged : list_all orders_exchange worked_orders ≡ true
unfolding chosen closure either_of exchanged gap_set others split_of
orders_are_exchanged = refl

first_lines_are_exchanged : list_all lines_exchange first_orders ≡ true
unfolding chosen closure either_of exchanged gap_set others split_of
first_lines_are_exchanged = refl

second_lines_are_exchanged : list_all lines_exchange second_orders ≡ true
unfolding chosen closure either_of exchanged gap_set others split_of
second_lines_are_exchanged = refl

third_lines_are_exchanged : list_all lines_exchange third_orders ≡ true
unfolding chosen closure either_of exchanged gap_set others split_of
third_lines_are_exchanged = refl

fourth_lines_are_exchanged : list_all lines_exchange fourth_orders ≡ true
unfolding chosen closure either_of exchanged gap_set others split_of
fourth_lines_are_exchanged = refl

-- of the morning, at its end
morning_is_exchanged : line_exchanges morning.window (reading morning.window morning.history) no_grips ≡ true
unfolding chosen closure either_of exchanged gap_set others split_of
morning_is_exchanged = refl

-- How many there are

how_many_orders : length worked_orders ≡ 84
how_many_orders = refl

-- with the places at which their items are apart
abbrev exchanges_in : List WorkedOrder → ℕ
exchanges_in orders = fold (λ n x. n + length (places_apart x.window x.table.outcome.order)) 0 orders

how_many_exchanges : exchanges_in worked_orders ≡ 28
unfolding chosen closure either_of exchanged gap_set others split_of
how_many_exchanges = refl

-- .. and their lines, over all points
abbrev exchanges_along : List WorkedOrder → ℕ
exchanges_along orders = fold (λ n x. fold (λ k r. k + length (places_apart x.window (reading_at x.window x.history r.entries).line)) n x.table.rows) 0 orders

how_many_on_the_way : exchanges_along shorter_orders ≡ 202
unfolding chosen closure either_of exchanged gap_set others split_of
how_many_on_the_way = refl
