-- Histories of the worked windows with something altered, and the tests that refuse them.
use Rattle.worked_windows.proofs.DoomedBeforeItsSkip as doomed_before_its_skip
use Rattle.worked_windows.proofs.DownAtEnd as down_at_end
use Rattle.worked_windows.proofs.FailureAfterLastAccess as failure_after_last_access
use Rattle.worked_windows.proofs.FailureBeforeWhoHasMoreToCome as failure_before_who_has_more_to_come
use Rattle.worked_windows.proofs.Follows as follows
use Rattle.worked_windows.proofs.FourModelsPsv as four_models_psv
use Rattle.worked_windows.proofs.FourModelsWv as four_models_wv
use Rattle.worked_windows.proofs.GuardedCommands as guarded_commands
use Rattle.worked_windows.proofs.LeaseOverdue as lease_overdue
use Rattle.worked_windows.proofs.LostBetweenAccesses as lost_between_accesses
use Rattle.worked_windows.proofs.NoDirtyRead as no_dirty_read
use Rattle.worked_windows.proofs.OneLight as one_light
use Rattle.worked_windows.proofs.OnlyWhoTouchedIsDownAtEnd as only_who_touched_is_down_at_end
use Rattle.worked_windows.proofs.ReleasedLampOverwritten as released_lamp_overwritten
use Rattle.worked_windows.proofs.SeesDownThenProbeDies as sees_down_then_probe_dies
use Rattle.worked_windows.proofs.SkipRevokesNoOverdueLease as skip_revokes_no_overdue_lease
use Rattle.worked_windows.proofs.SkipWaitsStrictGsv as skip_waits_strict_gsv
use Rattle.worked_windows.proofs.SkippedAndMustDown as skipped_and_must_down
use Rattle.worked_windows.proofs.StoreAndLoad as store_and_load
use Rattle.worked_windows.proofs.UndoDies as undo_dies
use Rattle.worked_windows.proofs.WeakReadsLiveWriter as weak_reads_live_writer
use Rattle.history_book.specs.WellFormed.{each_entry, is_well_formed}
use Rattle.legal_days.specs.LegalWindows.{weakly_allowed}
use Rattle.worked_windows.proofs.Edits.{exchanged, left_out, put_in, replaced}
use Rattle.worked_windows.proofs.Points.{verdict}
use Rattle.worked_windows.proofs.Words.{Aborted, Arrived, Committed, Did, Doomed, Down, DownAtEnd, Ended, Fell, Fine, Found, Lost, MustDown, Placed, Refuted, Revoked, Rose, Skipped, Undid, device_no, false, refl, run_no, split_of, true, ◌≡◌}

-- Histories that are not well formed

record AreNotWellFormed : Type 0 where
  placed_before_it_arrived : is_well_formed released_lamp_overwritten.window (exchanged 0 released_lamp_overwritten.history) ≡ false
  a_command_passed_over : is_well_formed released_lamp_overwritten.window (left_out 4 released_lamp_overwritten.history) ≡ false
  committed_with_a_command_left : is_well_formed released_lamp_overwritten.window (left_out 7 released_lamp_overwritten.history) ≡ false
  a_write_finds_a_value : is_well_formed released_lamp_overwritten.window (replaced 4 (Did (run_no 1) 0 (Found 1)) released_lamp_overwritten.history) ≡ false
  failed_while_down : is_well_formed failure_after_last_access.window (put_in 4 (Fell (device_no 0)) failure_after_last_access.history) ≡ false
  back_while_up : is_well_formed failure_after_last_access.window (put_in 3 (Rose (device_no 0)) failure_after_last_access.history) ≡ false
  aborted_for_another_cause : is_well_formed no_dirty_read.window (replaced 9 (Ended (run_no 1) (Aborted (Refuted 1 1))) no_dirty_read.history) ≡ false
  undone_where_it_wrote_nothing : is_well_formed no_dirty_read.window (replaced 7 (Undid (run_no 1) (device_no 1) true) no_dirty_read.history) ≡ false
  undone_before_it_was_doomed : is_well_formed no_dirty_read.window (exchanged 6 no_dirty_read.history) ≡ false
  a_moment_falls : is_well_formed follows.window (replaced 2 (Placed (run_no 1) 0 200) follows.history) ≡ false
  two_answers_after_the_doom : is_well_formed lost_between_accesses.window (put_in 6 (Did (run_no 1) 2 Down) (put_in 5 (Did (run_no 1) 1 Fine) lost_between_accesses.history)) ≡ false
  doomed_twice : is_well_formed undo_dies.window (put_in 5 (Doomed (run_no 1) (Refuted 1 0)) undo_dies.history) ≡ false
  ended_and_answered : is_well_formed one_light.window (exchanged 2 one_light.history) ≡ false
  a_run_that_is_none : is_well_formed one_light.window (put_in 0 (Arrived (run_no 2) 0) one_light.history) ≡ false
  done_though_its_guard_does_not_hold : is_well_formed guarded_commands.window (replaced 4 (Did (run_no 1) 2 Fine) guarded_commands.history) ≡ false
  down_though_its_guard_does_not_hold : is_well_formed guarded_commands.window (replaced 4 (Did (run_no 1) 2 Down) guarded_commands.history) ≡ false
  skipped_though_its_guard_holds : is_well_formed guarded_commands.window (replaced 3 (Did (run_no 1) 1 Skipped) guarded_commands.history) ≡ false
  skipped_when_doomed : is_well_formed doomed_before_its_skip.window (put_in 7 (Did (run_no 1) 2 Skipped) doomed_before_its_skip.history) ≡ false

are_not_well_formed : AreNotWellFormed
unfolding split_of
are_not_well_formed = record {
  placed_before_it_arrived = refl;
  a_command_passed_over = refl;
  committed_with_a_command_left = refl;
  a_write_finds_a_value = refl;
  failed_while_down = refl;
  back_while_up = refl;
  aborted_for_another_cause = refl;
  undone_where_it_wrote_nothing = refl;
  undone_before_it_was_doomed = refl;
  a_moment_falls = refl;
  two_answers_after_the_doom = refl;
  doomed_twice = refl;
  ended_and_answered = refl;
  a_run_that_is_none = refl;
  done_though_its_guard_does_not_hold = refl;
  down_though_its_guard_does_not_hold = refl;
  skipped_though_its_guard_holds = refl;
  skipped_when_doomed = refl;
}

-- Reads that are not clean

record AreNotClean : Type 0 where
  finds_what_an_aborted_run_wrote : verdict no_dirty_read.window (replaced 8 (Did (run_no 2) 0 (Found 20)) no_dirty_read.history) ≡ record { well_formed = true; clean = false; justified = true; isolated = true }
  reads_before_the_writer_is_undone : verdict no_dirty_read.window (put_in 5 (Did (run_no 2) 0 (Found 18)) (left_out 8 no_dirty_read.history)) ≡ record { well_formed = true; clean = false; justified = true; isolated = true }
  finds_not_its_own_write : verdict store_and_load.window (replaced 3 (Did (run_no 1) 1 (Found 18)) store_and_load.history) ≡ record { well_formed = true; clean = false; justified = true; isolated = true }
  down_while_up : verdict failure_after_last_access.window (replaced 4 (Did (run_no 1) 1 Down) failure_after_last_access.history) ≡ record { well_formed = true; clean = false; justified = true; isolated = true }

are_not_clean : AreNotClean
unfolding split_of
are_not_clean = record { finds_what_an_aborted_run_wrote = refl; reads_before_the_writer_is_undone = refl; finds_not_its_own_write = refl; down_while_up = refl }

-- Aborts that are not justified

record AreNotJustified : Type 0 where
  doomed_by_best_effort : verdict skipped_and_must_down.window (replaced 6 (Ended (run_no 1) (Aborted (MustDown 0))) (put_in 4 (Doomed (run_no 1) (MustDown 0)) skipped_and_must_down.history)) ≡ record { well_formed = true; clean = true; justified = false; isolated = true }
  doomed_by_a_check_that_held : verdict undo_dies.window (replaced 7 (Ended (run_no 1) (Aborted (Refuted 1 1)))
      (replaced 4 (Doomed (run_no 1) (Refuted 1 1)) (replaced 3 (Did (run_no 1) 1 (Found 1)) undo_dies.history)))
      ≡ record { well_formed = true; clean = false; justified = false; isolated = true }
  doomed_by_another_answer : verdict undo_dies.window (replaced 3 (Did (run_no 1) 1 (Found 1)) undo_dies.history) ≡ record { well_formed = true; clean = false; justified = false; isolated = true }
  lost_without_a_failure : verdict lost_between_accesses.window (left_out 3 lost_between_accesses.history) ≡ record { well_formed = true; clean = true; justified = false; isolated = true }
  lost_before_its_first_answer : verdict lost_between_accesses.window (exchanged 2 lost_between_accesses.history) ≡ record { well_formed = true; clean = true; justified = false; isolated = true }
  lost_after_its_last_answer : verdict failure_after_last_access.window
      (replaced 6 (Ended (run_no 1) (Aborted (Lost (device_no 0)))) (put_in 4 (Doomed (run_no 1) (Lost (device_no 0))) failure_after_last_access.history))
      ≡ record { well_formed = true; clean = true; justified = false; isolated = true }
  lost_where_it_sees_down : verdict sees_down_then_probe_dies.window (replaced 8 (Ended (run_no 1) (Aborted (Lost (device_no 0))))
      (left_out 8 (put_in 6 (Doomed (run_no 1) (Lost (device_no 0))) sees_down_then_probe_dies.history)))
      ≡ record { well_formed = true; clean = true; justified = false; isolated = true }
  revoked_at_the_deadline : verdict lease_overdue.window (replaced 6 (Ended (run_no 2) (Aborted (Revoked (run_no 1) (device_no 2) 110 110)))
      (replaced 5 (Doomed (run_no 2) (Revoked (run_no 1) (device_no 2) 110 110)) lease_overdue.history))
      ≡ record { well_formed = true; clean = true; justified = false; isolated = true }
  revoked_with_another_deadline : verdict lease_overdue.window (replaced 6 (Ended (run_no 2) (Aborted (Revoked (run_no 1) (device_no 2) 109 111)))
      (replaced 5 (Doomed (run_no 2) (Revoked (run_no 1) (device_no 2) 109 111)) lease_overdue.history))
      ≡ record { well_formed = true; clean = true; justified = false; isolated = true }
  revoked_before_the_lender_asks : verdict lease_overdue.window (exchanged 4 lease_overdue.history) ≡ record { well_formed = true; clean = true; justified = false; isolated = true }
  down_at_end_under_eventual : verdict failure_after_last_access.window (replaced 6 (Ended (run_no 1) (Aborted (DownAtEnd (device_no 0))))
      (put_in 5 (Doomed (run_no 1) (DownAtEnd (device_no 0))) failure_after_last_access.history))
      ≡ record { well_formed = true; clean = true; justified = false; isolated = true }
  down_at_end_of_an_up_device : verdict down_at_end.window (replaced 8 (Ended (run_no 1) (Aborted (DownAtEnd (device_no 1)))) (replaced 5 (Doomed (run_no 1) (DownAtEnd (device_no 1))) down_at_end.history)) ≡ record { well_formed = true; clean = true; justified = false; isolated = true }
  lost_by_a_skip : verdict failure_before_who_has_more_to_come.window (left_out 8 (left_out 11 (replaced 12 (Ended (run_no 2) (Aborted (Lost (device_no 0))))
      (put_in 7 (Doomed (run_no 2) (Lost (device_no 0))) failure_before_who_has_more_to_come.history))))
      ≡ record { well_formed = true; clean = true; justified = false; isolated = true }
  revoked_by_a_skip : verdict skip_revokes_no_overdue_lease.window
      (left_out 12 (left_out 13 (replaced 14 (Ended (run_no 2) (Aborted (Revoked (run_no 1) (device_no 0) 320 321)))
      (put_in 9 (Doomed (run_no 2) (Revoked (run_no 1) (device_no 0) 320 321)) skip_revokes_no_overdue_lease.history))))
      ≡ record { well_formed = true; clean = true; justified = false; isolated = true }
  down_at_end_where_it_skipped : verdict only_who_touched_is_down_at_end.window (replaced 8 (Ended (run_no 1) (Aborted (DownAtEnd (device_no 0))))
      (put_in 7 (Doomed (run_no 1) (DownAtEnd (device_no 0))) only_who_touched_is_down_at_end.history))
      ≡ record { well_formed = true; clean = true; justified = false; isolated = true }

are_not_justified : AreNotJustified
unfolding split_of
are_not_justified = record {
  doomed_by_best_effort = refl;
  doomed_by_a_check_that_held = refl;
  doomed_by_another_answer = refl;
  lost_without_a_failure = refl;
  lost_before_its_first_answer = refl;
  lost_after_its_last_answer = refl;
  lost_where_it_sees_down = refl;
  revoked_at_the_deadline = refl;
  revoked_with_another_deadline = refl;
  revoked_before_the_lender_asks = refl;
  down_at_end_under_eventual = refl;
  down_at_end_of_an_up_device = refl;
  lost_by_a_skip = refl;
  revoked_by_a_skip = refl;
  down_at_end_where_it_skipped = refl;
}

-- Runs that are not isolated under a strict model

record AreNotIsolated : Type 0 where
  answered_before_the_run_before_ends : verdict four_models_psv.window (exchanged 10 four_models_psv.history) ≡ record { well_formed = true; clean = true; justified = true; isolated = false }
  committed_with_a_device_down : verdict down_at_end.window (replaced 5 (Ended (run_no 1) Committed) (left_out 6 (left_out 7 (left_out 8 down_at_end.history)))) ≡ record { well_formed = true; clean = true; justified = true; isolated = false }
  undone_while_the_run_before_lives : verdict four_models_psv.window (replaced 13 (Ended (run_no 2) (Aborted (Refuted 0 0))) (left_out 13 (left_out 14 (put_in
      12 (Undid (run_no 2) (device_no 1) true) (put_in 10 (Did (run_no 2) 0 Fine) (replaced 10 (Doomed (run_no 2) (Refuted 0 0)) four_models_psv.history))))))
      ≡ record { well_formed = true; clean = true; justified = false; isolated = false }
  skipped_before_the_run_before_ends : verdict skip_waits_strict_gsv.window (exchanged 6 skip_waits_strict_gsv.history) ≡ record { well_formed = true; clean = true; justified = true; isolated = false }

are_not_isolated : AreNotIsolated
unfolding split_of
are_not_isolated = record { answered_before_the_run_before_ends = refl; committed_with_a_device_down = refl; undone_while_the_run_before_lives = refl; skipped_before_the_run_before_ends = refl }

-- What the weak model does not allow

record AreNotAllowed : Type 0 where
  weak_finds_an_old_value : each_entry weak_reads_live_writer.window (weakly_allowed weak_reads_live_writer.window) (replaced 5 (Did (run_no 2) 0 (Found 18)) weak_reads_live_writer.history) ≡ false
  weak_down_while_up : each_entry four_models_wv.window (weakly_allowed four_models_wv.window) (replaced 10 (Did (run_no 1) 1 Down) four_models_wv.history) ≡ false
  weak_committed_with_a_failed_must : each_entry four_models_wv.window (weakly_allowed four_models_wv.window) (put_in 10 (Fell (device_no 1)) (replaced 10 (Did (run_no 1) 1 Down) four_models_wv.history)) ≡ false
  weak_lost : each_entry four_models_wv.window (weakly_allowed four_models_wv.window) (put_in 10 (Ended (run_no 3) (Aborted (Lost (device_no 3)))) (replaced 9 (Doomed (run_no 3) (Lost (device_no 3))) four_models_wv.history)) ≡ false

are_not_allowed : AreNotAllowed
unfolding split_of
are_not_allowed = record { weak_finds_an_old_value = refl; weak_down_while_up = refl; weak_committed_with_a_failed_must = refl; weak_lost = refl }
