-- Orders, records and places that are not those of a history.
use Rattle.worked_windows.proofs.FailureAfterLastAccess as failure_after_last_access
use Rattle.worked_windows.proofs.Follows as follows_window
use Rattle.worked_windows.proofs.GuardedCommands as guarded_commands
use Rattle.worked_windows.proofs.JitPatienceOver as jit_patience_over
use Rattle.worked_windows.proofs.LostBetweenAccesses as lost_between_accesses
use Rattle.worked_windows.proofs.NoDirtyRead as no_dirty_read
use Rattle.worked_windows.proofs.ReleasedLampOverwritten as released_lamp_overwritten
use Rattle.worked_windows.proofs.UndoDies as undo_dies
use Rattle.command_rules.specs.Serial.{Served}
use Rattle.home_types.specs.HomeStates.{stand_at}
use Rattle.home_types.specs.declared.commands.Answer.{Answer}
use Rattle.legal_days.specs.AccountedCalls.{CallsAreAccounted}
use Rattle.legal_days.specs.Agreement.{AgreesWithSerial}
use Rattle.legal_days.specs.Orders.{IsOrderFor}
use Rattle.worked_windows.proofs.Prelude.{At, DeniedBy, List, PlacesAreScheduled, Placing, [], ap, arith, false, length, refl, true, ℕ, ◌==◌, ◌∷◌, ◌≡◌, ◌≤◌}
use Rattle.std.proofs.lemmas.Grind.{common_steps}
use Rattle.worked_windows.proofs.Edits.{replaced}
use Rattle.worked_windows.proofs.Words.{Back, Did, Down, Failed, Fine, Found, Placed, Ran, Skipped, Undid, device_no, run_no, split_of}

pub differ : (a b : ℕ) → (a == b) ≡ false → a ≡ b → ⊥
differ a b other same = grind (arith, common_steps)

-- the value in the first answer, 0 where it has none
abbrev first_found : List Served → ℕ
first_found [] = 0
first_found (s ∷ served) = value_in s.answers
  where
    value_in : List Answer → ℕ
    value_in [] = 0
    value_in (Fine ∷ answers) = 0
    value_in (Found x ∷ answers) = x
    value_in (Down ∷ answers) = 0
    value_in (Skipped ∷ answers) = 0

-- how many items stand in front of the place
abbrev front_size : Placing → ℕ
front_size (At s) = length s.front
front_size (DeniedBy d r) = 0

-- Orders that are none of the history

without_a_committed_run : IsOrderFor released_lamp_overwritten.window released_lamp_overwritten.history (Ran (run_no 2) ∷ []) → ⊥
unfolding split_of
without_a_committed_run order = differ 0 1 refl (order.runs 1)

with_a_run_twice : IsOrderFor released_lamp_overwritten.window released_lamp_overwritten.history (Ran (run_no 1) ∷ Ran (run_no 1) ∷ Ran (run_no 2) ∷ []) → ⊥
unfolding split_of
with_a_run_twice order = differ 2 1 refl (order.runs 1)

with_an_aborted_run : IsOrderFor no_dirty_read.window no_dirty_read.history (Ran (run_no 1) ∷ Ran (run_no 2) ∷ []) → ⊥
unfolding split_of
with_an_aborted_run order = differ 1 0 refl (order.runs 1)

without_a_failure : IsOrderFor failure_after_last_access.window failure_after_last_access.history (Ran (run_no 1) ∷ []) → ⊥
unfolding split_of
without_a_failure order = let events : [] ≡ (Failed (device_no 0) 1 ∷ []) = order.events 0 in absurd (cc)

with_the_events_exchanged : IsOrderFor undo_dies.window undo_dies.history (Back (device_no 0) 1 ∷ Failed (device_no 0) 1 ∷ []) → ⊥
unfolding split_of
with_the_events_exchanged order = let events : (Back (device_no 0) 1 ∷ Failed (device_no 0) 1 ∷ []) ≡ (Failed (device_no 0) 1 ∷ Back (device_no 0) 1 ∷ []) = order.events 0 in absurd (cc)

with_a_run_before_the_one_it_follows : IsOrderFor follows_window.window follows_window.history (Ran (run_no 2) ∷ Ran (run_no 1) ∷ []) → ⊥
unfolding split_of
with_a_run_before_the_one_it_follows order = let behind : false ≡ true = order.following 2 1 refl in absurd (cc)

-- Records that do not agree with the serial execution

-- the run that let the lamp go first is served last
with_the_runs_exchanged : AgreesWithSerial released_lamp_overwritten.window released_lamp_overwritten.history (Ran (run_no 2) ∷ Ran (run_no 1) ∷ []) (record { value = 0; up = true } ∷ record { value = 1; up = true } ∷ record { value = 0; up = true } ∷ record { value = 18; up = true } ∷ []) → ⊥
unfolding split_of
with_the_runs_exchanged agrees = differ 1 0 refl (ap (λ home. (stand_at home 0).value) agrees.home)

with_another_last_value : AgreesWithSerial released_lamp_overwritten.window released_lamp_overwritten.history released_lamp_overwritten.table.outcome.order
    (record { value = 0; up = true } ∷ record { value = 0; up = true } ∷ record { value = 0; up = true } ∷ record { value = 18; up = true } ∷ []) → ⊥
unfolding split_of
with_another_last_value agrees = differ 1 0 refl (ap (λ home. (stand_at home 1).value) agrees.home)

with_the_failure_before_the_run : AgreesWithSerial failure_after_last_access.window failure_after_last_access.history
    (Failed (device_no 0) 1 ∷ Ran (run_no 1) ∷ [])
    (record { value = 1; up = false } ∷ record { value = 1; up = true } ∷ record { value = 0; up = true } ∷ record { value = 18; up = true } ∷ []) → ⊥
unfolding split_of
with_the_failure_before_the_run agrees = let refused : true ≡ false = agrees.applies in absurd (cc)

with_another_answer : AgreesWithSerial no_dirty_read.window (replaced 8 (Did (run_no 2) 0 (Found 20)) no_dirty_read.history) (Ran (run_no 2) ∷ []) (record { value = 0; up = true } ∷ record { value = 0; up = true } ∷ record { value = 0; up = true } ∷ record { value = 18; up = true } ∷ []) → ⊥
unfolding split_of
with_another_answer agrees = differ 18 20 refl (ap first_found agrees.answers)

with_a_device_up_that_is_down : AgreesWithSerial failure_after_last_access.window failure_after_last_access.history
    failure_after_last_access.table.outcome.order
    (record { value = 1; up = true } ∷ record { value = 1; up = true } ∷ record { value = 0; up = true } ∷ record { value = 18; up = true } ∷ []) → ⊥
unfolding split_of
with_a_device_up_that_is_down agrees = let up : false ≡ true = ap (λ home. (stand_at home 0).up) agrees.home in absurd (cc)

-- Calls that are not accounted for

with_a_call_more : CallsAreAccounted released_lamp_overwritten.window released_lamp_overwritten.history (2 ∷ 2 ∷ 0 ∷ 0 ∷ []) (0 ∷ 0 ∷ 0 ∷ 0 ∷ []) → ⊥
unfolding split_of
with_a_call_more calls = differ 2 1 refl (calls.turns_of 1 (omega arith))

-- the command on the fan was skipped, and is counted
with_a_call_for_a_skip : CallsAreAccounted guarded_commands.window guarded_commands.history (1 ∷ 1 ∷ 0 ∷ 1 ∷ []) (0 ∷ 0 ∷ 0 ∷ 0 ∷ []) → ⊥
unfolding split_of
with_a_call_for_a_skip calls = differ 1 0 refl (calls.turns_of 1 (omega arith))

-- the undo was dropped, and is told as a drive
with_a_drive_that_was_dropped : CallsAreAccounted lost_between_accesses.window (replaced 5 (Undid (run_no 1) (device_no 0) true) lost_between_accesses.history) (1 ∷ 0 ∷ 0 ∷ 0 ∷ []) (1 ∷ 0 ∷ 0 ∷ 0 ∷ []) → ⊥
unfolding split_of
with_a_drive_that_was_dropped calls = differ 1 2 refl (calls.turns_of 0 (omega arith))

with_a_failure_and_no_fault : CallsAreAccounted failure_after_last_access.window failure_after_last_access.history (1 ∷ 1 ∷ 0 ∷ 0 ∷ []) (0 ∷ 0 ∷ 0 ∷ 0 ∷ []) → ⊥
unfolding split_of
with_a_failure_and_no_fault calls = let lamp : 1 ≤ 0 = calls.faults_of 0 (omega arith) in absurd (omega arith)

-- Places that are not the scheduler's

-- first come first served: the run is placed before one that came first
placed_in_front : PlacesAreScheduled released_lamp_overwritten.window (replaced 3 (Placed (run_no 2) 0 0) released_lamp_overwritten.history) → ⊥
unfolding split_of
placed_in_front places = differ 1 0 refl (ap front_size places.1.1.1.0.2)

-- .. or behind the end of the line
placed_behind_the_end : PlacesAreScheduled follows_window.window (replaced 5 (Placed (run_no 2) 2 100) follows_window.history) → ⊥
unfolding split_of
placed_behind_the_end places = differ 1 2 refl (places.1.1.1.1.1.0.3)

-- just-in-time: the run is placed before one that has touched its device
placed_before_the_floor : PlacesAreScheduled jit_patience_over.window (replaced 4 (Placed (run_no 2) 0 100) jit_patience_over.history) → ⊥
unfolding split_of
placed_before_the_floor places = differ 1 0 refl (ap front_size places.1.1.1.1.0.2)
