-- Records and devices that are not those of the day.
use Rattle.worked_windows.proofs.LegalWindow as first_window
use Rattle.device_states.specs.Devices.{Shown}
use Rattle.history_book.specs.Gaps.{split_of}
use Rattle.history_book.specs.declared.records.WindowRecord.{WindowRecord}
use Rattle.home_types.specs.HomeStates.{stand_at}
use Rattle.legal_days.specs.LegalDays.{IsLegalDay}
use Rattle.worked_windows.proofs.Prelude.{List, Some, [], ap, drop, length, refl, ◌∷◌}
use Rattle.worked_windows.proofs.LegalDay.{closed, devices, light, light_left, mode, records, script}
use Rattle.worked_windows.proofs.OtherRecords.{differ}

abbrev IsDayWith : List WindowRecord → List Shown → Type 0
IsDayWith records devices = IsLegalDay (λ (x : Shown). x) script mode records devices

-- the day's devices with another one in the place of the light
abbrev with_light : Shown → List Shown
with_light x = x ∷ drop 1 devices

without_the_second_window : IsDayWith (first_window.closed ∷ []) devices → ⊥
unfolding split_of
without_the_second_window day = differ 1 2 refl day.count

with_the_windows_exchanged : IsDayWith (closed ∷ first_window.closed ∷ []) devices → ⊥
unfolding split_of
with_the_windows_exchanged day = differ 1 0 refl (ap (λ first. (stand_at first 0).value) (day.legal 0 closed refl).first)

-- the second window begins where the first has ended, not at the script's start
with_the_first_window_twice : IsDayWith (first_window.closed ∷ first_window.closed ∷ []) devices → ⊥
unfolding split_of
with_the_first_window_twice day = differ 0 1 refl (ap (λ first. (stand_at first 0).value) (day.legal 1 first_window.closed refl).first)

at_another_value : IsDayWith records (with_light (record light_left { stands = 1 })) → ⊥
unfolding split_of
at_another_value day = differ 1 0 refl (day.left.stand 0 (record light_left { stands = 1 }) refl refl)

with_the_last_turns_alone : IsDayWith records (with_light (record light_left { turns = 2 })) → ⊥
unfolding split_of
with_the_last_turns_alone day = differ 2 3 refl (day.left.turns_are 0 (record light_left { turns = 2 }) refl)

with_a_fault_forgotten : IsDayWith records (with_light (record light_left { faults = 0 })) → ⊥
unfolding split_of
with_a_fault_forgotten day = differ 0 1 refl (day.left.faults_are 0 (record light_left { faults = 0 }) refl)

with_another_number : IsDayWith records (with_light (record light_left { tag = 1 })) → ⊥
unfolding split_of
with_another_number day = differ 1 0 refl (day.left.own 0 (record light_left { tag = 1 }) light refl refl).tag_is

with_another_plan : IsDayWith records (with_light (record light_left { plan = Some [] })) → ⊥
unfolding split_of
with_another_plan day = differ 0 1 refl (ap (λ l. length l) ((day.left.own 0 (record light_left { plan = Some [] }) light refl refl).plan_is [] refl))

without_a_device : IsDayWith records (drop 1 devices) → ⊥
unfolding split_of
without_a_device day = differ 3 4 refl day.left.size
