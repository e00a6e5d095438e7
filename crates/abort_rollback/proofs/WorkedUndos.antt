-- Undos of worked windows: which comes next, and what becomes of a device's lineage.
use Rattle.abort_rollback.proofs.Prelude.{Drive, Drop, Finished, LineageState, List, None, Option, Some, [], counted_up, device_no, false, next_undo, refl, removed, run_no, true, undone, ℕ, ◌∷◌, ◌≡◌}
use Rattle.home_types.specs.declared.commands.View.TheVariants.{Up}
use Rattle.lineage_table.specs.declared.accesses.Access.{Access}
use Rattle.lineage_table.specs.declared.accesses.Status.TheVariants.{Released, Scheduled}

abbrev done : ℕ → Option ℕ → Access
done r wrote = record { run = run_no r; status = Released; view = Some Up; wrote = wrote; from = 0; to = 0 }

abbrev waiting : ℕ → Access
waiting r = record { run = run_no r; status = Scheduled; view = None; wrote = None; from = 0; to = 0 }

abbrev device : ℕ → List Access → ℕ → LineageState
device committed accesses room = record { committed = committed; accesses = accesses; room = room; up = true }

-- a lamp, a fan, an oven that no run uses, and a heater that stood at 18
abbrev home : LineageState → LineageState → LineageState → List LineageState
home lamp fan heater = lamp ∷ fan ∷ device 0 [] 0 ∷ heater ∷ []

-- run 2 overwrote the heater of run 1, which is live, and is doomed by its check of the fan: the value of run 1 is driven
abbrev heater_of_both : LineageState
heater_of_both = device 18 (done 1 (Some 20) ∷ done 2 (Some 25) ∷ []) 0

abbrev after_check : LineageState → List LineageState
after_check heater = home (device 0 (waiting 1 ∷ []) 0) (device 0 (done 2 None ∷ []) 0) heater

undo_drives_live_writer : next_undo (after_check heater_of_both) 2 ≡ Drive (device_no 3) 20
undo_drives_live_writer = refl

heater_after_undo : undone 2 heater_of_both ≡ device 18 (done 1 (Some 20) ∷ done 2 None ∷ []) 0
heater_after_undo = refl

finished_after_undo : next_undo (after_check (undone 2 heater_of_both)) 2 ≡ Finished
finished_after_undo = refl

heater_after_withdrawal : removed 2 (undone 2 heater_of_both) ≡ device 18 (done 1 (Some 20) ∷ []) 1
heater_after_withdrawal = refl

lamp_after_withdrawal : removed 2 (device 0 (waiting 1 ∷ []) 0) ≡ device 0 (waiting 1 ∷ []) 0
lamp_after_withdrawal = refl

-- run 1 is doomed after run 2 overwrote its heater: it has nothing to undo
finished_after_overwrite : next_undo (home (device 0 [] 0) (device 0 (done 1 None ∷ []) 0) heater_of_both) 1 ≡ Finished
finished_after_overwrite = refl

heater_after_overwrite : removed 1 heater_of_both ≡ device 18 (done 2 (Some 25) ∷ []) 1
heater_after_overwrite = refl

-- run 1 is doomed while a reader of its heater waits: the committed value is driven
undo_before_read : next_undo (home (device 0 [] 0) (device 0 (done 1 None ∷ []) 0) (device 18 (done 1 (Some 20) ∷ waiting 2 ∷ []) 0)) 1 ≡ Drive (device_no 3) 18
undo_before_read = refl

-- run 1 is doomed at its end because the lamp is down: the write on the lamp is dropped first, then the fan is driven
abbrev written : LineageState
written = device 0 (done 1 (Some 1) ∷ []) 0

lamp_is_dropped : next_undo (home (counted_up false written) written (device 18 [] 0)) 1 ≡ Drop (device_no 0)
lamp_is_dropped = refl

fan_is_driven : next_undo (home (undone 1 (counted_up false written)) written (device 18 [] 0)) 1 ≡ Drive (device_no 1) 0
fan_is_driven = refl

finished_at_end : next_undo (home (undone 1 (counted_up false written)) (undone 1 written) (device 18 [] 0)) 1 ≡ Finished
finished_at_end = refl
