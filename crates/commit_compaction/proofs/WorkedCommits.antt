-- Commits of worked windows: what becomes of a device's lineage.
use Rattle.command_rules.specs.Rosters.{run_no}
use Rattle.home_types.specs.declared.commands.View.TheVariants.{Down, Up}
use Rattle.home_types.specs.declared.commands.View.{View}
use Rattle.lineage_table.specs.Lineages.{LineageState, committed_lineage}
use Rattle.lineage_table.specs.declared.accesses.Access.{Access}
use Rattle.lineage_table.specs.declared.accesses.Status.TheVariants.{Released, Scheduled}
use Rattle.std.proofs.Common.{List, None, Option, Some, [], refl, true, ℕ, ◌∷◌, ◌≡◌}

abbrev done : ℕ → View → Option ℕ → Access
done r view wrote = record { run = run_no r; status = Released; view = Some view; wrote = wrote; from = 0; to = 0 }

abbrev waiting : ℕ → Access
waiting r = record { run = run_no r; status = Scheduled; view = None; wrote = None; from = 0; to = 0 }

abbrev device : ℕ → List Access → ℕ → LineageState
device committed accesses room = record { committed = committed; accesses = accesses; room = room; up = true }

-- a released lamp is overwritten: run 2 commits first, then run 1, whose access on the lamp is gone
lamp_after_second : committed_lineage 2 (device 0 (done 1 Up (Some 1) ∷ done 2 Up (Some 0) ∷ []) 0) ≡ device 0 [] 2
lamp_after_second = refl

fan_after_second : committed_lineage 2 (device 0 (waiting 1 ∷ []) 0) ≡ device 0 (waiting 1 ∷ []) 0
fan_after_second = refl

fan_after_first : committed_lineage 1 (device 0 (done 1 Up (Some 1) ∷ []) 0) ≡ device 1 [] 1
fan_after_first = refl

lamp_after_first : committed_lineage 1 (device 0 [] 2) ≡ device 0 [] 2
lamp_after_first = refl

-- run 2 skipped the heater, which run 1 wrote: its value stays a live run's, to be undone
heater_after_skip : committed_lineage 2 (device 18 (done 1 Up (Some 20) ∷ done 2 Down None ∷ []) 0) ≡ device 18 (done 1 Up (Some 20) ∷ []) 1
heater_after_skip = refl

-- run 1 commits before the reader behind it has touched the heater
heater_before_read : committed_lineage 1 (device 18 (done 1 Up (Some 20) ∷ waiting 2 ∷ []) 0) ≡ device 20 (waiting 2 ∷ []) 1
heater_before_read = refl
