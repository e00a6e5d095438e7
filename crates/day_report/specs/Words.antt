-- What the lines of a window call its devices, values, runs, answers and causes.
-- A number that names nothing in the script has the empty name; a value without a name is written
-- as its number.
use Rattle.history_book.specs.declared.entries.Cause.TheVariants.{DownAtEnd, Lost, MustDown, Refuted, Revoked}
use Rattle.history_book.specs.declared.entries.Cause.{Cause}
use Rattle.home_types.specs.declared.commands.Answer.TheVariants.{Down, Fine, Found, Skipped}
use Rattle.home_types.specs.declared.commands.Answer.{Answer}
use Rattle.routine_reader.specs.declared.scripts.DeviceText.{DeviceText}
use Rattle.routine_reader.specs.declared.scripts.RoutineText.{RoutineText}
use Rattle.routine_reader.specs.declared.scripts.RunText.{RunText}
use Rattle.routine_reader.specs.declared.scripts.Script.{Script}
use Rattle.routine_reader.specs.declared.scripts.WindowText.{WindowText}
use Rattle.std.specs.Fmt.{decimal}
use Rattle.std.specs.Prelude.{List, None, Option, [], codes, option_and_then, option_map, slice_get, suc, unwrap_or, zero, ℕ, ◌+◌, ◌++◌}

-- the device of this number, from 0
abbrev pub device_at : Script → ℕ → Option DeviceText
device_at script d = slice_get script.devices.items d

-- the routine of this number, from 0
abbrev pub routine_at : Script → ℕ → Option RoutineText
routine_at script i = slice_get script.routines.items i

-- the run of this number, from 1
abbrev pub run_at : WindowText → ℕ → Option RunText
run_at window zero = None
run_at window (suc i) = slice_get window.runs.items i

-- the routine of a run
abbrev pub routine_of : Script → WindowText → ℕ → Option RoutineText
routine_of script window r =
    option_and_then (λ run. routine_at script run.routine) (run_at window r)

-- the device of a run's command; commands count from 0
unfoldable pub device_of : Script → WindowText → ℕ → ℕ → Option DeviceText
device_of script window r c =
    option_and_then (λ command. device_at script command.device.0)
    (option_and_then (λ routine. slice_get routine.routine.commands.items c)
    (routine_of script window r))

-- the names of that device's states
unfoldable pub states_of : Script → WindowText → ℕ → ℕ → List (List ℕ)
states_of script window r c =
    unwrap_or (option_map (λ device. device.states.items) (device_of script window r c)) []

-- the name of a device
unfoldable pub device_name : Script → ℕ → List ℕ
device_name script d = unwrap_or (option_map (λ device. device.name) (device_at script d)) []

-- the name of a routine
unfoldable pub routine_name : Script → ℕ → List ℕ
routine_name script i = unwrap_or (option_map (λ routine. routine.name) (routine_at script i)) []

-- a value of a device with these states: the name of the state, else the number
unfoldable pub value_text : List (List ℕ) → ℕ → List ℕ
value_text states v = unwrap_or (slice_get states v) (decimal v)

-- what a command was told
unfoldable pub answer_text : List (List ℕ) → Answer → List ℕ
answer_text states Fine = codes "."
answer_text states (Found x) = value_text states x
answer_text states Down = codes "-"
answer_text states Skipped = codes "/"

-- why the run was aborted; commands count from 1 in print
unfoldable pub cause_text : Script → WindowText → ℕ → Cause → List ℕ
cause_text script window r (MustDown c) = codes "must " ++ decimal (c + 1)
cause_text script window r (Refuted c x) =
    codes "refuted " ++ decimal (c + 1) ++ codes " found "
    ++ value_text (states_of script window r c) x
cause_text script window r (Lost d) = codes "lost " ++ device_name script d.0
cause_text script window r (Revoked lender d deadline moment) =
    codes "revoked " ++ device_name script d.0 ++ codes " by " ++ decimal lender.0
    ++ codes " deadline " ++ decimal deadline ++ codes " at " ++ decimal moment
cause_text script window r (DownAtEnd d) = codes "downatend " ++ device_name script d.0
