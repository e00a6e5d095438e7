-- A run of a window of a sound script: its routine, its commands and their devices.
use Rattle.printed_records.proofs.Prelude.{All-get_or, Command, DeviceText, IsSound, IsSoundCommand, List, None, Option, RoutineText, Run, RunText, Script, Some, States, WindowText, [], ap, arith, commands_of, device_name, device_of, get_or, get_or_from_slice_get, kind_at, kinds_of, length, length-map, map, option_and_then, option_map, plain_device, plain_script, refl, routine_commands, routine_of, run_at, run_of_text, slice_get, slice_get-map, slice_get_within, states_of, subst, suc, unwrap_or, zero, ℕ, ◌<◌, ◌∙◌, ◌∷◌, ◌≡◌}
use Rattle.day_report.specs.Words as printed
use Rattle.order_checker.specs.Windows as checked
use Rattle.printed_records.proofs.Names.{sound-routine}

-- the run of this number, from 1, and its routine
pub record IsRunOf (script : Script) (window : WindowText) (r : ℕ) (run : RunText) (routine : RoutineText) : Type 0 where
  pub at : run_at window r ≡ Some run
  pub routine_is : slice_get script.routines.items run.routine ≡ Some routine

-- its commands
pub run-commands : (script : Script) (window : WindowText) (r : ℕ) (run : RunText) (routine : RoutineText) → IsRunOf script window r run routine
    → commands_of (map (run_of_text script) window.runs.items) r ≡ routine.routine.commands.items
run-commands script window zero run routine is = absurd (none-is run is.at)
  where
    none-is : (x : RunText) → ◌≡◌ {A = Option RunText} None (Some x) → ⊥
    none-is x same = absurd cc
run-commands script window (suc i) run routine is =
    let at : slice_get (map (run_of_text script) window.runs.items) i ≡ Some (run_of_text script run) =
    slice_get-map (run_of_text script) window.runs.items i ∙ ap (option_map (run_of_text script)) is.at in
    ap (λ o. unwrap_or (option_map (λ (x : Run). x.commands) o) []) at
    ∙ ap (λ o. unwrap_or (option_map (λ (t : RoutineText). t.routine.commands.items) o) []) is.routine_is

pub routine-commands : (script : Script) (window : WindowText) (r : ℕ) (run : RunText) (routine : RoutineText) → IsRunOf script window r run routine
    → routine_commands script run.routine ≡ routine.routine.commands.items
routine-commands script window r run routine is = ap (λ o. unwrap_or (option_map (λ (t : RoutineText). t.routine.commands.items) o) []) is.routine_is

-- the name of its routine
pub name-checked : (script : Script) (window : WindowText) (r : ℕ) (run : RunText) (routine : RoutineText) → IsRunOf script window r run routine
    → checked.named_routine script run.routine ≡ routine.name
name-checked script window r run routine is = ap (λ o. unwrap_or (option_map (λ (t : RoutineText). t.name) o) []) is.routine_is

pub name-printed : (script : Script) (window : WindowText) (r : ℕ) (run : RunText) (routine : RoutineText) → IsRunOf script window r run routine
    → printed.routine_name script run.routine ≡ routine.name
unfolding printed.routine_name
name-printed script window r run routine is = ap (λ o. unwrap_or (option_map (λ (t : RoutineText). t.name) o) []) is.routine_is

-- a device of the script
pub device-there : (script : Script) (d : ℕ) → d < length script.devices.items → (device : DeviceText) × (slice_get script.devices.items d ≡ Some device)
device-there script d within = there script.devices.items d within
  where
    there : (devices : List DeviceText) (k : ℕ) → k < length devices → (device : DeviceText) × (slice_get devices k ≡ Some device)
    there [] k within = absurd (omega arith)
    there (device ∷ devices) zero within = (device, refl)
    there (device ∷ devices) (suc k) within = there devices k (omega arith)

pub device-name : (script : Script) (d : ℕ) (device : DeviceText) → slice_get script.devices.items d ≡ Some device → device_name script d ≡ device.name
unfolding device_name
device-name script d device at = ap (λ o. unwrap_or (option_map (λ (x : DeviceText). x.name) o) []) at

pub device-kind : (script : Script) (d : ℕ) (device : DeviceText) → slice_get script.devices.items d ≡ Some device → kind_at (kinds_of script) d ≡ device.kind
device-kind script d device at =
    get_or_from_slice_get (kinds_of script) d device.kind (States 0) (slice_get-map (λ (x : DeviceText). x.kind) script.devices.items d ∙ ap (option_map (λ (x : DeviceText). x.kind)) at)

-- a command of the routine, and its device
pub record IsCommandOf (script : Script) (routine : RoutineText) (c : ℕ) (command : Command) (device : DeviceText) : Type 0 where
  pub at : slice_get routine.routine.commands.items c ≡ Some command
  pub device_is : slice_get script.devices.items command.device.0 ≡ Some device

pub command-of : (script : Script) (routine : RoutineText) (i c : ℕ) (command : Command) → IsSound (plain_script script)
    → slice_get script.routines.items i ≡ Some routine → slice_get routine.routine.commands.items c ≡ Some command
    → (device : DeviceText) × IsCommandOf script routine c command device
command-of script routine i c command sound is at =
    let commands = routine.routine.commands.items in
    let well : IsSoundCommand (map plain_device script.devices.items) (get_or commands c command) =
    All-get_or (IsSoundCommand (map plain_device script.devices.items)) commands c command (slice_get_within commands c command at) (sound-routine script i routine sound is).commands in
    let same : get_or commands c command ≡ command = get_or_from_slice_get commands c command command at in
    let own : IsSoundCommand (map plain_device script.devices.items) command = subst (IsSoundCommand (map plain_device script.devices.items)) same well in
    let within : command.device.0 < length script.devices.items = omega (arith, own.device, length-map script.devices.items plain_device) in
    let there = device-there script command.device.0 within in
    (there.0, record { at = at; device_is = there.1 })

-- the states by which its answers are written
pub states-at : (script : Script) (window : WindowText) (r : ℕ) (run : RunText) (routine : RoutineText) (c : ℕ) (command : Command) (device : DeviceText)
    → IsRunOf script window r run routine → IsCommandOf script routine c command device → states_of script window r c ≡ device.states.items
unfolding states_of device_of
states-at script window r run routine c command device is own =
    let of : routine_of script window r ≡ Some routine =
    ap (option_and_then (λ (x : RunText). slice_get script.routines.items x.routine)) is.at ∙ is.routine_is in
    ap (λ o. unwrap_or (option_map (λ (x : DeviceText). x.states.items)
    (option_and_then (λ (k : Command). slice_get script.devices.items k.device.0) (option_and_then (λ (t : RoutineText). slice_get t.routine.commands.items c) o))) []) of
    ∙ ap (λ o. unwrap_or (option_map (λ (x : DeviceText). x.states.items) (option_and_then (λ (k : Command). slice_get script.devices.items k.device.0) o)) []) own.at
    ∙ ap (λ o. unwrap_or (option_map (λ (x : DeviceText). x.states.items) o) []) own.device_is
