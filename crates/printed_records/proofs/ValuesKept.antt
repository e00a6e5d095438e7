-- The serial execution leaves each device at a value of its kind.
use Rattle.printed_records.proofs.Prelude.{All-get_or, Back, Bool, Check, Command, DeviceText, Execution, Failed, Guard, HaveValues, IsSound, IsSoundCommand, IsSoundDevice, IsSoundKind, IsSoundWindow, Item, Job, Kind, List, Load, None, Option, Ran, Range, Run, RunText, Script, SerialRun, Set, Skipped, Some, Stand, States, Store, WindowText, [], ap, arith, at_place, command_effect, commands_of, common_steps, device_kinds, done_effect, execute, false, fold, get_or, get_or_from_slice_get, has_value, holds, if◌then◌else◌, kind_at, kinds_of, length, length-map, map, nearest, option_map, plain_device, plain_routine, plain_script, plain_window, refl, run_of_text, serve, slice_get, slice_get-map, slice_get_within, slice_set, stand_at, start_home, start_stand, subst, suc, suits_device, sym, true, unwrap_or, with_up, zero, ℕ, ◌<◌, ◌∙◌, ◌∷◌, ◌≡◌}
use Rattle.printed_records.proofs.Names.{sound-device, sound-routine}
use Rattle.printed_records.proofs.Runs.{IsRunOf, device-kind, device-there, run-commands}

-- each value that is brought into the kind is one of it
abbrev pub Fills : Kind → Type 0
Fills kind = (v : ℕ) → has_value kind (nearest kind v) ≡ true

sound-fills : (kind : Kind) (states : List (List ℕ)) → IsSoundKind kind states → Fills kind
sound-fills (States n) states sound v = let some : 0 < n = omega (arith, sound.0, sound.1) in grind (arith, common_steps)
sound-fills (Range low high) states sound v = let ordered = sound.1 in grind (arith, common_steps)

-- what a command leaves is a value of the kind
done-value : (kind : Kind) (job : Job) (register value : ℕ) (up : Bool) → Fills kind → suits_device kind job ≡ true → has_value kind value ≡ true
    → has_value kind (done_effect kind job register (record { value = value; up = up })).stand.value ≡ true
done-value kind job register value false fills suit has = has
done-value kind (Set v) register value true fills suit has = suit
done-value kind (Check v) register value true fills suit has = has
done-value kind Load register value true fills suit has = has
done-value kind Store register value true fills suit has = fills register

effect-value : (kind : Kind) (guard : Guard) (job : Job) (register : ℕ) (stand : Stand) → Fills kind → suits_device kind job ≡ true → has_value kind stand.value ≡ true
    → has_value kind (command_effect kind guard job register stand).stand.value ≡ true
effect-value kind guard job register stand fills suit has =
    either (holds guard register) (done-value kind job register stand.value stand.up fills suit has)
  where
    either : (b : Bool) → has_value kind (done_effect kind job register stand).stand.value ≡ true
        → has_value kind (if b then done_effect kind job register stand else record { answer = Skipped; register = register; stand = stand }).stand.value ≡ true
    either true done = done
    either false done = has

-- each kind is filled
abbrev pub AreFilled : List Kind → Type 0
AreFilled kinds = (d : ℕ) → d < length kinds → Fills (kind_at kinds d)

pub values-length : (kinds : List Kind) (home : List Stand) → HaveValues kinds home → length home ≡ length kinds
values-length [] [] values = refl
values-length [] (stand ∷ home) values = absurd values
values-length (kind ∷ kinds) [] values = absurd values
values-length (kind ∷ kinds) (stand ∷ home) values = omega (arith, values-length kinds home values.1)

value-at : (kinds : List Kind) (home : List Stand) (d : ℕ) → HaveValues kinds home → d < length home → has_value (kind_at kinds d) (stand_at home d).value ≡ true
value-at [] [] d values within = absurd (omega arith)
value-at [] (stand ∷ home) d values within = absurd values
value-at (kind ∷ kinds) [] d values within = absurd values
value-at (kind ∷ kinds) (stand ∷ home) zero values within = values.0
value-at (kind ∷ kinds) (stand ∷ home) (suc d) values within = value-at kinds home d values.1 (omega arith)

set-values : (kinds : List Kind) (home : List Stand) (d : ℕ) (s : Stand) → HaveValues kinds home → (d < length home → has_value (kind_at kinds d) s.value ≡ true) → HaveValues kinds (slice_set home d s)
set-values [] [] d s values is = values
set-values [] (stand ∷ home) d s values is = absurd values
set-values (kind ∷ kinds) [] d s values is = absurd values
set-values (kind ∷ kinds) (stand ∷ home) zero s values is = (is (omega arith), values.1)
set-values (kind ∷ kinds) (stand ∷ home) (suc d) s values is = (values.0, set-values kinds home d s values.1 (λ within. is (omega arith)))

up-values : (kinds : List Kind) (home : List Stand) (d : ℕ) (up : Bool) → HaveValues kinds home → HaveValues kinds (with_up home d up)
up-values kinds home d up values = set-values kinds home d (record { value = (stand_at home d).value; up = up }) values (value-at kinds home d values)

module _ (kinds : List Kind) (filled : AreFilled kinds) where
  execute-values : (x : Execution) (c : Command) → suits_device (kind_at kinds c.device.0) c.job ≡ true → HaveValues kinds x.home → HaveValues kinds (execute kinds x c).home
  execute-values x c suit values =
      let d = c.device.0 in
      let stand = stand_at x.home d in
      set-values kinds x.home d (command_effect (kind_at kinds d) c.when c.job x.register stand).stand values
      (λ within. effect-value (kind_at kinds d) c.when c.job x.register stand (filled d (omega (arith, within, values-length kinds x.home values))) suit (value-at kinds x.home d values within))

  commands-values : (x : Execution) (commands : List Command) → ((k : ℕ) (c : Command) → slice_get commands k ≡ Some c → suits_device (kind_at kinds c.device.0) c.job ≡ true)
      → HaveValues kinds x.home → HaveValues kinds (fold (execute kinds) x commands).home
  commands-values x [] suit values = values
  commands-values x (c ∷ commands) suit values =
      commands-values (execute kinds x c) commands (λ k other at. suit (suc k) other at) (execute-values x c (suit 0 c refl) values)

  serve-values : (runs : List Run) (s : SerialRun) (item : Item) → ((r k : ℕ) (c : Command) → slice_get (commands_of runs r) k ≡ Some c → suits_device (kind_at kinds c.device.0) c.job ≡ true)
      → HaveValues kinds s.home → HaveValues kinds (serve runs kinds s item).home
  serve-values runs s (Ran r) suit values = commands-values _ (commands_of runs r.0) (λ k c at. suit r.0 k c at) values
  serve-values runs s (Failed d k) suit values = up-values kinds s.home d.0 false values
  serve-values runs s (Back d k) suit values = up-values kinds s.home d.0 true values

  -- the items leave values of their kinds
  pub items-values : (runs : List Run) (s : SerialRun) (items : List Item) → ((r k : ℕ) (c : Command) → slice_get (commands_of runs r) k ≡ Some c → suits_device (kind_at kinds c.device.0) c.job ≡ true)
      → HaveValues kinds s.home → HaveValues kinds (fold (serve runs kinds) s items).home
  items-values runs s [] suit values = values
  items-values runs s (item ∷ items) suit values = items-values runs (serve runs kinds s item) items suit (serve-values runs s item suit values)

-- ---- of a sound script

-- its kinds are filled
pub script-filled : (script : Script) → IsSound (plain_script script) → AreFilled (kinds_of script)
script-filled script sound d within =
    let there = device-there script d (omega (arith, within, length-map script.devices.items (λ (x : DeviceText). x.kind))) in
    subst Fills (sym (device-kind script d there.0 there.1)) (sound-fills there.0.kind there.0.states.items (sound-device script d there.0 sound there.1).kind)

starts-from : (devices : List DeviceText) → ((d : ℕ) (device : DeviceText) → slice_get devices d ≡ Some device → IsSoundDevice (plain_device device))
    → HaveValues (map (λ (x : DeviceText). x.kind) devices) (map start_stand devices)
starts-from [] sound = tt
starts-from (device ∷ devices) sound = ((sound 0 device refl).start, starts-from devices (λ d other at. sound (suc d) other at))

-- each device starts at a value of its kind
pub start-values : (script : Script) → IsSound (plain_script script) → HaveValues (kinds_of script) (start_home script)
start-values script sound = starts-from script.devices.items (λ d device at. sound-device script d device sound at)

plain-kinds : (devices : List DeviceText) → device_kinds (map plain_device devices) ≡ map (λ (x : DeviceText). x.kind) devices
plain-kinds [] = refl
plain-kinds (device ∷ devices) = ap (λ ks. device.kind ∷ ks) (plain-kinds devices)

none-some : {X : Type 0} (x : X) → ◌≡◌ {A = Option X} None (Some x) → ⊥
none-some x same = absurd cc

-- each command of a run of a window suits its device
pub window-suits : (script : Script) (window : WindowText) → IsSound (plain_script script) → IsSoundWindow (length (map plain_routine script.routines.items)) (plain_window window)
    → (r k : ℕ) (c : Command) → slice_get (commands_of (map (run_of_text script) window.runs.items) r) k ≡ Some c → suits_device (kind_at (kinds_of script) c.device.0) c.job ≡ true
window-suits script window sound well zero k c at = absurd (none-some c at)
window-suits script window sound well (suc i) k c at = by (slice_get window.runs.items i) refl
  where
    by : (o : Option RunText) → slice_get window.runs.items i ≡ o → suits_device (kind_at (kinds_of script) c.device.0) c.job ≡ true
    by None there =
        let nothing : commands_of (map (run_of_text script) window.runs.items) (suc i) ≡ [] =
        ap (λ o. unwrap_or (option_map (λ (x : Run). x.commands) o) []) (slice_get-map (run_of_text script) window.runs.items i ∙ ap (option_map (run_of_text script)) there) in
        absurd (none-some c (ap (λ cs. slice_get cs k) (sym nothing) ∙ at))
    by (Some run) there =
        let routine = at_place script.routines.items run.routine (omega (arith, (well.runs i run there).routine, length-map script.routines.items plain_routine)) in
        let is : IsRunOf script window (suc i) run routine.0 = record { at = there; routine_is = routine.1 } in
        let commands = routine.0.routine.commands.items in
        let here : slice_get commands k ≡ Some c = ap (λ cs. slice_get cs k) (sym (run-commands script window (suc i) run routine.0 is)) ∙ at in
        let own : IsSoundCommand (map plain_device script.devices.items) (get_or commands k c) =
        All-get_or (IsSoundCommand (map plain_device script.devices.items)) commands k c (slice_get_within commands k c here) (sound-routine script run.routine routine.0 sound routine.1).commands in
        let of_c : IsSoundCommand (map plain_device script.devices.items) c = subst (IsSoundCommand (map plain_device script.devices.items)) (get_or_from_slice_get commands k c c here) own in
        subst (λ ks. suits_device (kind_at ks c.device.0) c.job ≡ true) (plain-kinds script.devices.items) of_c.value
