-- A window of a sound script may be opened in every mode.
use Rattle.hub_core.proofs.Prelude.{Command, HomeIsKept, HomeState, IfSome, IsTrue, Kind, List, MayOpen, None, Option, Run, RunNo, Shown, Some, [], and_from, ap, arith, commands_of, followed_by, get_or_from_slice_get, is_mode, kind_at, length, length-map, lt-ltb, map, names_values_of, nat_lt, option_and_then, option_map, refl, run_in_roster, runs_of, setting_for, slice_get, slice_get-map, slice_get_within, subst, suc, sym, true, unwrap_or, zero, ℕ, ◌<◌, ◌∙◌, ◌∷◌, ◌≡◌, ◌≤◌}
use Rattle.command_rules.specs.declared.rosters.Roster.{Roster}
use Rattle.home_types.specs.declared.commands.Job.TheVariants.{Check, Load, Set, Store}
use Rattle.home_types.specs.declared.commands.Job.{Job}
use Rattle.home_types.specs.declared.modes.Mode.{Mode}
use Rattle.routine_reader.proofs.Cited.{runs-there}
use Rattle.routine_reader.specs.Rosters.{kinds_of, routine_commands, run_of_text, script_runs}
use Rattle.routine_reader.specs.Scripts.{plain_device, plain_routine, plain_script, plain_window}
use Rattle.routine_reader.specs.Sound.{IsSound, IsSoundCommand, IsSoundRoutine, IsSoundRun, IsSoundWindow, device_kinds, suits_device}
use Rattle.routine_reader.specs.declared.scripts.DeviceText.{DeviceText}
use Rattle.routine_reader.specs.declared.scripts.RoutineText.{RoutineText}
use Rattle.routine_reader.specs.declared.scripts.RunText.{RunText}
use Rattle.routine_reader.specs.declared.scripts.Script.{Script}
use Rattle.routine_reader.specs.declared.scripts.WindowText.{WindowText}
use Rattle.std.proofs.lemmas.List.Elements.{All-get_or}
use Rattle.std.specs.Prelude.{All}

-- what holds of all items holds of the one at a place
at_place : {X : Type 0} (P : X → Type 0) (xs : List X) (k : ℕ) (x : X) → All P xs → slice_get xs k ≡ Some x → P x
at_place P xs k x all at = subst P (get_or_from_slice_get xs k x x at) (All-get_or P xs k x (slice_get_within xs k x at) all)

-- .. also where it is said of the items as they are seen
seen_at : {X Y : Type 0} (view : X → Y) (P : Y → Type 0) (xs : List X) (k : ℕ) (x : X) → All P (map view xs) → slice_get xs k ≡ Some x → P (view x)
seen_at view P xs k x all at = at_place P (map view xs) k (view x) all (slice_get-map view xs k ∙ ap (option_map view) at)

-- what holds of each item, as it is seen, holds of the seen one at a place
seen_there : {X Y : Type 0} (view : X → Y) (P : Y → Type 0) (xs : List X) (k : ℕ) (y : Y) → ((i : ℕ) (x : X) → slice_get xs i ≡ Some x → P (view x)) → slice_get (map view xs) k ≡ Some y → P y
seen_there view P [] k y each at = absurd (cc)
seen_there view P (x ∷ xs) zero y each at = subst P (let same : view x ≡ y = cc in same) (each 0 x refl)
seen_there view P (x ∷ xs) (suc k) y each at = seen_there view P xs k y (λ i z there. each (suc i) z there) at

-- few commands, each of them sound
record AreSound (script : Script) (commands : List Command) : Type 0 where
  few : length commands ≤ 64
  each : (k : ℕ) (c : Command) → slice_get commands k ≡ Some c → IsSoundCommand (map plain_device script.devices.items) c

none_is_sound : (script : Script) → AreSound script []
none_is_sound script = record { few = omega arith; each = λ k c at. absurd (cc) }

routine_is_sound : (script : Script) (i : ℕ) → IsSound (plain_script script) → AreSound script (routine_commands script i)
routine_is_sound script i sound = by_text (slice_get script.routines.items i) refl
  where
    by_text : (o : Option RoutineText) → slice_get script.routines.items i ≡ o → AreSound script (unwrap_or (option_map (λ t. t.routine.commands.items) o) [])
    by_text None at = none_is_sound script
    by_text (Some text) at =
        let routine = seen_at plain_routine (IsSoundRoutine (map plain_device script.devices.items)) script.routines.items i text sound.routines at in
        record { few = routine.few_commands; each = λ k c there. at_place (IsSoundCommand (map plain_device script.devices.items)) text.routine.commands.items k c routine.commands there }

-- the runs of the window

abbrev runs_in : Script → WindowText → List Run
runs_in script window = map (run_of_text script) window.runs.items

run_is_sound : (script : Script) (window : WindowText) (r : ℕ) → IsSound (plain_script script) → AreSound script (commands_of (runs_in script window) r)
run_is_sound script window r sound = by_run (run_in_roster (runs_in script window) r) (λ run at. there r run at)
  where
    there : (r : ℕ) (run : Run) → run_in_roster (runs_in script window) r ≡ Some run → AreSound script run.commands
    there zero run at = absurd (cc)
    there (suc i) run at = seen_there (run_of_text script) (λ run. AreSound script run.commands) window.runs.items i run (λ k text is. routine_is_sound script text.routine sound) at

    by_run : (o : Option Run) → ((run : Run) → o ≡ Some run → AreSound script run.commands) → AreSound script (unwrap_or (option_map (λ run. run.commands) o) [])
    by_run None each = none_is_sound script
    by_run (Some run) each = each run refl

-- a run follows an earlier one

follows_earlier : (script : Script) (window : WindowText) (r : ℕ) (f : RunNo) → ((k : ℕ) (text : RunText) → slice_get window.runs.items k ≡ Some text → IsSoundRun (length (map plain_routine script.routines.items)) k text) → followed_by (runs_in script window) r ≡ Some f → (1 ≤ f.0) × (f.0 < r)
follows_earlier script window zero f sound follows = absurd (cc)
follows_earlier script window (suc i) f sound follows = by_text (slice_get window.runs.items i) refl
  where
    its : option_and_then (λ (run : Run). run.follows) (option_map (run_of_text script) (slice_get window.runs.items i)) ≡ Some f
    its = ap (option_and_then (λ (run : Run). run.follows)) (sym (slice_get-map (run_of_text script) window.runs.items i)) ∙ follows

    by_text : (o : Option RunText) → slice_get window.runs.items i ≡ o → (1 ≤ f.0) × (f.0 < suc i)
    by_text None at = absurd (let none : ◌≡◌ {A = Option RunNo} None (Some f) = ap (λ o. option_and_then (λ (run : Run). run.follows) (option_map (run_of_text script) o)) (sym at) ∙ its in cc)
    by_text (Some text) at =
        let followed : text.follows ≡ Some f = ap (λ o. option_and_then (λ (run : Run). run.follows) (option_map (run_of_text script) o)) (sym at) ∙ its in
        let earlier = subst (λ o. IfSome o (λ (x : RunNo). (1 ≤ x.0) × (x.0 ≤ i))) followed (sound i text at).follows in
        (earlier.0, omega (arith, earlier.1))

-- the values of a sound command are values of its device

same_kinds : (devices : List DeviceText) → device_kinds (map plain_device devices) ≡ map (λ d. d.kind) devices
same_kinds [] = refl
same_kinds (d ∷ devices) = ap (λ ks. d.kind ∷ ks) (same_kinds devices)

names_as : (kind : Kind) (job : Job) → suits_device kind job ≡ true → names_values_of kind job ≡ true
names_as kind (Set v) is = is
names_as kind (Check v) is = is
names_as kind Load is = is
names_as kind Store is = is

-- a window of the script, its roster, and the home on which it is opened in this mode
pub record IsOpening {D : Type 0} (shows : D → Shown) (script : Script) (mode : Mode) (k : ℕ) (window : WindowText) (home : HomeState D) (roster : Roster) : Type 0 where
  pub sound : IsSound (plain_script script)
  pub goes : IsTrue (is_mode mode)
  pub at : slice_get script.windows.items k ≡ Some window
  pub runs : runs_of roster ≡ script_runs script k
  pub kept : HomeIsKept shows home
  pub kinds : home.kinds ≡ kinds_of script
  pub opened : home.opened ≤ 288

runs_are : (script : Script) (k : ℕ) (window : WindowText) (roster : Roster) → slice_get script.windows.items k ≡ Some window → runs_of roster ≡ script_runs script k → runs_in script window ≡ runs_of roster
runs_are script k window roster at runs = runs-there script k window at ∙ sym runs

pub may_open : {D : Type 0} (shows : D → Shown) (script : Script) (mode : Mode) (k : ℕ) (window : WindowText) (home : HomeState D) (roster : Roster)
    → IsOpening shows script mode k window home roster → MayOpen (setting_for home roster mode) window.probes home.opened
may_open shows script mode k window home roster is =
    subst (λ runs. MayOpen (record { runs = runs; mode = mode; kinds = home.kinds; first = home.world }) window.probes home.opened) (runs_are script k window roster is.at is.runs)
    (record {
      few_devices = is.kept.few;
      few_runs = let n = length-map window.runs.items (run_of_text script) in omega (arith, n, window_sound.few_runs);
      few_commands = λ r. (run_is_sound script window r is.sound).few;
      homed = λ r k c there. let command = (run_is_sound script window r is.sound).each k c there in
          and_from (nat_lt c.device.0 (length home.world)) _ (within c.device.0 command.device) (names_as (kind_at home.kinds c.device.0) c.job (ap (λ ks. suits_device (kind_at ks c.device.0) c.job) (is.kinds ∙ sym (same_kinds script.devices.items)) ∙ command.value));
      follows = λ r f there. let earlier = follows_earlier script window r f window_sound.runs there in and_from (nat_lt 0 f.0) (nat_lt f.0 r) (lt-ltb 0 f.0 earlier.0) (lt-ltb f.0 r earlier.1);
      mode = is.goes;
      few_rounds = window_sound.probes;
      few_windows = omega (arith, is.opened);
    })
  where
    window_sound : IsSoundWindow (length (map plain_routine script.routines.items)) (plain_window window)
    window_sound = seen_at plain_window (IsSoundWindow (length (map plain_routine script.routines.items))) script.windows.items k window is.sound.windows is.at

    within : (d : ℕ) → d < length (map plain_device script.devices.items) → nat_lt d (length home.world) ≡ true
    within d inside =
        let a = length-map script.devices.items plain_device in
        let b = ap (λ ks. length ks) is.kinds in
        let e = length-map script.devices.items (λ d. d.kind) in
        lt-ltb d (length home.world) (omega (arith, inside, a, b, e, is.kept.kinds))
