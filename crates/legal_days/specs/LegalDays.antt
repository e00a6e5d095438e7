-- Legal days: the records of a script's windows, and the devices that are left.
use Rattle.device_states.specs.Devices.{Shown}
use Rattle.history_book.specs.Settings.{Setting}
use Rattle.history_book.specs.declared.records.WindowRecord.{WindowRecord}
use Rattle.home_types.specs.Numbers.{DeviceId}
use Rattle.home_types.specs.declared.modes.Mode.{Mode}
use Rattle.home_types.specs.declared.worlds.Stand.{Stand}
use Rattle.legal_days.specs.Agreement.{UpDevicesStand}
use Rattle.legal_days.specs.LegalWindows.{IsLegalWindow}
use Rattle.routine_reader.specs.Rosters.{kinds_of, script_runs, start_home}
use Rattle.routine_reader.specs.declared.scripts.DeviceText.{DeviceText}
use Rattle.routine_reader.specs.declared.scripts.Script.{Script}
use Rattle.std.specs.Prelude.{Bool, List, Some, [], drop, false, length, option_map, slice_get, slice_index_or, suc, sum_by, true, unwrap_or, zero, ℕ, ◌+◌, ◌≡◌, ◌≤◌}

-- where a day begins: so many windows of the script went before it, the home is in this state, and
-- of each device that is told so one call has worked, or one has failed
pub record Beginning : Type 0 where
  pub script : Script
  pub before : ℕ
  pub first : List Stand
  pub called : DeviceId → Bool
  pub failed : DeviceId → Bool

-- a script's day begins with every device up at its start, and none of them called
abbrev pub new_day : Script → Beginning
new_day script = record {
  script = script;
  before = 0;
  first = start_home script;
  called = λ d. false;
  failed = λ d. false;
}

-- the script with the windows behind the first so many
abbrev pub windows_behind : ℕ → Script → Script
windows_behind k script = record {
  devices = script.devices;
  routines = script.routines;
  windows = record { items = drop k script.windows.items; spare = script.windows.spare };
}

-- the script with the windows that are to come
abbrev pub to_come : Beginning → Script
to_come begins = windows_behind begins.before begins.script

-- the state of the home after so many windows
abbrev pub state_from : Beginning → List WindowRecord → ℕ → List Stand
state_from begins records zero = begins.first
state_from begins records (suc k) =
    unwrap_or (option_map (λ closed. closed.last.devices.items) (slice_get records k)) []

-- what is fixed in the window of this number of those to come: it begins where the one before has
-- ended, the first one where the day begins
abbrev pub setting_from : Beginning → Mode → List WindowRecord → ℕ → Setting
setting_from begins mode records k = record {
  runs = script_runs (to_come begins) k;
  mode = mode;
  kinds = kinds_of begins.script;
  first = state_from begins records k;
}

-- each record is that of the window of its number of those to come, and legal
abbrev pub AreLegalFrom : Beginning → Mode → List WindowRecord → Type 0
AreLegalFrom begins mode records =
    (k : ℕ) (closed : WindowRecord) → slice_get records k ≡ Some closed
    → IsLegalWindow (setting_from begins mode records k) closed

-- the sum over the windows
abbrev pub total : (WindowRecord → List ℕ) → List WindowRecord → DeviceId → ℕ
total rises records d = sum_by (λ closed. slice_index_or (rises closed) d 0) records

-- one more, where it is so
abbrev pub one_more_where : Bool → ℕ → ℕ
one_more_where false n = n
one_more_where true n = n + 1

-- the device is the script's: it tells its number, and, where it tells a plan, the ranges in which
-- the script has it down
pub record IsDeviceOf {D : Type 0} (shows : D → Shown) (text : DeviceText) (d : DeviceId)
    (device : D) : Type 0 where
  pub tag_is : (shows device).tag ≡ d
  pub plan_is : (p : List (ℕ × ℕ)) → (shows device).plan ≡ Some p → p ≡ text.downs.items

-- the devices after these windows, in script order
pub record AreLeftFrom {D : Type 0} (shows : D → Shown) (begins : Beginning)
    (records : List WindowRecord) (devices : List D) : Type 0 where
  pub size : length devices ≡ length begins.script.devices.items
  pub own : (d : DeviceId) (device : D) (text : DeviceText) → slice_get devices d ≡ Some device
      → slice_get begins.script.devices.items d ≡ Some text → IsDeviceOf shows text d device
  pub stand : UpDevicesStand shows devices (state_from begins records (length records))
  pub turns_are : (d : DeviceId) (device : D) → slice_get devices d ≡ Some device
      → (shows device).turns
      ≡ one_more_where (begins.called d) (total (λ closed. closed.turns.items) records d)
  pub faults_are : (d : DeviceId) (device : D) → slice_get devices d ≡ Some device
      → (shows device).faults
      ≡ one_more_where (begins.failed d) (total (λ closed. closed.faults.items) records d)

-- a day that begins so and was cut short: the first of the windows to come
pub record IsLegalCutDayFrom {D : Type 0} (shows : D → Shown) (begins : Beginning) (mode : Mode)
    (records : List WindowRecord) (devices : List D) : Type 0 where
  pub count : length records ≤ length (to_come begins).windows.items
  pub legal : AreLegalFrom begins mode records
  pub left : AreLeftFrom shows begins records devices

-- a whole day that begins so: one record for each window to come
pub record IsLegalDayFrom {D : Type 0} (shows : D → Shown) (begins : Beginning) (mode : Mode)
    (records : List WindowRecord) (devices : List D) : Type 0 where
  pub count : length records ≡ length (to_come begins).windows.items
  pub legal : AreLegalFrom begins mode records
  pub left : AreLeftFrom shows begins records devices

-- The day of a script, from its start

-- the state of the home after so many windows
abbrev pub state_after : Script → List WindowRecord → ℕ → List Stand
state_after script records k = state_from (new_day script) records k

-- what is fixed in the window of this number: the first one begins with every device up at its
-- start
abbrev pub setting_of : Script → Mode → List WindowRecord → ℕ → Setting
setting_of script mode records k = setting_from (new_day script) mode records k

-- each record is that of the script's window of its number, and legal
abbrev pub RecordsAreLegal : Script → Mode → List WindowRecord → Type 0
RecordsAreLegal script mode records = AreLegalFrom (new_day script) mode records

-- the devices after these windows, in script order
abbrev pub DevicesAreLeft : {D : Type 0} → (D → Shown) → Script → List WindowRecord
    → List D → Type 0
DevicesAreLeft shows script records devices = AreLeftFrom shows (new_day script) records devices

-- a day that was cut short: the script's first windows
abbrev pub IsLegalCutDay : {D : Type 0} → (D → Shown) → Script → Mode → List WindowRecord
    → List D → Type 0
IsLegalCutDay shows script mode records devices =
    IsLegalCutDayFrom shows (new_day script) mode records devices

-- a whole day: one record for each window of the script
abbrev pub IsLegalDay : {D : Type 0} → (D → Shown) → Script → Mode → List WindowRecord
    → List D → Type 0
IsLegalDay shows script mode records devices =
    IsLegalDayFrom shows (new_day script) mode records devices
