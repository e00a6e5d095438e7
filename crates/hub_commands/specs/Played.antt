-- What working a window leaves.
use Rattle.device_gate.specs.Places.{AreNumbered}
use Rattle.device_states.specs.Devices.{Shown}
use Rattle.history_book.specs.Settings.{Setting}
use Rattle.history_book.specs.declared.records.WindowRecord.{WindowRecord}
use Rattle.hub_core.specs.HubCalls.{IsOpened}
use Rattle.home_types.specs.declared.modes.Mode.{Mode}
use Rattle.hub_core.specs.Homes.{HomeIsKept, HomeState}
use Rattle.hub_core.specs.OpenHubs.{OpenHub, configuration_of}
use Rattle.hub_core.specs.Steps.{opened}
use Rattle.hub_core.specs.WindowWays.{WindowIsWorked}
use Rattle.hub_commands.specs.Days.{DayCourse, IsUnderWayOn}
use Rattle.hub_commands.specs.Ways.{WindowWay}
use Rattle.hub_commands.specs.declared.plays.UntoldDay.{UntoldDay}
use Rattle.routine_reader.specs.Rosters.{script_runs}
use Rattle.routine_reader.specs.declared.scripts.Script.{Script}
use Rattle.routine_reader.specs.declared.scripts.WindowText.{WindowText}
use Rattle.std.specs.Prelude.{List, Ok, Result, Some, slice_get, ℕ, [], ◌++◌, ◌∷◌, ◌≡◌}

-- the setting of the script's window of this number, on the home as it is
abbrev pub setting_on : {D : Type 0} → Script → Mode → ℕ → HomeState D → Setting
setting_on script mode k home =
    record { runs = script_runs script k; mode = mode; kinds = home.kinds; first = home.world }

-- the script's window of this number, which has this text, was opened on the home, and nothing was
-- done in it yet
pub record NextIsOpened {D : Type 0} (shows : D → Shown) (script : Script) (mode : Mode) (k : ℕ)
    (home : HomeState D) (hub : OpenHub D) (window : WindowText) : Type 0 where
  pub fresh : configuration_of hub ≡ opened hub.setting hub.rounds
  pub rounds : hub.rounds ≡ window.probes
  pub at : slice_get script.windows.items k ≡ Some window
  pub opened : IsOpened shows (setting_on script mode k home) window.probes home hub
  pub numbered : AreNumbered shows home.devices

-- the hub's window was worked in this way, by this text of it
abbrev pub IsWorkedAs : {D : Type 0} → WindowWay → (D → Shown) → OpenHub D → WindowText
    → HomeState D → WindowRecord → Type 0
IsWorkedAs works shows s window home closed =
    WindowIsWorked (λ w. works w window) shows s home closed

-- the window behind these was worked, and its record is the last one now
pub record IsClosed {D M : Type 0} (shows : D → Shown) (before : List WindowRecord)
    (worked : Result (HomeState D × WindowRecord) M) (next : UntoldDay D) : Type 0 where
  pub is : worked ≡ Ok (next.home, next.closed)
  pub kept : HomeIsKept shows next.home
  pub more : next.windows.items ≡ before ++ next.closed ∷ []

-- the day has gone on by one window
pub record HasGoneOn {D : Type 0} (works : WindowWay) (shows : D → Shown) (course : DayCourse)
    (mode : Mode) (before : List WindowRecord) (home : HomeState D)
    (records : List WindowRecord) : Type 0 where
  pub closed : WindowRecord
  pub more : records ≡ before ++ closed ∷ []
  pub under_way : IsUnderWayOn works shows course mode home records
