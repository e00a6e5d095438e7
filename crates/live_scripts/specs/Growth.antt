-- A script that grows by a window, or by a run of its last window.
use Rattle.day_clock.specs.Times.{is_before}
use Rattle.day_clock.specs.declared.times.When.{When}
use Rattle.home_types.specs.Limits.{most_probes, most_runs, most_windows}
use Rattle.home_types.specs.declared.numbers.RunNo.{RunNo}
use Rattle.live_scripts.specs.Reasons.{IsRefusedFor}
use Rattle.live_scripts.specs.declared.refusals.NotAdded.TheVariants.{NoMemory as NoRoom, NoRoutine, NoWindow, NotBefore, TooManyRuns}
use Rattle.live_scripts.specs.declared.refusals.NotAdded.{NotAdded}
use Rattle.live_scripts.specs.declared.refusals.NotBegun.TheVariants.{NoMemory, NotLater, TooManyProbes}
use Rattle.live_scripts.specs.declared.refusals.NotBegun.{NotBegun}
use Rattle.routine_reader.specs.declared.scripts.RunText.{RunText}
use Rattle.routine_reader.specs.declared.scripts.Script.{Script}
use Rattle.routine_reader.specs.declared.scripts.WindowText.{WindowText}
use Rattle.std.specs.Prelude.{Bool, IfSome, List, None, Option, Some, [], if◌then◌else◌, length, nat_le, nat_lt, slice_get, true, ℕ, ◌&&◌, ◌++◌, ◌+◌, ◌-◌, ◌<◌, ◌∷◌, ◌≡◌}

-- what a script has of a window that is begun: its time, its rounds of probes, and neither turns
-- nor runs, but room for all runs that it may have
pub record IsNewWindow (at : When) (probes : ℕ) (window : WindowText) : Type 0 where
  pub time : window.at ≡ at
  pub seed : window.seed ≡ 1
  pub rounds : window.probes ≡ probes
  pub turns : window.turns.items ≡ []
  pub runs : window.runs.items ≡ []
  pub room : window.runs.spare ≡ most_runs

-- the windows before the one that is begun: those of the day so far, none where the day is full
abbrev pub windows_before : List WindowText → List WindowText
windows_before windows = if nat_lt (length windows) most_windows then windows else []

-- whether a time is later than that of the window before, where there is one
abbrev pub is_later_after : Option WindowText → When → Bool
is_later_after None at = true
is_later_after (Some window) at = is_before window.at at

abbrev pub is_later_than_last : Script → When → Bool
is_later_than_last script at =
    is_later_after (slice_get script.windows.items (length script.windows.items - 1)) at

-- the script has one window more, the one with this number, and nothing else is changed but that a
-- full day was dropped
pub record HasBegun (before : Script) (at : When) (probes k : ℕ) (after : Script) : Type 0 where
  pub window : WindowText
  pub new : IsNewWindow at probes window
  pub later : is_later_than_last before at ≡ true
  pub number : k ≡ length (windows_before before.windows.items)
  pub windows : after.windows.items ≡ windows_before before.windows.items ++ window ∷ []
  pub devices : after.devices ≡ before.devices
  pub routines : after.routines ≡ before.routines

-- the first reason against a window at this time with so many rounds of probes
abbrev pub first_against_window : Script → When → ℕ → Option NotBegun
first_against_window script at probes =
    if is_later_than_last script at
    then (if nat_lt most_probes probes then Some TooManyProbes else None)
    else Some NotLater

-- why no window is begun
abbrev pub CannotBegin : Script → When → ℕ → NotBegun → Type 0
CannotBegin script at probes why =
    IsRefusedFor NoMemory (first_against_window script at probes) why

-- whether a run behind so many others may follow this one
abbrev pub is_earlier : Option RunNo → ℕ → Bool
is_earlier None earlier = true
is_earlier (Some run) earlier = nat_le 1 run.0 && nat_le run.0 earlier

-- the run of a window that is of this routine, and follows the other
abbrev pub new_run : ℕ → Option RunNo → RunText
new_run routine follows = record { routine = routine; follows = follows }

-- the last window has one run more, the one with this number
pub record HasRun (before : Script) (routine : ℕ) (follows : Option RunNo) (r : ℕ)
    (after : Script) : Type 0 where
  pub earlier : List WindowText
  pub was : WindowText
  pub is : WindowText
  pub last_was : before.windows.items ≡ earlier ++ was ∷ []
  pub last_is : after.windows.items ≡ earlier ++ is ∷ []
  pub rest : is ≡ record was { runs = is.runs }
  pub runs : is.runs.items ≡ was.runs.items ++ new_run routine follows ∷ []
  pub number : r ≡ length was.runs.items + 1
  pub devices : after.devices ≡ before.devices
  pub routines : after.routines ≡ before.routines

-- the first reason against a run of this window that follows the other
abbrev pub first_in_window : WindowText → Option RunNo → Option NotAdded
first_in_window window follows =
    if nat_le most_runs (length window.runs.items) then Some TooManyRuns
    else (if is_earlier follows (length window.runs.items) then None else Some NotBefore)

abbrev pub first_in_last : Option WindowText → Option RunNo → Option NotAdded
first_in_last None follows = Some NoWindow
first_in_last (Some window) follows = first_in_window window follows

-- .. of the script
abbrev pub first_against_run : Script → ℕ → Option RunNo → Option NotAdded
first_against_run script routine follows =
    if nat_le (length script.routines.items) routine then Some NoRoutine
    else first_in_last (slice_get script.windows.items (length script.windows.items - 1)) follows

-- why no run is added to the script
abbrev pub CannotAdd : Script → ℕ → Option RunNo → NotAdded → Type 0
CannotAdd script routine follows why =
    IsRefusedFor NoRoom (first_against_run script routine follows) why

-- the last window has room for one run more
abbrev pub HasRoomForRun : Script → Type 0
HasRoomForRun script =
    IfSome (slice_get script.windows.items (length script.windows.items - 1))
    (λ window. 0 < window.runs.spare)
