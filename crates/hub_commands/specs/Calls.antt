-- How a call ends: by what its words asked for, what was read, played and written.
use Rattle.command_words.specs.declared.command_lines.CommandLine.TheVariants.{Check as Checks, Keep, Replay, Run, Trial, Watch}
use Rattle.command_words.specs.declared.command_lines.CommandLine.{CommandLine}
use Rattle.command_words.specs.declared.command_lines.Options.{Options}
use Rattle.device_states.specs.Devices.{Shown}
use Rattle.home_types.specs.Listed.{Listed}
use Rattle.home_types.specs.Numbers.{DeviceId}
use Rattle.hub_commands.specs.Checks.{CheckEnds}
use Rattle.hub_commands.specs.Days.{Closing, boarded, plain}
use Rattle.hub_commands.specs.Finishes.{DayEnds, IsRead, IsUnread, NoScriptIsRead, NothingIsPlayed, Reads, WordsAreRefused, Writes}
use Rattle.hub_commands.specs.Trials.{TrialEnds}
use Rattle.hub_commands.specs.Ways.{WindowWay}
use Rattle.hub_commands.specs.declared.faults.Fault.TheVariants.{Memory}
use Rattle.hub_commands.specs.declared.faults.Fault.{Fault}
use Rattle.hub_commands.specs.declared.finishes.Day.{Day}
use Rattle.routine_reader.specs.declared.scripts.Script.{Script}
use Rattle.std.specs.Prelude.{None, Option, Some, slice_get, sum_by, ◌≡◌, ◌⊎◌}

-- the day of the script that was read is played
pub record DayIsPlayed {D : Type 0} (works : WindowWay) (shows : D → Shown) (closing : Closing)
    (options : Options) (source : Reads) (sink : Writes) (day : Option (Day D))
    (fault : Option Fault) : Type 0 where
  pub script : Script
  pub read : IsRead source script
  pub ends : DayEnds works shows closing script options sink day fault

-- how a call ends that is asked for a day with such a record
abbrev pub DayCallEnds : {D : Type 0} → WindowWay → (D → Shown) → Closing → Options → Reads → Writes
    → Option (Day D) → Option Fault → Type 0
DayCallEnds works shows closing options source sink day fault =
    (NoScriptIsRead source fault × NothingIsPlayed sink day)
    ⊎ DayIsPlayed works shows closing options source sink day fault

-- how a call ends that works windows in this way, by what its words ask for, if they are of a
-- command that it takes: a day is replayed, or run, or run and watched, a record is checked, a
-- trial is made; a day is kept by another call
abbrev pub CallEnds : {D : Type 0} → WindowWay → (D → Shown) → Option CommandLine → Reads → Writes
    → Option (Day D) → Option Fault → Type 0
CallEnds works shows None source sink day fault =
    WordsAreRefused source fault × NothingIsPlayed sink day
CallEnds works shows (Some (Replay options)) source sink day fault =
    DayCallEnds works shows plain options source sink day fault
CallEnds works shows (Some (Run options)) source sink day fault =
    DayCallEnds works shows plain options source sink day fault
CallEnds works shows (Some (Watch options)) source sink day fault =
    DayCallEnds works shows boarded options source sink day fault
CallEnds works shows (Some Checks) source sink day fault =
    (day ≡ None) × CheckEnds source sink fault
CallEnds works shows (Some (Trial number)) source sink day fault =
    IsUnread source × TrialEnds shows number sink day fault
CallEnds works shows (Some (Keep options)) source sink day fault =
    (fault ≡ Some Memory) × IsUnread source × NothingIsPlayed sink day

-- a whole day was handed back, and each of its devices was probed as often as the windows of the
-- script say together; the script is the one that was read, where the source tells its bytes. Where
-- it does not, the same follows of the script of CallEnds, from the probes of each window
pub record IsProbedInAll {D : Type 0} (shows : D → Shown) (source : Reads)
    (o : Option (Day D)) : Type 0 where
  pub script : Script
  pub read : IsRead source script
  pub day : Day D
  pub given : o ≡ Some day
  pub devices : Listed D
  pub there : day.devices ≡ Some devices
  pub probed : (d : DeviceId) (device : D) → slice_get devices.items d ≡ Some device
      → (shows device).probes ≡ sum_by (λ window. window.probes) script.windows.items
