-- How a trial ends: by its fault, what was played and written.
use Rattle.day_clock.specs.Sinks.{AppendsPart}
use Rattle.day_report.specs.Days.{day_text}
use Rattle.day_report.specs.Trials.{trial_text}
use Rattle.device_states.specs.Devices.{Shown}
use Rattle.home_types.specs.Listed.{Listed}
use Rattle.home_types.specs.Numbers.{DeviceId}
use Rattle.home_types.specs.declared.modes.Mode.{Mode}
use Rattle.home_types.specs.declared.modes.Scheduler.TheVariants.{Fcfs}
use Rattle.home_types.specs.declared.modes.Visibility.TheVariants.{Eventual}
use Rattle.hub_commands.specs.Days.{DevicesAreProbed, WindowsArePlayed}
use Rattle.hub_commands.specs.Finishes.{IsUnwritten, Writes}
use Rattle.hub_commands.specs.LastLines.{LineIsWritten}
use Rattle.hub_commands.specs.Ways.{IsReplayOf}
use Rattle.hub_commands.specs.declared.faults.Fault.TheVariants.{Check, Cross, Damaged, Disk, Memory, Read, Script as Refuses, Words, Write}
use Rattle.hub_commands.specs.declared.faults.Fault.{Fault}
use Rattle.hub_commands.specs.declared.finishes.Day.{Day}
use Rattle.legal_days.specs.LegalDays.{IsLegalDay}
use Rattle.order_checker.specs.Records.{verdict_of}
use Rattle.order_checker.specs.declared.verdicts.Verdict.TheVariants.{Agrees, Differs}
use Rattle.order_checker.specs.declared.verdicts.Verdict.{Verdict}
use Rattle.routine_reader.specs.Scripts.{plain_script}
use Rattle.routine_reader.specs.declared.scripts.Script.{Script}
use Rattle.std.specs.Io.KnownBytes.{Appends}
use Rattle.std.specs.Prelude.{List, None, Option, Some, false, length, option_map, ℕ, ◌-◌, ◌<◌, ◌≡◌, ◌⊎◌}
use Rattle.trial_scripts.specs.TrialScripts.{trial_script}

-- the mode of a trial
abbrev pub trial_mode : Mode
trial_mode = record { model = Eventual; scheduler = Fcfs }

-- how many of so many windows agree, by what is found of the record
abbrev pub agreeing : Verdict → ℕ → ℕ
agreeing Agrees windows = windows
agreeing (Differs window place) windows = window - 1

-- what is found of the day's record, which is made and not written
abbrev pub finding : {D : Type 0} → Script → Day D → Verdict
finding script day = verdict_of script (day_text script day.windows.items trial_mode false)

-- the day that is handed back is the whole day of the trial's script, legal, each of its windows
-- the replay of its seed, and in each every run has ended; its record agrees
pub record IsTrialDay {D : Type 0} (shows : D → Shown) (n : ℕ) (day : Day D) : Type 0 where
  pub script : Script
  pub made : plain_script script ≡ trial_script n
  pub devices : Listed D
  pub there : day.devices ≡ Some devices
  pub legal : IsLegalDay shows script trial_mode day.windows.items devices.items
  pub takes : List (DeviceId → ℕ)
  pub played : WindowsArePlayed IsReplayOf script trial_mode day.windows.items takes
  pub probed : DevicesAreProbed shows takes devices.items
  pub agrees : finding script day ≡ Agrees

-- the line of the trial: the counts of its day, and how many of its windows agree by what is found
-- of its record
abbrev pub line_due : {D : Type 0} → ℕ → Script → Day D → List ℕ
line_due n script day =
    trial_text n day.windows.items (agreeing (finding script day) (length day.windows.items))

-- the day was played, and its line was written
pub record TrialIsWritten {D : Type 0} (shows : D → Shown) (n : ℕ) (sink : Writes)
    (o : Option (Day D)) : Type 0 where
  pub day : Day D
  pub given : o ≡ Some day
  pub trial : IsTrialDay shows n day
  pub text : Appends sink.held sink.holds (line_due n trial.script day)
  pub calm : sink.faults_after ≡ sink.faults

-- the day was played, and the sink failed: it got a first part of the line, and not all
pub record TrialIsCut {D : Type 0} (shows : D → Shown) (n : ℕ) (sink : Writes)
    (o : Option (Day D)) : Type 0 where
  pub day : Day D
  pub given : o ≡ Some day
  pub trial : IsTrialDay shows n day
  pub text : AppendsPart sink.held sink.holds (line_due n trial.script day)
  pub failed : sink.faults < sink.faults_after

-- memory was wanted when the script was made: its windows are legal up to there, and no device is
-- handed back
pub record TrialDayIsStarved {D : Type 0} (n : ℕ) (o : Option (Day D)) : Type 0 where
  pub script : Script
  pub made : plain_script script ≡ trial_script n
  pub day : Day D
  pub given : o ≡ Some day
  pub no_devices : day.devices ≡ None
  pub takes : List (DeviceId → ℕ)
  pub played : WindowsArePlayed IsReplayOf script trial_mode day.windows.items takes

-- memory was wanted before the script was made or behind it, and nothing was written
abbrev pub TrialIsStarved : {D : Type 0} → ℕ → Writes → Option (Day D) → Type 0
TrialIsStarved n sink day = IsUnwritten sink × ((day ≡ None) ⊎ TrialDayIsStarved n day)

-- how a trial ends
abbrev pub TrialEnds : {D : Type 0} → (D → Shown) → ℕ → Writes → Option (Day D)
    → Option Fault → Type 0
TrialEnds shows n sink day None = TrialIsWritten shows n sink day
TrialEnds shows n sink day (Some (Refuses fault)) = ⊥
TrialEnds shows n sink day (Some Words) = ⊥
TrialEnds shows n sink day (Some Read) = ⊥
TrialEnds shows n sink day (Some Write) = TrialIsCut shows n sink day
TrialEnds shows n sink day (Some Memory) = TrialIsStarved n sink day
TrialEnds shows n sink day (Some (Check window place name)) = ⊥
TrialEnds shows n sink day (Some (Cross window run follow)) = ⊥
TrialEnds shows n sink day (Some Disk) = ⊥
TrialEnds shows n sink day (Some (Damaged slot)) = ⊥

-- the trial ends for want of memory, with the windows of the day, if there is one
abbrev pub HasStarved : {D : Type 0} → Option (Day D) → Option (Day D) → Option Fault → Type 0
HasStarved day after fault =
    (fault ≡ Some Memory)
    × (after ≡ option_map (λ d. record { windows = d.windows; devices = None }) day)

-- the line of the trial was written, or a first part of it, or there was no memory for that
abbrev pub HasJudged : {D : Type 0} → ℕ → Script → Writes → Day D → Option (Day D)
    → Option Fault → Type 0
HasJudged n script sink day after fault =
    LineIsWritten (line_due n script day) sink (Some day) after fault
