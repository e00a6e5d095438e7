-- How a call ends that writes one line behind a day.
use Rattle.day_clock.specs.Sinks.{AppendsPart}
use Rattle.hub_commands.specs.Finishes.{IsUnwritten, Writes}
use Rattle.hub_commands.specs.declared.faults.Fault.TheVariants.{Check, Cross, Damaged, Disk, Memory, Read, Script as Refuses, Words, Write}
use Rattle.hub_commands.specs.declared.faults.Fault.{Fault}
use Rattle.hub_commands.specs.declared.finishes.Day.{Day}
use Rattle.std.specs.Io.KnownBytes.{Appends}
use Rattle.std.specs.Prelude.{List, None, Option, Some, option_map, ℕ, ◌<◌, ◌≡◌}

-- the line was written, or a first part of it where the sink failed, or there was no memory for it,
-- and the devices are dropped
abbrev pub LineIsWritten : {D : Type 0} → List ℕ → Writes → Option (Day D) → Option (Day D)
    → Option Fault → Type 0
LineIsWritten line sink day after None =
    (after ≡ day) × Appends sink.held sink.holds line × (sink.faults_after ≡ sink.faults)
LineIsWritten line sink day after (Some (Refuses fault)) = ⊥
LineIsWritten line sink day after (Some Words) = ⊥
LineIsWritten line sink day after (Some Read) = ⊥
LineIsWritten line sink day after (Some Write) =
    (after ≡ day) × AppendsPart sink.held sink.holds line × (sink.faults < sink.faults_after)
LineIsWritten line sink day after (Some Memory) =
    (after ≡ option_map (λ d. record { windows = d.windows; devices = None }) day)
    × IsUnwritten sink
LineIsWritten line sink day after (Some (Check window place name)) = ⊥
LineIsWritten line sink day after (Some (Cross window run follow)) = ⊥
LineIsWritten line sink day after (Some Disk) = ⊥
LineIsWritten line sink day after (Some (Damaged slot)) = ⊥

-- the line comes behind a day that ended without a fault; any other stays as it ended
abbrev pub LineEnds : {D : Type 0} → List ℕ → Writes → Option (Day D) → Option Fault
    → Option (Day D) → Option Fault → Type 0
LineEnds line sink day None after fault = LineIsWritten line sink day after fault
LineEnds line sink day (Some why) after fault =
    (after ≡ day) × (fault ≡ Some why) × IsUnwritten sink
