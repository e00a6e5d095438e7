-- How the writing of a chunk of the record ends, and the day on which one was not written.
use Rattle.day_clock.specs.Sinks.{AppendsPart}
use Rattle.history_book.specs.declared.records.WindowRecord.{WindowRecord}
use Rattle.home_types.specs.Listed.{Listed}
use Rattle.hub_commands.specs.Finishes.{IsUnwritten, Writes}
use Rattle.hub_commands.specs.declared.chunks.ChunkFault.TheVariants.{Memory, Sink}
use Rattle.hub_commands.specs.declared.chunks.ChunkFault.{ChunkFault}
use Rattle.hub_commands.specs.declared.faults.Fault.TheVariants.{Memory as WantsMemory, Write}
use Rattle.hub_commands.specs.declared.faults.Fault.{Fault}
use Rattle.hub_commands.specs.declared.finishes.Day.{Day}
use Rattle.std.specs.Io.KnownBytes.{Appends}
use Rattle.std.specs.Prelude.{Err, List, None, Ok, Option, Result, Some, ℕ, ◌<◌, ◌≡◌}

-- the sink got the chunk; or it failed, and got a first part; or there was no memory for the chunk,
-- and it holds what it held
abbrev pub ChunkEnds : {M : Type 0} → Writes → Result (List ℕ) M → Result Unit ChunkFault → Type 0
ChunkEnds sink chunk (Ok done) =
    (bytes : List ℕ) × (chunk ≡ Ok bytes) × Appends sink.held sink.holds bytes
    × (sink.faults_after ≡ sink.faults)
ChunkEnds sink chunk (Err Sink) =
    (bytes : List ℕ) × (chunk ≡ Ok bytes) × AppendsPart sink.held sink.holds bytes
    × (sink.faults < sink.faults_after)
ChunkEnds sink chunk (Err Memory) = IsUnwritten sink

-- the day ends with these windows: with its devices where the sink failed, and without them where
-- memory was wanted
abbrev pub StopEnds : {D : Type 0} → Listed WindowRecord → List D → ChunkFault → Option (Day D)
    → Option Fault → Type 0
StopEnds {D} windows items Sink day fault =
    (devices : Listed D) × (devices.items ≡ items)
    × (day ≡ Some (record { windows = windows; devices = Some devices })) × (fault ≡ Some Write)
StopEnds {D} windows items Memory day fault =
    (day ≡ Some (record { windows = windows; devices = None })) × (fault ≡ Some WantsMemory)
