-- Which windows a day hands back that ended early.
use Rattle.hub_commands.proofs.Prelude.{ChunkFault, Day, Fault, HandsBack, List, Listed, None, Option, Some, WindowRecord, ap, windows_of, ◌∙◌, ◌≡◌}
use Rattle.hub_commands.specs.Chunks.{StopEnds}
use Rattle.hub_commands.specs.declared.chunks.ChunkFault.TheVariants.{Memory, Sink}

-- where a chunk was not written they are those that were closed
pub stop_back : {D : Type 0} (windows : Listed WindowRecord) (items : List D) (fault : ChunkFault) (day : Option (Day D)) (why : Option Fault) (records : List WindowRecord)
    → StopEnds windows items fault day why → windows.items ≡ records → HandsBack day records
stop_back windows items Sink day why records stop same = (record { windows = windows; devices = Some stop.0 }, stop.2, same)
stop_back windows items Memory day why records stop same = (record { windows = windows; devices = None }, stop.0, same)

-- these are its windows
pub back_windows : {D : Type 0} (day : Option (Day D)) (records : List WindowRecord) → HandsBack day records → windows_of day ≡ records
back_windows day records back = ap windows_of back.1 ∙ back.2
