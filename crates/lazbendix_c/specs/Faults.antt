-- How a C program is told why a script is refused.
use Rattle.lazbendix_c.specs.declared.told_faults.ToldFault.{ToldFault}
use Rattle.routine_reader.specs.declared.faults.Count.TheVariants.{Bytes, Commands, Devices, Downs, Ms, Probes, Routines, Runs, States, Turns, Windows}
use Rattle.routine_reader.specs.declared.faults.Count.{Count}
use Rattle.routine_reader.specs.declared.faults.Part.TheVariants.{Command, Device, Down, Routine, Run, Top, Turn, Window}
use Rattle.routine_reader.specs.declared.faults.Part.{Part}
use Rattle.routine_reader.specs.declared.faults.ReadFault.TheVariants.{BadFollow, BadName, BadState, BadTime, BadTurn, BadVersion, DoubleName, NoMemory, NotJson, Shape, TooMany, UnknownName}
use Rattle.routine_reader.specs.declared.faults.ReadFault.{ReadFault}
use Rattle.routine_reader.specs.declared.faults.Spot.{Spot}
use Rattle.std.specs.Prelude.{ℕ}

abbrev pub part_of : Part → ℕ
part_of Top = 1
part_of Device = 2
part_of Down = 3
part_of Routine = 4
part_of Command = 5
part_of Window = 6
part_of Turn = 7
part_of Run = 8

abbrev pub count_of : Count → ℕ
count_of Bytes = 1
count_of Devices = 2
count_of States = 3
count_of Downs = 4
count_of Routines = 5
count_of Commands = 6
count_of Ms = 7
count_of Windows = 8
count_of Runs = 9
count_of Turns = 10
count_of Probes = 11

abbrev pub no_fault : ToldFault
no_fault =
    record { count = 0; limit = 0; kind = 0; counted = 0; part = 0; outer = 0; inner = 0; zero = 0 }

-- a fault of this kind at this place
abbrev pub at_spot : ℕ → Spot → ToldFault
at_spot kind spot =
    record no_fault {
      kind = kind;
      part = part_of spot.part;
      outer = spot.outer;
      inner = spot.inner;
    }

abbrev pub fault_of : ReadFault → ToldFault
fault_of NoMemory = record no_fault { kind = 1 }
fault_of NotJson = record no_fault { kind = 2 }
fault_of (Shape spot) = at_spot 3 spot
fault_of (UnknownName spot) = at_spot 4 spot
fault_of (DoubleName spot) = at_spot 5 spot
fault_of (BadName spot) = at_spot 6 spot
fault_of (BadState spot) = at_spot 7 spot
fault_of (BadTime spot) = at_spot 8 spot
fault_of (TooMany kind count limit) =
    record no_fault { kind = 9; counted = count_of kind; count = count; limit = limit }
fault_of (BadFollow spot) = at_spot 10 spot
fault_of (BadVersion version) = record no_fault { kind = 11; count = version }
fault_of (BadTurn spot) = at_spot 12 spot
