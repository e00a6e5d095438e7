-- The texts of faults, and of places in a record.
use Rattle.hub_commands.specs.declared.faults.Fault.TheVariants.{Check, Cross, Damaged, Disk, Memory, Read, Script, Words, Write}
use Rattle.hub_commands.specs.declared.faults.Fault.{Fault}
use Rattle.order_checker.specs.declared.verdicts.Place.TheVariants.{Answer, Device, Head, Home, Order, Run, Total, Window}
use Rattle.order_checker.specs.declared.verdicts.Place.{Place}
use Rattle.routine_reader.specs.Spots.{refusal_text}
use Rattle.std.specs.Fmt.{decimal}
use Rattle.std.specs.Prelude.{List, codes, if◌then◌else◌, ℕ, ◌+◌, ◌++◌}

-- a command counts from 1; a device is told by its number
abbrev pub place_text : Place → List ℕ
place_text Head = codes "head"
place_text Window = codes "window"
place_text (Run run) = codes "run " ++ decimal run.0
place_text (Order item) = codes "order " ++ decimal item
place_text (Answer run command) =
    codes "answer " ++ decimal run.0 ++ codes "." ++ decimal (command + 1)
place_text Home = codes "home"
place_text (Device device) = codes "device " ++ decimal device.0
place_text Total = codes "total"

-- the place, with a device by its name
abbrev pub named_place : Place → List ℕ → List ℕ
named_place Head name = place_text Head
named_place Window name = place_text Window
named_place (Run run) name = place_text (Run run)
named_place (Order item) name = place_text (Order item)
named_place (Answer run command) name = place_text (Answer run command)
named_place Home name = place_text Home
named_place (Device device) name = codes "device " ++ name
named_place Total name = place_text Total

-- the text of a fault
abbrev pub fault_text : Fault → List ℕ
fault_text (Script fault) = codes "script: " ++ refusal_text fault
fault_text Words = codes "words"
fault_text Read = codes "read"
fault_text Write = codes "write"
fault_text Memory = codes "memory"
fault_text (Check window place name) =
    codes "check: window " ++ decimal window ++ codes " " ++ named_place place name
fault_text (Cross window run follow) =
    codes "cross " ++ (if follow then codes "follow" else codes "room") ++ codes " "
    ++ decimal window ++ codes "." ++ decimal run.0
fault_text Disk = codes "disk"
fault_text (Damaged slot) = codes "damaged " ++ decimal slot
