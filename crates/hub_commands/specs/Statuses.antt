-- The status with which the program ends.
use Rattle.hub_commands.specs.declared.faults.Fault.TheVariants.{Check, Cross, Damaged, Disk, Memory, Read, Script, Words, Write}
use Rattle.hub_commands.specs.declared.faults.Fault.{Fault}
use Rattle.std.specs.Prelude.{None, Option, Some, ℕ}

abbrev pub fault_status : Fault → ℕ
fault_status (Script fault) = 1
fault_status Words = 2
fault_status Read = 3
fault_status Write = 4
fault_status Memory = 5
fault_status (Check window place name) = 7
fault_status (Cross window run follow) = 11
fault_status Disk = 9
fault_status (Damaged slot) = 10

-- 0 where there is no fault
abbrev pub status_for_fault : Option Fault → ℕ
status_for_fault None = 0
status_for_fault (Some fault) = fault_status fault
