-- The texts of places, counts and refusals.
use Rattle.routine_reader.specs.declared.faults.Count.TheVariants.{Bytes, Commands, Devices, Downs, Ms, Probes, Routines, Runs, States, Turns, Windows}
use Rattle.routine_reader.specs.declared.faults.Count.{Count}
use Rattle.routine_reader.specs.declared.faults.Part.TheVariants.{Command, Device, Down, Routine, Run, Top, Turn, Window}
use Rattle.routine_reader.specs.declared.faults.Part.{Part}
use Rattle.routine_reader.specs.declared.faults.ReadFault.TheVariants.{BadFollow, BadName, BadState, BadTime, BadTurn, BadVersion, DoubleName, NoMemory, NotJson, Shape, TooMany, UnknownName}
use Rattle.routine_reader.specs.declared.faults.ReadFault.{ReadFault}
use Rattle.routine_reader.specs.declared.faults.Spot.{Spot}
use Rattle.std.specs.Fmt.{decimal}
use Rattle.std.specs.Prelude.{Bool, List, codes, false, true, ℕ, ◌++◌}

abbrev pub part_text : Part → List ℕ
part_text Top = codes "top"
part_text Device = codes "device"
part_text Down = codes "down"
part_text Routine = codes "routine"
part_text Command = codes "command"
part_text Window = codes "window"
part_text Turn = codes "turn"
part_text Run = codes "run"

abbrev pub one_number : Part → ℕ → List ℕ
one_number part outer = part_text part ++ codes " " ++ decimal outer

abbrev pub two_numbers : Part → ℕ → ℕ → List ℕ
two_numbers part outer inner = one_number part outer ++ codes "." ++ decimal inner

-- `top`, a part with its number, or a part with its two numbers
abbrev pub numbered : Part → ℕ → ℕ → List ℕ
numbered Top outer inner = part_text Top
numbered Device outer inner = one_number Device outer
numbered Routine outer inner = one_number Routine outer
numbered Window outer inner = one_number Window outer
numbered Down outer inner = two_numbers Down outer inner
numbered Command outer inner = two_numbers Command outer inner
numbered Turn outer inner = two_numbers Turn outer inner
numbered Run outer inner = two_numbers Run outer inner

abbrev pub spot_text : Spot → List ℕ
spot_text spot = numbered spot.part spot.outer spot.inner

abbrev pub count_text : Count → List ℕ
count_text Bytes = codes "bytes"
count_text Devices = codes "devices"
count_text States = codes "states"
count_text Downs = codes "downs"
count_text Routines = codes "routines"
count_text Commands = codes "commands"
count_text Ms = codes "ms"
count_text Windows = codes "windows"
count_text Runs = codes "runs"
count_text Turns = codes "turns"
count_text Probes = codes "probes"

-- why a script is refused, as it is printed
abbrev pub refusal_text : ReadFault → List ℕ
refusal_text NoMemory = codes "memory"
refusal_text NotJson = codes "not json"
refusal_text (Shape spot) = codes "shape " ++ spot_text spot
refusal_text (UnknownName spot) = codes "unknown name " ++ spot_text spot
refusal_text (DoubleName spot) = codes "double name " ++ spot_text spot
refusal_text (BadName spot) = codes "bad name " ++ spot_text spot
refusal_text (BadState spot) = codes "bad state " ++ spot_text spot
refusal_text (BadTime spot) = codes "bad time " ++ spot_text spot
refusal_text (TooMany kind count limit) =
    codes "too many " ++ count_text kind ++ codes " " ++ decimal count ++ codes " of "
    ++ decimal limit
refusal_text (BadFollow spot) = codes "bad follow " ++ spot_text spot
refusal_text (BadVersion version) = codes "bad version " ++ decimal version
refusal_text (BadTurn spot) = codes "bad turn " ++ spot_text spot

-- want of memory, which may come at any point
abbrev pub is_memory : ReadFault → Bool
is_memory NoMemory = true
is_memory fault = false

abbrev pub top : Spot
top = record { part = Top; outer = 0; inner = 0 }

-- a part with its number, and one with the number of the part that it stands in and its own
abbrev pub at : Part → ℕ → Spot
at part outer = record { part = part; outer = outer; inner = 0 }

abbrev pub inside : Part → ℕ → ℕ → Spot
inside part outer inner = record { part = part; outer = outer; inner = inner }
