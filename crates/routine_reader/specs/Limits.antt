-- The limits of a script by what they count, and what a script need not say.
use Rattle.routine_reader.specs.declared.faults.Count.TheVariants.{Bytes, Commands, Devices, Downs, Ms, Probes, Routines, Runs, States, Turns, Windows}
use Rattle.routine_reader.specs.declared.faults.Count.{Count}
use Rattle.home_types.specs.Limits.{most_commands, most_devices, most_downs, most_ms, most_probes, most_routines, most_runs, most_script_bytes, most_states, most_turns, most_windows}
use Rattle.std.specs.Prelude.{ℕ}

-- the characters of a name
abbrev pub most_characters : ℕ
most_characters = 32

-- the estimate of a command that gives none, in ms
abbrev pub default_ms : ℕ
default_ms = 100

-- the seed of a window that gives none
abbrev pub default_seed : ℕ
default_seed = 1

-- the greatest whole numbers of 32 and of 64 bits
abbrev pub most_of_32_bits : ℕ
most_of_32_bits = 4294967295

abbrev pub most_of_64_bits : ℕ
most_of_64_bits = 18446744073709551615

-- the most that a script may have of each kind
abbrev pub limit_of : Count → ℕ
limit_of Bytes = most_script_bytes
limit_of Devices = most_devices
limit_of States = most_states
limit_of Downs = most_downs
limit_of Routines = most_routines
limit_of Commands = most_commands
limit_of Ms = most_ms
limit_of Windows = most_windows
limit_of Runs = most_runs
limit_of Turns = most_turns
limit_of Probes = most_probes
