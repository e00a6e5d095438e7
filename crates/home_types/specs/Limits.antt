-- The limits of a script, a window and an input.
use Rattle.std.specs.Prelude.{ℕ}

-- the devices of a home
abbrev pub most_devices : ℕ
most_devices = 256

-- the states of a device
abbrev pub most_states : ℕ
most_states = 256

-- the ranges of calls in which a simulated device is down
abbrev pub most_downs : ℕ
most_downs = 16

-- the routines of a script
abbrev pub most_routines : ℕ
most_routines = 1024

-- the commands of a routine
abbrev pub most_commands : ℕ
most_commands = 64

-- the windows of a script: one for each five minutes of a day
abbrev pub most_windows : ℕ
most_windows = 288

-- the runs of a window
abbrev pub most_runs : ℕ
most_runs = 64

-- the turns of a window
abbrev pub most_turns : ℕ
most_turns = 4096

-- the rounds of probes of a window
abbrev pub most_probes : ℕ
most_probes = 100

-- the estimate of a command, and what it takes in a replay: one hour in ms
abbrev pub most_ms : ℕ
most_ms = 3600000

-- the bytes of a script: 4 MiB
abbrev pub most_script_bytes : ℕ
most_script_bytes = 4194304

-- the bytes of an input with a record to check: 64 MiB
abbrev pub most_check_bytes : ℕ
most_check_bytes = 67108864
