-- The routines of a trial, as they are drawn.
use Rattle.home_types.specs.declared.commands.Command.{Command}
use Rattle.home_types.specs.declared.commands.Guard.TheVariants.{Always}
use Rattle.home_types.specs.declared.commands.Job.TheVariants.{Check, Load, Set, Store}
use Rattle.home_types.specs.declared.commands.Job.{Job}
use Rattle.routine_reader.specs.Scripts.{PlainRoutine}
use Rattle.seeded_draws.specs.Draws.{below, drawn}
use Rattle.std.specs.Prelude.{Bool, List, codes, false, if◌then◌else◌, true, ℕ, ◌++◌, ◌==◌}
use Rattle.trial_scripts.specs.Drawings.{Drawing, draw_each, two_digit_text}
use Rattle.trial_scripts.specs.TrialDevices.{device_count}

-- how many there are
abbrev pub routine_count : ℕ
routine_count = 64

-- a job with a value below 1000
abbrev pub draw_valued : (ℕ → Job) → ℕ → Drawing Job
draw_valued job state = record { made = job (below (drawn state) 1000); state = drawn state }

-- the job of this number, below 4; a set and a check draw their value
abbrev pub draw_job_of : ℕ → ℕ → Drawing Job
draw_job_of number state =
    if number == 0 then draw_valued Set state
    else (if number == 1 then draw_valued Check state
    else record { made = if number == 2 then Load else Store; state = state })

-- its number is drawn first
unfoldable pub draw_job : ℕ → Drawing Job
draw_job state = draw_job_of (below (drawn state) 4) (drawn state)

-- a check is best effort
abbrev pub is_must : Job → Bool
is_must (Set v) = true
is_must (Check v) = false
is_must Load = true
is_must Store = true

-- a command that takes 100 ms, as is estimated
abbrev pub trial_command : ℕ → Job → Command
trial_command device job = record {
  device = record { 0 = device };
  job = job;
  when = Always;
  must = is_must job;
  ms = 100;
  takes = 100;
}

-- the device is drawn, then the job
unfoldable pub draw_command : ℕ → Drawing Command
draw_command state =
    let job = draw_job (drawn state) in
    record { made = trial_command (below (drawn state) device_count) job.made; state = job.state }

-- the routine with this number: four commands
unfoldable pub draw_routine : ℕ → ℕ → Drawing PlainRoutine
draw_routine number state =
    let commands = draw_each (λ _. draw_command) 4 state in
    record {
      made = record { name = codes "r" ++ two_digit_text number; commands = commands.made };
      state = commands.state;
    }

unfoldable pub draw_routines : ℕ → Drawing (List PlainRoutine)
draw_routines state = draw_each draw_routine routine_count state
