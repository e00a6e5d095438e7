-- The script of a trial.
use Rattle.routine_reader.specs.Scripts.{PlainScript}
use Rattle.std.specs.Prelude.{ℕ}
use Rattle.trial_scripts.specs.TrialDevices.{trial_devices}
use Rattle.trial_scripts.specs.TrialRoutines.{draw_routines}
use Rattle.trial_scripts.specs.TrialWindows.{draw_windows}

-- the script of the trial of n windows: its routines are drawn from the state n, then its windows
unfoldable pub trial_script : ℕ → PlainScript
trial_script n =
    let routines = draw_routines n in
    record {
      devices = trial_devices;
      routines = routines.made;
      windows = (draw_windows n routines.state).made;
    }
