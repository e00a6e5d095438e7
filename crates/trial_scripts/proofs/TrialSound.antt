-- The script of a trial is such as the format allows.
use Rattle.trial_scripts.proofs.Prelude.{All, IsSound, IsSoundWindow, arith, draw_routines, draw_windows, subst, sym, trial_script, ℕ, ◌≤◌}
use Rattle.trial_scripts.proofs.TrialDevicesSound.{devices_are_sound, devices_count, names_of_devices}
use Rattle.trial_scripts.proofs.TrialRoutinesSound.{names_of_routines, routines_are_sound, routines_count}
use Rattle.trial_scripts.proofs.TrialWindowsSound.{windows_are_sound, windows_count, windows_in_order}

pub trial_is_sound : (n : ℕ) → n ≤ 288 → IsSound (trial_script n)
unfolding trial_script
trial_is_sound n few =
    let routines = draw_routines n in
    let count = routines_count n in
    let windows = windows_count n routines.state in
    record {
      few_devices = omega (arith, devices_count);
      devices = devices_are_sound;
      device_names = names_of_devices;
      few_routines = omega (arith, count);
      routines = routines_are_sound n;
      routine_names = names_of_routines n;
      few_windows = omega (arith, windows, few);
      windows = subst (λ m. All (IsSoundWindow m) (draw_windows n routines.state).made) (sym count) (windows_are_sound n routines.state few);
      in_order = windows_in_order n routines.state;
    }
