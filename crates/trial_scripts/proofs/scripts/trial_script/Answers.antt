use Rattle.trial_scripts.proofs.Prelude.{IsSound, plain_script, rules, subst, sym, trial_script, ◌≡◌}
use Rattle.trial_scripts.proofs.TrialSound.{trial_is_sound}
use Rattle.trial_scripts.proofs.scripts.trial_script.Goals as goal

pub returns-clause-sound : goal.returns-clause-sound
unfolding trial_script
returns-clause-sound c =
    let exact : plain_script (record { devices = c.in_ok-devices.devices; routines = c.in_ok-routines.routines; windows = c.in_ok-windows.windows }) ≡ trial_script c.args.n = search rules in
    subst IsSound (sym exact) (trial_is_sound c.args.n c.requires.most)
