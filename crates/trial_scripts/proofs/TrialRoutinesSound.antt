-- The routines of a trial are such as the format allows.
use Rattle.home_types.specs.declared.commands.Job.TheVariants.{Check, Load, Set, Store}
use Rattle.trial_scripts.proofs.Prelude.{All, AreDifferent, Bool, IsSoundCommand, IsSoundRoutine, List, PlainRoutine, Range, [], ap, arith, below, codes, common_steps, device_count, draw_command, draw_each, draw_job, draw_job_of, draw_routine, draw_routines, draw_valued, drawn, false, if◌then◌else◌, length, map, map-append, map-range_with_len_more, range_with_len, refl, routine_count, subst, suc, suits_device, sym, trial_devices, true, two_digit_text, zero, ℕ, ◌++◌, ◌+◌, ◌<◌, ◌==◌, ◌∙◌, ◌∷◌, ◌≡◌}
use Rattle.routine_reader.specs.Routines.{routine_names}
use Rattle.trial_scripts.proofs.DrawnEach.{all_made, below_bound, length_made}
use Rattle.trial_scripts.proofs.TrialDevicesSound.{devices_count, kind_of_device}
use Rattle.trial_scripts.proofs.TrialNames.{are_different, name_is}

value_fits : (state : ℕ) → suits_device (Range 0 999) (Set (below (drawn state) 1000)) ≡ true
value_fits state = let b = below_bound (drawn state) 1000 (omega arith) in grind (arith, common_steps)

-- a job that is drawn has a value from 0 to 999
job_suits : (number state : ℕ) → suits_device (Range 0 999) (draw_job_of number state).made ≡ true
job_suits number state = by_number (number == 0) (number == 1) (number == 2)
  where
    read : (two : Bool) → suits_device (Range 0 999) (if two then Load else Store) ≡ true
    read true = refl
    read false = refl

    by_number : (none one two : Bool)
        → suits_device (Range 0 999) (if none then draw_valued Set state else (if one then draw_valued Check state else (record { made = if two then Load else Store; state = state }))).made ≡ true
    by_number true one two = value_fits state
    by_number false true two = value_fits state
    by_number false false two = read two

command_is_sound : (state : ℕ) → IsSoundCommand trial_devices (draw_command state).made
unfolding draw_command draw_job
command_is_sound state =
    let device = below_bound (drawn state) device_count (omega arith) in
    record {
      device = subst (λ n. below (drawn state) device_count < n) (sym devices_count) device;
      value = ap (λ kind. suits_device kind (draw_job (drawn state)).made) (kind_of_device (below (drawn state) device_count) device) ∙ job_suits (below (drawn (drawn state)) 4) (drawn (drawn state));
      when = omega arith;
      ms = omega arith;
      takes = omega arith;
    }

routine_is_sound : (number state : ℕ) → number < 100 → IsSoundRoutine trial_devices (draw_routine number state).made
unfolding draw_routine
routine_is_sound number state less =
    let count = length_made (λ _. draw_command) 4 state in
    record {
      name = name_is 114 number refl less;
      some_commands = omega (arith, count);
      few_commands = omega (arith, count);
      commands = all_made (IsSoundCommand trial_devices) (λ _. draw_command) 4 state (λ k before _. command_is_sound before);
    }

pub routines_are_sound : (state : ℕ) → All (IsSoundRoutine trial_devices) (draw_routines state).made
unfolding draw_routines
routines_are_sound state = all_made (IsSoundRoutine trial_devices) draw_routine routine_count state (λ k before less. routine_is_sound k before (omega (arith, less)))

pub routines_count : (state : ℕ) → length (draw_routines state).made ≡ routine_count
unfolding draw_routines
routines_count state = length_made draw_routine routine_count state

names_made : (count state : ℕ) → routine_names (draw_each draw_routine count state).made ≡ map (λ k. codes "r" ++ two_digit_text k) (range_with_len 0 count)
unfolding draw_each draw_routine
names_made zero state = refl
names_made (suc count) state =
    let before = draw_each draw_routine count state in
    let f : ℕ → List ℕ = λ k. codes "r" ++ two_digit_text k in
    let name : PlainRoutine → List ℕ = λ routine. routine.name in
    let one : count + 1 ≡ suc count = omega arith in
    map-append name before.made ((draw_routine count before.state).made ∷ [])
    ∙ ap (λ names. names ++ f count ∷ []) (names_made count state)
    ∙ sym (map-range_with_len_more f 0 count count (omega arith))
    ∙ ap (λ m. map f (range_with_len 0 m)) one

pub names_of_routines : (state : ℕ) → AreDifferent (routine_names (draw_routines state).made)
unfolding draw_routines
names_of_routines state = subst AreDifferent (sym (names_made routine_count state)) (are_different 114 routine_count)
