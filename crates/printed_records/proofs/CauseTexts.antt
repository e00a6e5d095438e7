-- The cause of an aborted run, read again.
use Rattle.printed_records.proofs.Prelude.{Cause, Command, DeviceText, DownAtEnd, IsCauseFor, IsSound, List, Lost, MustDown, Refuted, Revoked, RoutineText, RunText, Script, Some, WindowText, [], ap, append_assoc, arith, bytes_eq, cause_text, codes, command_named, command_numbered, commands_of, common_steps, decimal, device_name, false, get_or, get_or_from_slice_get, has_value, is_cause, is_run_among, is_some, is_value_of, kind_at, kinds_of, length, length-map, list_any_at, map, nat_le, no_command, option_and_then, option_map_or, plain_script, refl, run_of_text, slice_get, slice_get-get_or, slice_get_within, states_of, subst, suc, sym, true, value_of, value_text, ℕ, ◌&&◌, ◌++◌, ◌+◌, ◌<◌, ◌^◌, ◌∙◌, ◌∷◌, ◌≡◌, ◌≤◌}
use Rattle.order_checker.specs.Values.{is_device}
use Rattle.printed_records.proofs.Firsts.{bytes_eq-self}
use Rattle.printed_records.proofs.LineTexts.{spaced}
use Rattle.printed_records.proofs.Names.{name-word, sound-device, sound-routine}
use Rattle.printed_records.proofs.Numerals.{decimal-word, number-decimal}
use Rattle.printed_records.proofs.Plain.{AreWords, IsWord, word-plain, word-seen}
use Rattle.printed_records.proofs.Runs.{IsRunOf, command-of, device-kind, device-name, device-there, run-commands, states-at}
use Rattle.printed_records.proofs.Values.{value-read, value-text}

-- the words of a cause
abbrev pub cause_words : Script → WindowText → ℕ → Cause → List (List ℕ)
cause_words script window r (MustDown c) = codes "must" ∷ decimal (c + 1) ∷ []
cause_words script window r (Refuted c x) = codes "refuted" ∷ decimal (c + 1) ∷ codes "found" ∷ value_text (states_of script window r c) x ∷ []
cause_words script window r (Lost d) = codes "lost" ∷ device_name script d.0 ∷ []
cause_words script window r (Revoked lender d deadline moment) =
    codes "revoked" ∷ device_name script d.0 ∷ codes "by" ∷ decimal lender.0 ∷ codes "deadline" ∷ decimal deadline ∷ codes "at" ∷ decimal moment ∷ []
cause_words script window r (DownAtEnd d) = codes "downatend" ∷ device_name script d.0 ∷ []

-- they are printed with a space between each two
pub cause-spaced : (script : Script) (window : WindowText) (r : ℕ) (cause : Cause) (tail : List ℕ)
    → 32 ∷ (cause_text script window r cause ++ tail) ≡ spaced (cause_words script window r cause) tail
unfolding cause_text
cause-spaced script window r (MustDown c) tail = simp append_assoc
cause-spaced script window r (Refuted c x) tail = simp append_assoc
cause-spaced script window r (Lost d) tail = simp append_assoc
cause-spaced script window r (Revoked lender d deadline moment) tail = simp append_assoc
cause-spaced script window r (DownAtEnd d) tail = simp append_assoc

-- the name of a device is the name of one
device-is : (devices : List DeviceText) (d : ℕ) (device : DeviceText) → slice_get devices d ≡ Some device → is_device devices device.name ≡ true
device-is devices d device at =
    list_any_at (λ (x : DeviceText). bytes_eq device.name x.name) devices d device (slice_get_within devices d device at)
    (ap (λ (x : DeviceText). bytes_eq device.name x.name) (get_or_from_slice_get devices d device device at) ∙ bytes_eq-self device.name)

-- the words are words, and have the form of a cause
pub record IsCausePrinted (script : Script) (window : WindowText) (runs : ℕ) (commands : List Command) (told : List (List ℕ)) : Type 0 where
  pub words : AreWords told
  pub is : is_cause script.devices.items runs commands told ≡ true

module _ (script : Script) (window : WindowText) (r : ℕ) (run : RunText) (routine : RoutineText) (sound : IsSound (plain_script script)) (is : IsRunOf script window r run routine) where
  commands : List Command
  commands = routine.routine.commands.items

  few : (c : ℕ) → c < length routine.routine.commands.items → c + 1 < 2 ^ 64
  few c within = omega (arith, (sound-routine script run.routine routine sound is.routine_is).few_commands)

  -- the number of a command names it
  named : (c : ℕ) → c < length routine.routine.commands.items
      → command_named routine.routine.commands.items (decimal (c + 1)) ≡ Some (get_or routine.routine.commands.items c no_command)
  named c within =
      let next : c + 1 ≡ suc c = omega arith in
      ap (option_and_then (command_numbered routine.routine.commands.items)) (number-decimal (c + 1) (few c within))
      ∙ ap (command_numbered routine.routine.commands.items) next
      ∙ slice_get-get_or routine.routine.commands.items c no_command within

  within-run : (c : ℕ) → c < length (commands_of (map (run_of_text script) window.runs.items) r) → c < length routine.routine.commands.items
  within-run c within = subst (λ cs. c < length cs) (run-commands script window r run routine is) within

  -- the name of a device names it
  device-word : (d : ℕ) → d < length (kinds_of script) → IsWord (device_name script d) × (is_device script.devices.items (device_name script d) ≡ true)
  device-word d within =
      let there = device-there script d (omega (arith, within, length-map script.devices.items (λ (x : DeviceText). x.kind))) in
      let device = there.0 in
      let name : device_name script d ≡ device.name = device-name script d device there.1 in
      subst (λ n. IsWord n × (is_device script.devices.items n ≡ true)) (sym name)
      (name-word device.name (sound-device script d device sound there.1).name, device-is script.devices.items d device there.1)

  refuted-value : (c x : ℕ) → c < length routine.routine.commands.items
      → has_value (kind_at (kinds_of script) (get_or routine.routine.commands.items c no_command).device.0) x ≡ true
      → IsWord (value_text (states_of script window r c) x)
      × (is_value_of script.devices.items (Some (get_or routine.routine.commands.items c no_command)) (value_text (states_of script window r c) x) ≡ true)
  refuted-value c x within has =
      let command = get_or routine.routine.commands.items c no_command in
      let at = slice_get-get_or routine.routine.commands.items c no_command within in
      let own = command-of script routine run.routine c command sound is.routine_is at in
      let device = own.0 in
      let states = states-at script window r run routine c command device is own.1 in
      let well = sound-device script command.device.0 device sound own.1.device_is in
      let has_it : has_value device.kind x ≡ true = subst (λ k. has_value k x ≡ true) (device-kind script command.device.0 device own.1.device_is) has in
      subst (λ ss. IsWord (value_text ss x) × (is_value_of script.devices.items (Some command) (value_text ss x) ≡ true)) (sym states) (
        word-plain (value_text device.states.items x) (value-text device x well has_it).plain,
        ap (λ o. is_some (option_and_then (λ d. value_of d (value_text device.states.items x)) o)) own.1.device_is ∙ ap is_some (value-read device x well has_it),
      )

  run-among : (runs lender : ℕ) → 1 ≤ lender → lender ≤ runs → lender < 2 ^ 64 → is_run_among runs (decimal lender) ≡ true
  run-among runs lender low high small =
      ap (λ o. option_map_or (λ q. nat_le 1 q && nat_le q runs) o false) (number-decimal lender small) ∙ grind (arith, common_steps)

  -- the cause of a run is one that its line may have
  pub cause-printed : (cause : Cause) → length window.runs.items < 2 ^ 64 → IsCauseFor (kinds_of script) (map (run_of_text script) window.runs.items) r cause
      → IsCausePrinted script window (length window.runs.items) routine.routine.commands.items (cause_words script window r cause)
  cause-printed (MustDown c) few_runs own =
      let within = within-run c own in
      record {
        words = (word-seen (codes "must") refl refl, (decimal-word (c + 1) (few c within), tt));
        is = ap is_some (named c within);
      }
  cause-printed (Refuted c x) few_runs own =
      let within = within-run c own.0 in
      let has = subst (λ cs. has_value (kind_at (kinds_of script) (get_or cs c no_command).device.0) x ≡ true) (run-commands script window r run routine is) own.1 in
      let value = refuted-value c x within has in
      record {
        words = (word-seen (codes "refuted") refl refl, (decimal-word (c + 1) (few c within), (word-seen (codes "found") refl refl, (value.0, tt))));
        is = ap (λ o. is_value_of script.devices.items o (value_text (states_of script window r c) x)) (named c within) ∙ value.1;
      }
  cause-printed (Lost d) few_runs own =
      let device = device-word d.0 own in
      record {
        words = (word-seen (codes "lost") refl refl, (device.0, tt));
        is = device.1;
      }
  cause-printed (Revoked lender d deadline moment) few_runs own =
      let device = device-word d.0 own.2 in
      let lends : is_run_among (length window.runs.items) (decimal lender.0) ≡ true =
      run-among (length window.runs.items) lender.0 own.0 (omega (arith, own.1, length-map window.runs.items (run_of_text script))) (omega (arith, own.1, length-map window.runs.items (run_of_text script))) in
      record {
        words = (
          word-seen (codes "revoked") refl refl,
          (
            device.0,
            (
              word-seen (codes "by") refl refl,
              (
                decimal-word lender.0 (omega (arith, own.1, length-map window.runs.items (run_of_text script))),
                (word-seen (codes "deadline") refl refl, (decimal-word deadline own.3, (word-seen (codes "at") refl refl, (decimal-word moment own.4, tt)))),
              ),
            ),
          ),
        );
        is = (λ i. device.1 i && lends i && (is_some (number-decimal deadline own.3 i) && is_some (number-decimal moment own.4 i)));
      }
  cause-printed (DownAtEnd d) few_runs own =
      let device = device-word d.0 own in
      record {
        words = (word-seen (codes "downatend") refl refl, (device.0, tt));
        is = device.1;
      }
