-- For what a device is out, and what it brings home.
use Rattle.hub_core.proofs.Prelude.{Bool, Command, Commands, Configuration, Died, Done, Entry, FitsOut, Gripped, HubIsKept, IsKept, IsRead, IsTrue, Kind, List, None, OpenHub, Option, Out, Probes, Purpose, Reading, Sensed, Setting, Shown, Slip, Some, Task, Told, Undoes, Worked, ap, arith, below_home, command_at, command_task, commands_of, common_steps, configuration_of, driven, entries_of, eqb-true, false, give_entries, grip_in, has_value, has_written, held_after, held_in, if◌then◌else◌, is_counted_up, is_device, is_doomed, is_live, is_none, is_of_run, is_run, kind_at, length, may_tell, names_values_of, nat_lt, next_of, not, progress_at, read_facts, read_of, reads, refl, run_above, slice_get_within, subst, sym, task_of, true, turns_of, value_after, ℕ, ◌&&◌, ◌<◌, ◌∙◌, ◌≡◌, ◌≤◌}
use Rattle.device_gate.specs.declared.slips.Task.TheVariants.{Drive, Probe, Sense}
use Rattle.home_types.specs.declared.commands.Job.TheVariants.{Check, Load, Set, Store}
use Rattle.home_types.specs.declared.commands.Job.{Job}
use Rattle.hub_core.proofs.calls.Departures.{one_for}
use Rattle.hub_core.proofs.kept.KeptByModel.{probe_counted, restored_fits, undo_ordered}
use Rattle.hub_core.proofs.kept.ReturnsKept.{BringsFor, IsOut, out_is}
use Rattle.hub_core.proofs.kept.WrittenValues.{nearest_has}
use Rattle.hub_core.proofs.steps.Calls.{IsOutFor, calls_for, is_up_for}
use Rattle.hub_core.proofs.steps.Takes.{command_is, live_run}

-- For what it is out

-- it does what that is by calls of its device, which then stands at a value of its kind; its slip says where it stood, if it was counted up
pub record IsFor {D : Type 0} (s : OpenHub D) (slip : Slip) (task : Task) (purpose : Purpose) : Type 0 where
  pub grip : (configuration_of s).grips slip.device.0 ≡ Some (record { maker = slip.maker; purpose = purpose })
  pub below : slip.device.0 < length s.setting.first
  pub maker : is_of_run purpose ≡ nat_lt 0 slip.maker
  pub run : is_of_run purpose ≡ true → is_run s.setting.runs slip.maker ≡ true
  pub on : IsOutFor (configuration_of s) slip.device.0 (record { maker = slip.maker; purpose = purpose })
  pub does : task ≡ task_of (configuration_of s) slip.maker purpose
  pub up : is_counted_up task ≡ is_up_for purpose
  pub calls : turns_of task ≡ calls_for purpose
  pub stood : IsTrue (is_counted_up task) → slip.stood ≡ held_in s slip.device.0
  pub value : IsTrue (has_value (kind_at s.setting.kinds slip.device.0) (value_after task (held_in s slip.device.0)))

-- .. for its next command
pub record IsForCommand {D : Type 0} (s : OpenHub D) (slip : Slip) (task : Task) (k : ℕ) : Type 0 where
  pub grip : (configuration_of s).grips slip.device.0 ≡ Some (record { maker = slip.maker; purpose = Commands k })
  pub run : is_run s.setting.runs slip.maker ≡ true
  pub next : k ≡ next_of (read_of (configuration_of s)) slip.maker
  pub within : k < length (commands_of s.setting.runs slip.maker)
  pub on : (command_at s.setting.runs slip.maker k).device.0 ≡ slip.device.0
  pub does : task ≡ command_task (configuration_of s) slip.maker (command_at s.setting.runs slip.maker k)
  pub stood : slip.stood ≡ held_in s slip.device.0
  pub value : IsTrue (has_value (kind_at s.setting.kinds slip.device.0) (value_after task (held_in s slip.device.0)))

-- a command of a device that stands at a value of its kind leaves it at one
task_value : (kind : Kind) (job : Job) (register held : ℕ) → IsTrue (names_values_of kind job) → IsTrue (has_value kind held) → IsTrue (has_value kind (value_after (if reads job then Sense else Drive (driven kind job register)) held))
task_value kind (Set v) register held named has = named
task_value kind (Check v) register held named has = has
task_value kind Load register held named has = has
task_value kind Store register held named has = nearest_has kind held register has

-- it leaves counted up
task_up : (kind : Kind) (job : Job) (register : ℕ) → IsTrue (is_counted_up (if reads job then Sense else Drive (driven kind job register)))
task_up kind (Set v) register = refl
task_up kind (Check v) register = refl
task_up kind Load register = refl
task_up kind Store register = refl

-- .. for one call
task_calls : (kind : Kind) (job : Job) (register : ℕ) → turns_of (if reads job then Sense else Drive (driven kind job register)) ≡ 1
task_calls kind (Set v) register = refl
task_calls kind (Check v) register = refl
task_calls kind Load register = refl
task_calls kind Store register = refl

grip_there : {D : Type 0} (s : OpenHub D) (slip : Slip) (task : Task) → IsKept s.places slip task → (configuration_of s).grips slip.device.0 ≡ Some (record { maker = slip.maker; purpose = (progress_at s.devices slip.device.0).purpose })
grip_there s slip task kept = ap (λ o. grip_in o (progress_at s.devices slip.device.0).purpose) kept

pub for_command : {D : Type 0} (shows : D → Shown) (s : OpenHub D) (slip : Slip) (task : Task) (k : ℕ) → HubIsKept shows s → IsKept s.places slip task → (progress_at s.devices slip.device.0).purpose ≡ Commands k → IsForCommand s slip task k
for_command shows s slip task k kept there purpose =
    record {
      grip = grip;
      run = live_run w n r read.shaped (out.1.live);
      next = out.1.number;
      within = omega (arith, inside, out.1.number);
      on = on;
      does = does;
      stood = fits.stand (subst (λ x. IsTrue (is_counted_up x)) (sym does) (task_up (kind_at w.kinds (command_at w.runs r k).device.0) (command_at w.runs r k).job (n.run r).register));
      value = subst (λ x. IsTrue (has_value (kind_at w.kinds slip.device.0) (value_after x (held_in s slip.device.0)))) (sym (does ∙ ap (λ d. if reads (command_at w.runs r k).job then Sense else Drive (driven (kind_at w.kinds d) (command_at w.runs r k).job (n.run r).register)) on))
          (task_value (kind_at w.kinds slip.device.0) (command_at w.runs r k).job (n.run r).register (held_in s slip.device.0)
          (subst (λ (c : Command). IsTrue (names_values_of (kind_at w.kinds slip.device.0) c.job)) (sym same) named)
          (kept.values slip.device.0 (below_home w slip.device.0 (subst (λ d. is_device w d ≡ true) out.1.on (homed)))));
    }
  where
    w : Setting
    w = s.setting

    n : Reading
    n = read_of (configuration_of s)

    r : ℕ
    r = slip.maker

    read : IsRead w n
    read = read_facts w (entries_of s.history) kept.configuration.history.well_formed

    grip : (configuration_of s).grips slip.device.0 ≡ Some (record { maker = r; purpose = Commands k })
    grip = grip_there s slip task there ∙ ap (λ (p : Purpose). Some (record { maker = r; purpose = p })) purpose

    out : (c : Command) × IsOut w n r k slip.device.0 c
    out = out_is w n (configuration_of s).grips r k slip.device.0 kept.configuration.grips.runs grip

    same : command_at w.runs r k ≡ out.0
    same = ap (command_at w.runs r) out.1.number ∙ command_is w n r out.0 out.1.next

    on : (command_at w.runs r k).device.0 ≡ slip.device.0
    on = ap (λ (c : Command). c.device.0) same ∙ out.1.on

    inside : next_of n r < length (commands_of w.runs r)
    inside = slice_get_within (commands_of w.runs r) (next_of n r) out.0 out.1.next

    fits : FitsOut s slip.device.0 slip task
    fits = kept.out slip.device.0 slip task there

    does : task ≡ command_task (configuration_of s) r (command_at w.runs r k)
    does = fits.does ∙ ap (λ (p : Purpose). task_of (configuration_of s) r p) purpose

    homed : is_device w out.0.device.0 ≡ true
    homed = let home : IsTrue (is_device w out.0.device.0 && names_values_of (kind_at w.kinds out.0.device.0) out.0.job) = kept.configuration.opens.homed r (next_of n r) out.0 out.1.next in grind (arith, common_steps)

    named : IsTrue (names_values_of (kind_at w.kinds slip.device.0) out.0.job)
    named =
        let home : IsTrue (is_device w out.0.device.0 && names_values_of (kind_at w.kinds out.0.device.0) out.0.job) = kept.configuration.opens.homed r (next_of n r) out.0 out.1.next in
        let there' : IsTrue (names_values_of (kind_at w.kinds out.0.device.0) out.0.job) = grind (arith, common_steps) in
        subst (λ d. IsTrue (names_values_of (kind_at w.kinds d) out.0.job)) out.1.on there'

-- its device is one of the home
out_below : {D : Type 0} (shows : D → Shown) (s : OpenHub D) (slip : Slip) (task : Task) → HubIsKept shows s → IsKept s.places slip task → slip.device.0 < length s.setting.first
out_below shows s slip task kept there =
    let within : slip.device.0 < length s.places = slice_get_within s.places slip.device.0 (Out slip task) there in
    omega (arith, within, kept.places_size)

-- a command is a run's
command_for : {D : Type 0} (shows : D → Shown) (s : OpenHub D) (slip : Slip) (task : Task) (k : ℕ) → HubIsKept shows s → IsKept s.places slip task → (progress_at s.devices slip.device.0).purpose ≡ Commands k → IsFor s slip task (Commands k)
command_for shows s slip task k kept there purpose =
    let for = for_command shows s slip task k kept there purpose in
    let c = command_at s.setting.runs slip.maker k in
    let register = ((read_of (configuration_of s)).run slip.maker).register in
    record {
      grip = for.grip;
      below = out_below shows s slip task kept there;
      maker = sym (run_above s.setting.runs slip.maker for.run);
      run = λ of_run. for.run;
      on = for.on;
      does = for.does;
      up = ap is_counted_up for.does ∙ task_up (kind_at s.setting.kinds c.device.0) c.job register;
      calls = ap turns_of for.does ∙ task_calls (kind_at s.setting.kinds c.device.0) c.job register;
      stood = λ up. for.stood;
      value = for.value;
    }

-- so is the undo of a write
undo_for : {D : Type 0} (shows : D → Shown) (s : OpenHub D) (slip : Slip) (task : Task) (v : ℕ) → HubIsKept shows s → IsKept s.places slip task → (progress_at s.devices slip.device.0).purpose ≡ Undoes v → IsFor s slip task (Undoes v)
undo_for shows s slip task v kept there purpose =
    record {
      grip = grip;
      below = out_below shows s slip task kept there;
      maker = sym (run_above s.setting.runs slip.maker run);
      run = λ of_run. run;
      on = tt;
      does = does;
      up = ap is_counted_up does;
      calls = ap turns_of does;
      stood = fits.stand;
      value =
          subst (λ x. IsTrue (has_value (kind_at s.setting.kinds slip.device.0) (value_after x (held_in s slip.device.0)))) (sym does)
          ((kept.configuration.ordered
          (undo_ordered (configuration_of s) s.rounds s.opened (held_in s) slip.device.0 slip.maker v grip kept.configuration)).undos slip.device.0
          (record { maker = slip.maker; purpose = Undoes v }) grip);
    }
  where
    n : Reading
    n = read_of (configuration_of s)

    grip : (configuration_of s).grips slip.device.0 ≡ Some (record { maker = slip.maker; purpose = Undoes v })
    grip = grip_there s slip task there ∙ ap (λ (p : Purpose). Some (record { maker = slip.maker; purpose = p })) purpose

    live : is_live n slip.maker ≡ true
    live =
        let may : IsTrue (is_live n slip.maker && is_doomed n slip.maker && has_written n slip.maker slip.device.0 && not ((n.run slip.maker).on slip.device.0).undid) = kept.configuration.grips.runs.undos slip.device.0 slip.maker v grip in
        grind (arith, common_steps)

    run : is_run s.setting.runs slip.maker ≡ true
    run = live_run s.setting n slip.maker (read_facts s.setting (entries_of s.history) kept.configuration.history.well_formed).shaped live

    fits : FitsOut s slip.device.0 slip task
    fits = kept.out slip.device.0 slip task there

    does : task ≡ Drive v
    does = fits.does ∙ ap (λ (p : Purpose). task_of (configuration_of s) slip.maker p) purpose

-- a probe is the detector's: what it restores says how the device is counted, and is a value of its kind
probe_for : {D : Type 0} (shows : D → Shown) (s : OpenHub D) (slip : Slip) (task : Task) (v : Option ℕ) → HubIsKept shows s → IsKept s.places slip task → (progress_at s.devices slip.device.0).purpose ≡ Probes v → IsFor s slip task (Probes v)
probe_for shows s slip task v kept there purpose =
    record {
      grip = grip;
      below = below;
      maker = sym (ap (nat_lt 0) (kept.configuration.grips.probes slip.device.0 slip.maker v grip));
      run = λ of_run. absurd (cc of_run);
      on = probe_counted (configuration_of s) s.rounds s.opened (held_in s) slip.device.0 slip.maker v grip kept.configuration;
      does = does;
      up = ap is_counted_up does ∙ up_for v;
      calls = ap turns_of does ∙ calls v;
      stood = fits.stand;
      value = subst (λ x. IsTrue (has_value (kind_at s.setting.kinds slip.device.0) (value_after x (held_in s slip.device.0)))) (sym does) (valued v grip);
    }
  where
    grip : (configuration_of s).grips slip.device.0 ≡ Some (record { maker = slip.maker; purpose = Probes v })
    grip = grip_there s slip task there ∙ ap (λ (p : Purpose). Some (record { maker = slip.maker; purpose = p })) purpose

    below : slip.device.0 < length s.setting.first
    below = out_below shows s slip task kept there

    fits : FitsOut s slip.device.0 slip task
    fits = kept.out slip.device.0 slip task there

    does : task ≡ Probe v
    does = fits.does ∙ ap (λ (p : Purpose). task_of (configuration_of s) slip.maker p) purpose

    up_for : (o : Option ℕ) → is_counted_up (Probe o) ≡ is_none o
    up_for None = refl
    up_for (Some u) = refl

    calls : (o : Option ℕ) → turns_of (Probe o) ≡ calls_for (Probes o)
    calls None = refl
    calls (Some u) = refl

    valued : (o : Option ℕ) → (configuration_of s).grips slip.device.0 ≡ Some (record { maker = slip.maker; purpose = Probes o }) → IsTrue (has_value (kind_at s.setting.kinds slip.device.0) (value_after (Probe o) (held_in s slip.device.0)))
    valued None at = kept.values slip.device.0 below
    valued (Some u) at = restored_fits (configuration_of s) s.rounds s.opened (held_in s) slip.device.0 slip.maker u at below (kept.values slip.device.0 below) kept.configuration

-- in each case
pub out_for : {D : Type 0} (shows : D → Shown) (s : OpenHub D) (slip : Slip) (task : Task) (purpose : Purpose) → HubIsKept shows s → IsKept s.places slip task → (progress_at s.devices slip.device.0).purpose ≡ purpose → IsFor s slip task purpose
out_for shows s slip task (Commands k) kept there is = command_for shows s slip task k kept there is
out_for shows s slip task (Undoes v) kept there is = undo_for shows s slip task v kept there is
out_for shows s slip task (Probes v) kept there is = probe_for shows s slip task v kept there is

-- what the detector has out is a probe
pub probe_purpose : {D : Type 0} (shows : D → Shown) (s : OpenHub D) (slip : Slip) (task : Task) → HubIsKept shows s → IsKept s.places slip task → slip.maker ≡ 0 → (v : Option ℕ) × ((progress_at s.devices slip.device.0).purpose ≡ Probes v)
probe_purpose shows s slip task kept there none = by_purpose (progress_at s.devices slip.device.0).purpose refl
  where
    no_run : (p : Purpose) → (progress_at s.devices slip.device.0).purpose ≡ p → is_of_run p ≡ false
    no_run p is = (out_for shows s slip task p kept there is).maker ∙ ap (nat_lt 0) none

    by_purpose : (p : Purpose) → (progress_at s.devices slip.device.0).purpose ≡ p → (v : Option ℕ) × ((progress_at s.devices slip.device.0).purpose ≡ Probes v)
    by_purpose (Commands k) is = absurd (let run : true ≡ false = no_run (Commands k) is in cc)
    by_purpose (Undoes v) is = absurd (let run : true ≡ false = no_run (Undoes v) is in cc)
    by_purpose (Probes v) is = (v, is)

-- What it brings home

-- a write that worked has driven its device there
wrote_brings : (s : Configuration) (held : ℕ → ℕ) (r k d stood : ℕ) (task : Task) → (command_at s.setting.runs r k).device.0 ≡ d → task ≡ command_task s r (command_at s.setting.runs r k) → IsTrue (may_tell task stood Worked) → BringsFor s held r d (value_after task (held d)) (Commands k) Worked
wrote_brings s held r k d stood task on does fits =
    subst (λ e. (reads job ≡ false) × (value_after task (held d) ≡ driven (kind_at s.setting.kinds e) job register)) on
    (by_reading (reads job) refl does fits)
  where
    job : Job
    job = (command_at s.setting.runs r k).job

    register : ℕ
    register = ((read_of s).run r).register

    value : ℕ
    value = driven (kind_at s.setting.kinds (command_at s.setting.runs r k).device.0) job register

    by_reading : (b : Bool) → reads job ≡ b → task ≡ (if reads job then Sense else Drive value) → IsTrue (may_tell task stood Worked) → (reads job ≡ false) × (value_after task (held d) ≡ value)
    by_reading true e is tells = absurd (let none : false ≡ true = subst (λ x. IsTrue (may_tell x stood Worked)) (is ∙ ap (λ b. if b then Sense else Drive value) e) tells in cc)
    by_reading false e is tells = (e, ap (λ y. value_after y (held d)) (is ∙ ap (λ b. if b then Sense else Drive value) e))

-- a read has found where its device stands
found_brings : (s : Configuration) (held : ℕ → ℕ) (r k d x stood : ℕ) (task : Task) → task ≡ command_task s r (command_at s.setting.runs r k) → IsTrue (may_tell task stood (Sensed x)) → stood ≡ held d → BringsFor s held r d (value_after task (held d)) (Commands k) (Sensed x)
found_brings s held r k d x stood task does fits at = by_reading (reads job) refl does fits
  where
    job : Job
    job = (command_at s.setting.runs r k).job

    value : ℕ
    value = driven (kind_at s.setting.kinds (command_at s.setting.runs r k).device.0) job ((read_of s).run r).register

    by_reading : (b : Bool) → reads job ≡ b → task ≡ (if reads job then Sense else Drive value) → IsTrue (may_tell task stood (Sensed x)) → (reads job ≡ true) × (x ≡ value_after task (held d)) × (value_after task (held d) ≡ held d)
    by_reading true e is tells =
        let sense : task ≡ Sense = is ∙ ap (λ b. if b then Sense else Drive value) e in
        let stays : value_after task (held d) ≡ held d = ap (λ y. value_after y (held d)) sense in
        let found : x ≡ stood = eqb-true x stood (subst (λ y. IsTrue (may_tell y stood (Sensed x))) sense tells) in
        (e, found ∙ at ∙ sym stays, stays)
    by_reading false e is tells = absurd (let none : false ≡ true = subst (λ y. IsTrue (may_tell y stood (Sensed x))) (is ∙ ap (λ b. if b then Sense else Drive value) e) tells in cc)

-- a probe that worked has left it there
probe_brings : (s : Configuration) (held : ℕ → ℕ) (r d : ℕ) (v : Option ℕ) (told : Told) → BringsFor s held r d (held_after told (Probe v) (held d)) (Probes v) told
probe_brings s held r d None Worked = refl
probe_brings s held r d None (Sensed x) = refl
probe_brings s held r d None Died = tt
probe_brings s held r d (Some u) Worked = refl
probe_brings s held r d (Some u) (Sensed x) = refl
probe_brings s held r d (Some u) Died = tt

-- the cases; of a device that died nothing is known
pub brings_back : {D : Type 0} (s : OpenHub D) (slip : Slip) (task : Task) (purpose : Purpose) (told : Told) → IsFor s slip task purpose
    → IsTrue (may_tell task slip.stood told)
    → BringsFor (configuration_of s) (held_in s) slip.maker slip.device.0 (held_after told task (held_in s slip.device.0)) purpose told
brings_back s slip task (Commands k) Worked for fits = wrote_brings (configuration_of s) (held_in s) slip.maker k slip.device.0 slip.stood task for.on for.does fits
brings_back s slip task (Commands k) (Sensed x) for fits = found_brings (configuration_of s) (held_in s) slip.maker k slip.device.0 x slip.stood task for.does fits (for.stood for.up)
brings_back s slip task (Commands k) Died for fits = tt
brings_back s slip task (Undoes u) Worked for fits = ap (λ x. value_after x (held_in s slip.device.0)) for.does
brings_back s slip task (Undoes u) (Sensed x) for fits = ap (λ y. value_after y (held_in s slip.device.0)) for.does
brings_back s slip task (Undoes u) Died for fits = tt
brings_back s slip task (Probes v) told for fits = subst (λ x. BringsFor (configuration_of s) (held_in s) slip.maker slip.device.0 (held_after told x (held_in s slip.device.0)) (Probes v) told) (sym for.does) (probe_brings (configuration_of s) (held_in s) slip.maker slip.device.0 v told)

-- where it stands once it has worked is told by where it is known to stand
pub value_same : (task : Task) (stood held : ℕ) → (IsTrue (is_counted_up task) → stood ≡ held) → value_after task stood ≡ value_after task held
value_same (Drive v) stood held same = refl
value_same Sense stood held same = same refl
value_same (Probe None) stood held same = same refl
value_same (Probe (Some u)) stood held same = refl

-- The entries of the step back

abbrev pub entries_for : {D : Type 0} → OpenHub D → Gripped D Done → Purpose → List Entry
entries_for s grip purpose = give_entries s.setting (read_of (configuration_of s)) grip.slip.device.0 (record { maker = grip.slip.maker; purpose = purpose }) grip.stage.told

-- that of a run's grip makes one
pub some_entry : {D : Type 0} (s : OpenHub D) (grip : Gripped D Done) (purpose : Purpose) → one_for (is_of_run purpose) ≤ length (entries_for s grip purpose)
some_entry s grip purpose = by_purpose purpose grip.stage.told
  where
    by_purpose : (p : Purpose) (told : Told) → one_for (is_of_run p) ≤ length (give_entries s.setting (read_of (configuration_of s)) grip.slip.device.0 (record { maker = grip.slip.maker; purpose = p }) told)
    by_purpose (Commands k) Worked = omega arith
    by_purpose (Commands k) (Sensed x) = omega arith
    by_purpose (Commands k) Died = omega arith
    by_purpose (Undoes v) Worked = omega arith
    by_purpose (Undoes v) (Sensed x) = omega arith
    by_purpose (Undoes v) Died = omega arith
    by_purpose (Probes v) told = omega arith
