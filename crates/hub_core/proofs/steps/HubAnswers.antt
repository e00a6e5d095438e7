-- What a hub answers to a run that takes, to a grip that comes back, and to the detector.
use Rattle.hub_core.proofs.Prelude.{Bool, Carried, Choice, Chose, Configuration, Entry, Gave, Give, GiveProbe, Grip, HubState, HubStep, IsSlipOf, List, None, Option, ProbeTaken, Probed, Refused, Returned, Slip, Some, Take, TakeProbe, Task, Told, after_give, after_take, after_take_probe, ap, arith, at_moment, carrying, choice_of, common_steps, entries_back, false, give_entries, give_if, if◌then◌else◌, is_kept, may_probe, nat_lt, probe_grip, read_of, refl, same_carried, same_optional, same_slip, same_task, task_of, true, ℕ, ◌&&◌, ◌<◌, ◌==◌, ◌∙◌, ◌≡◌}
use Rattle.device_gate.specs.declared.slips.Task.TheVariants.{Drive, Probe, Sense}
use Rattle.device_gate.specs.declared.strangers.Stranger.{Stranger}

-- a step of a run is the choice, and the configuration after it
pub took_choice : (s t : HubState) (r m : ℕ) (slip : Slip) (choice : Choice) → HubStep s (Take r m slip) (Chose choice) t → choice ≡ choice_of s.configuration r m
took_choice s t r m slip choice step = (let same = step.0 in cc)

pub took_after : (s t : HubState) (r m : ℕ) (slip : Slip) (choice : Choice) → HubStep s (Take r m slip) (Chose choice) t → t.configuration ≡ after_take s.configuration r m
took_after s t r m slip choice step = ap (λ (x : HubState). x.configuration) step.1

-- a grip that is taken back makes the entries of its purpose, and the device is home after it
back_if : (b : Bool) (s t : HubState) (c : Configuration) (told : Carried) (result : Told) (grip : Grip) (entries : List Entry) → c.grips told.slip.device.0 ≡ Some grip → Returned (Gave entries) ≡ Returned (give_if b s c told result).answer → t ≡ (give_if b s c told result).next
    → (entries ≡ give_entries c.setting (read_of c) told.slip.device.0 grip result) × (t.configuration ≡ after_give c told.slip.device.0 grip result)
back_if true s t c told result grip entries out answer next =
    ((let same : entries ≡ entries_back c told result = cc in same ∙ rw out refl), ap (λ (x : HubState). x.configuration) next ∙ rw out refl)
back_if false s t c told result grip entries out answer next = absurd (cc)

pub gave_back : (s t : HubState) (told : Carried) (result : Told) (m : ℕ) (grip : Grip) (entries : List Entry) → s.configuration.grips told.slip.device.0 ≡ Some grip → HubStep s (Give told result m) (Returned (Gave entries)) t
    → (entries ≡ give_entries s.configuration.setting (read_of s.configuration) told.slip.device.0 grip result) × (t.configuration ≡ after_give (at_moment s.configuration m) told.slip.device.0 grip result)
gave_back s t told result m grip entries out step = back_if (is_kept s told && nat_lt 0 told.slip.maker) s t (at_moment s.configuration m) told result grip entries out step.0 step.1

-- a grip that is kept is not refused

same_optional_self : (o : Option ℕ) → same_optional o o ≡ true
same_optional_self None = refl
same_optional_self (Some x) = grind (arith, common_steps)

same_task_self : (task : Task) → same_task task task ≡ true
same_task_self (Drive v) = grind (arith, common_steps)
same_task_self Sense = refl
same_task_self (Probe v) = same_optional_self v

same_slip_self : (slip : Slip) → same_slip slip slip ≡ true
same_slip_self slip = grind (arith, common_steps)

pub same_self : (c : Carried) → same_carried c c ≡ true
same_self c = rw (same_slip_self c.slip, same_task_self c.task) refl

refused_if : (b : Bool) (s : HubState) (c : Configuration) (told : Carried) (result : Told) (x : Stranger) → b ≡ true → Returned (Refused x) ≡ Returned (give_if b s c told result).answer → ⊥
refused_if true s c told result x is answer = absurd (cc)
refused_if false s c told result x is answer = absurd (cc)

pub never_refused : (s t : HubState) (told : Carried) (result : Told) (m : ℕ) (x : Stranger) → s.carried told.slip.device.0 ≡ Some told → 0 < told.slip.maker → HubStep s (Give told result m) (Returned (Refused x)) t → ⊥
never_refused s t told result m x kept maker step =
    let is : is_kept s told ≡ true = rw kept (same_self told) in
    let low : nat_lt 0 told.slip.maker ≡ true = grind (arith, common_steps, maker) in
    refused_if (is_kept s told && nat_lt 0 told.slip.maker) s (at_moment s.configuration m) told result x (rw (is, low) refl) step.0

-- What a hub answers to the detector

-- a probe that goes out, or none, of the device
abbrev probe_out : HubState → ℕ → Slip → ProbeTaken
probe_out s d slip = record { task = Some (task_of s.configuration 0 (probe_grip s.configuration d).purpose); next = record { configuration = after_take_probe s.configuration d; carried = carrying s 0 d (probe_grip s.configuration d).purpose slip } }

abbrev no_probe : HubState → ProbeTaken
no_probe s = record { task = None; next = s }

out_if : (b : Bool) (s t : HubState) (d : ℕ) (slip : Slip) (task : Task) → Probed (Some task) ≡ Probed (if b then probe_out s d slip else no_probe s).task → t ≡ (if b then probe_out s d slip else no_probe s).next → (b ≡ true) × (t.configuration ≡ after_take_probe s.configuration d)
out_if true s t d slip task answer next = (refl, ap (λ (x : HubState). x.configuration) next)
out_if false s t d slip task answer next = absurd (cc)

-- a probe went out, where it may
pub took_probe : (s t : HubState) (d : ℕ) (slip : Slip) (task : Task) → HubStep s (TakeProbe d slip) (Probed (Some task)) t → (may_probe s.configuration d ≡ true) × (t.configuration ≡ after_take_probe s.configuration d) × IsSlipOf 0 d slip
took_probe s t d slip task step = let both = out_if (may_probe s.configuration d) s t d slip task step.0 step.1 in (both.0, both.1, step.2 both.0)

none_if : (b : Bool) (s : HubState) (d : ℕ) (slip : Slip) → Probed None ≡ Probed (if b then probe_out s d slip else no_probe s).task → b ≡ false
none_if true s d slip answer = absurd (cc)
none_if false s d slip answer = refl

-- .. or none may
pub took_none : (s t : HubState) (d : ℕ) (slip : Slip) → HubStep s (TakeProbe d slip) (Probed None) t → may_probe s.configuration d ≡ false
took_none s t d slip step = none_if (may_probe s.configuration d) s d slip step.0

-- the detector's grip is taken back
pub gave_probe_back : (s t : HubState) (told : Carried) (result : Told) (grip : Grip) (entries : List Entry) → s.configuration.grips told.slip.device.0 ≡ Some grip → HubStep s (GiveProbe told result) (Returned (Gave entries)) t
    → (entries ≡ give_entries s.configuration.setting (read_of s.configuration) told.slip.device.0 grip result) × (t.configuration ≡ after_give s.configuration told.slip.device.0 grip result)
gave_probe_back s t told result grip entries out step = back_if (is_kept s told && (told.slip.maker == 0)) s t s.configuration told result grip entries out step.0 step.1

-- .. and never refused, where it is kept
pub probe_never_refused : (s t : HubState) (told : Carried) (result : Told) (x : Stranger) → s.carried told.slip.device.0 ≡ Some told → told.slip.maker ≡ 0 → HubStep s (GiveProbe told result) (Returned (Refused x)) t → ⊥
probe_never_refused s t told result x kept maker step =
    let is : is_kept s told ≡ true = rw kept (same_self told) in
    let own : (told.slip.maker == 0) ≡ true = grind (arith, common_steps, maker) in
    refused_if (is_kept s told && (told.slip.maker == 0)) s s.configuration told result x (rw (is, own) refl) step.0
