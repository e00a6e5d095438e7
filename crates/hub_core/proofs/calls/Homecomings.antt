-- A device that comes home keeps what the type of a hub keeps, whoever's grip it was, and is the step that it says.
use Rattle.hub_core.proofs.Prelude.{Bool, Carried, Commands, Configuration, CountsAreLow, DeviceProgress, Done, Entry, FitsAtHome, Gave, Grip, Gripped, Grips, HasRoomLeft, HeldTokensAre, HistoryState, Home, HubIsKept, HubState, IfSome, Inside, IsGiven, IsHomeAgain, IsKept, IsKeptByModel, IsProbeGiven, IsTrue, IsWellFormed, IsWhole, List, MayComeHome, MayTake, None, Ok, OpenHub, Option, OrderIsBeside, Out, Place, Probes, Purpose, Reading, Returned, RunGiven, SameWindow, Setting, Shown, Slip, Some, Task, Told, Undoes, WasCalled, [], after_give, all_probes_taken, ap, arith, at_moment, carried_by, common_steps, configuration_of, count_by, count_cons, device_here, device_there, entries_of, eq-eqb, events_after, events_in, false, fell_is, get_set, give, give_entries, give_if, give_probe, grip_in, grips_set, hands_come, has_died, has_value, held_after, held_in, hub_state_of, if◌then◌else◌, inl, inr, is_away, is_of_run, kept_by, kind_at, known_after, known_same, known_set, length, length-set, lt-ltb, max, most_entries, nat_lt, ne_eqb, open_of, option_map, probed, progress_at, put, read_in, read_of, refl, run_place, same_Some, slice_get, slice_get_within, slice_set, subst, suc, sym, task_of, told_calls, told_falls, true, turned, unwrap_or, value_after, with_entries, with_grip, with_hand, with_more, zero, ℕ, ⊤, ◌&&◌, ◌*◌, ◌++◌, ◌+◌, ◌-◌, ◌<◌, ◌==◌, ◌∙◌, ◌∷◌, ◌≡◌, ◌≢◌, ◌≤◌}
use Rattle.hub_core.proofs.calls.Departures.{one_for, other_home, other_out, taken_same}
use Rattle.hub_core.proofs.calls.HubChanges.{events_same, length_with}
use Rattle.hub_core.proofs.calls.HubStates.{carried_set, kept_is}
use Rattle.hub_core.proofs.calls.OutFor.{IsFor, brings_back, entries_for, out_for, some_entry, value_same}
use Rattle.hub_core.proofs.kept.KeptByModel.{given_kept}
use Rattle.hub_core.proofs.kept.Sizes.{few_events, history_fits}
use Rattle.hub_core.proofs.steps.Calls.{calls_told, falls_of, give_calls, give_counted, give_down, give_falls, give_registers, give_rises, is_up_for, rises_of}
use Rattle.window_devices.specs.declared.known.Events.{Events}

-- The device is home again

-- with these entries, at this moment: what is known of it is what its task and what it told say
abbrev pub back : {D : Type 0} → OpenHub D → Gripped D Done → List Entry → ℕ → OpenHub D
back s grip entries t =
    record s {
      history = s.history ++ kept_by grip.slip.maker entries;
      moment = t;
      devices = slice_set s.devices grip.slip.device.0 (known_after grip.task grip.stage.told (progress_at s.devices grip.slip.device.0));
      places = slice_set s.places grip.slip.device.0 (Home grip.device);
      tickets = s.tickets;
    }

-- its configuration
abbrev pub after_back : {D : Type 0} → OpenHub D → Slip → List Entry → ℕ → Configuration
after_back s slip entries t = with_grip (with_entries (record (configuration_of s) { moment = t }) slip.maker entries) slip.device.0 None

-- where the device is known to stand then
abbrev pub held_back : {D : Type 0} → OpenHub D → Gripped D Done → ℕ
held_back s grip = held_after grip.stage.told grip.task (held_in s grip.slip.device.0)

back_configuration : {D : Type 0} (s : OpenHub D) (grip : Gripped D Done) (entries : List Entry) (t : ℕ) → grip.slip.device.0 < length s.places → grip.slip.device.0 < length s.devices → configuration_of (back s grip entries t) ≡ after_back s grip.slip entries t
back_configuration s grip entries t within known =
    let d = grip.slip.device.0 in
    let known_now = known_after grip.task grip.stage.told (progress_at s.devices d) in
    let probes : ◌≡◌ {A = ℕ → ℕ} (λ e. (progress_at (slice_set s.devices d known_now) e).probes_left) (λ e. (progress_at s.devices e).probes_left) = λ i e. known_same (λ (p : DeviceProgress). p.probes_left) s.devices d known_now known refl e i in
    let grips : ◌≡◌ {A = ℕ → Option Grip} (λ e. grip_in (slice_get (slice_set s.places d (Home grip.device)) e) (progress_at (slice_set s.devices d known_now) e).purpose) (put (configuration_of s).grips d None) = grips_set s.places s.devices d (Home grip.device) known_now within known in
    λ i. record { setting = s.setting; history = s.history ++ kept_by grip.slip.maker entries; moment = t; probes = probes i; grips = grips i }

back_state : {D : Type 0} (s : OpenHub D) (grip : Gripped D Done) (entries : List Entry) (t : ℕ) → grip.slip.device.0 < length s.places → grip.slip.device.0 < length s.devices
    → hub_state_of (back s grip entries t) ≡ record { configuration = after_back s grip.slip entries t; carried = put (hub_state_of s).carried grip.slip.device.0 None }
back_state s grip entries t within known =
    let configuration = back_configuration s grip entries t within known in
    let carried = carried_set s.places grip.slip.device.0 (Home grip.device) within in
    λ i. record { configuration = configuration i; carried = carried i }

-- how many are out for a run when one is home again
abbrev away_at : {D : Type 0} → Option (Place D) → Bool
away_at o = unwrap_or (option_map is_away o) false

count_back : {D : Type 0} (places : List (Place D)) (d : ℕ) (device : D) (slip : Slip) (task : Task) → slice_get places d ≡ Some (Out slip task) → count_by is_away (slice_set places d (Home device)) + one_for (nat_lt 0 slip.maker) ≡ count_by is_away places
count_back [] d device slip task at = absurd (cc)
count_back (x ∷ places) zero device slip task at =
    let now = count_cons is_away (Home device) places in
    let before = count_cons is_away x places in
    let one : one_for (is_away x) ≡ one_for (nat_lt 0 slip.maker) = ap (λ o. one_for (away_at o)) at in
    omega (arith, now, before, one)
count_back (p ∷ places) (suc d) device slip task at =
    let now = count_cons is_away p (slice_set places d (Home device)) in
    let before = count_cons is_away p places in
    let rest = count_back places d device slip task at in
    omega (arith, now, before, rest)

-- what the step back makes of its device and its history: what is kept of the configuration, where the device stands, and how its counts rose; all else is as before
pub record ComesBack {D : Type 0} (shows : D → Shown) (s : OpenHub D) (grip : Gripped D Done) (entries : List Entry) (t : ℕ) : Type 0 where
  pub configuration : IsKeptByModel (after_back s grip.slip entries t) s.rounds s.opened (put (held_in s) grip.slip.device.0 (held_back s grip))
  pub value : IsTrue (has_value (kind_at s.setting.kinds grip.slip.device.0) (held_back s grip))
  pub stand : (read_of (after_back s grip.slip entries t)).up grip.slip.device.0 ≡ true → (shows grip.device).stands ≡ held_back s grip
  pub turns_rose : (shows grip.device).turns + told_calls s.setting.runs (entries_of s.history) grip.slip.device.0 ≡ grip.slip.turns + told_calls s.setting.runs (entries_of (after_back s grip.slip entries t).history) grip.slip.device.0
  pub probes_rose : (shows grip.device).probes ≡ grip.slip.probes + probed grip.task
  pub falls_told : told_falls (entries_of (after_back s grip.slip entries t).history) grip.slip.device.0 + grip.slip.faults ≤ (shows grip.device).faults + told_falls (entries_of s.history) grip.slip.device.0
  pub few_faults : (shows grip.device).faults + told_falls (entries_of s.history) grip.slip.device.0 ≤ grip.slip.faults + probed grip.task + told_falls (entries_of (after_back s grip.slip entries t).history) grip.slip.device.0
  pub counted : events_after grip.task grip.stage.told (progress_at s.devices grip.slip.device.0).events ≡ events_in (read_of (after_back s grip.slip entries t)) grip.slip.device.0
  pub calls_other : (e : ℕ) → e ≢ grip.slip.device.0 → told_calls s.setting.runs (entries_of (after_back s grip.slip entries t).history) e ≡ told_calls s.setting.runs (entries_of s.history) e
  pub falls_other : (e : ℕ) → e ≢ grip.slip.device.0 → told_falls (entries_of (after_back s grip.slip entries t).history) e ≡ told_falls (entries_of s.history) e
  pub events_other : (e : ℕ) → e ≢ grip.slip.device.0 → events_in (read_of (after_back s grip.slip entries t)) e ≡ events_in (read_of (configuration_of s)) e
  pub up_other : (e : ℕ) → e ≢ grip.slip.device.0 → (read_of (after_back s grip.slip entries t)).up e ≡ (read_of (configuration_of s)).up e
  pub register : (e : ℕ) (other : Slip) (does : Task) → e ≢ grip.slip.device.0 → slice_get s.places e ≡ Some (Out other does) → ((read_of (configuration_of s)).run other.maker).register ≡ ((read_of (after_back s grip.slip entries t)).run other.maker).register
  -- a run's step tells something
  pub ticket : one_for (nat_lt 0 grip.slip.maker) ≤ length entries

back_kept : {D : Type 0} (shows : D → Shown) (s : OpenHub D) (grip : Gripped D Done) (entries : List Entry) (t : ℕ)
    → IsKept s.places grip.slip grip.task → grip.slip.device.0 < length s.devices → ComesBack shows s grip entries t
    → HubIsKept shows s → HubIsKept shows (back s grip entries t)
back_kept {D = D} shows s grip entries t at known back' kept =
    record {
      configuration = now;
      devices_size = length-set s.devices d known_now ∙ kept.devices_size;
      places_size = length-set s.places d (Home grip.device) ∙ kept.places_size;
      home = λ e other there. elim (get_set s.places d e (Home grip.device) within) [
        | inl p ↦ subst (λ (x : Place D). IsFitting e x) (same_Some (Home grip.device) (Home other) (sym p.1 ∙ there)) (subst (λ x. IsFitting x (Home grip.device)) (sym p.0) comes)
        | inr q ↦ other_home shows s after.history t _ _ _ e other (device_there s.devices d e known_now q.0) (back'.calls_other e q.0) (back'.falls_other e q.0) (back'.up_other e q.0) (kept.home e other (sym q.1 ∙ there))
      ];
      out = λ e other does there. elim (get_set s.places d e (Home grip.device) within) [
        | inl p ↦ absurd (let both : Some (Home grip.device) ≡ Some (Out other does) = sym p.1 ∙ there in cc)
        | inr q ↦ other_out s after.history t _ _ _ e other does (device_there s.devices d e known_now q.0) (back'.calls_other e q.0) (back'.falls_other e q.0) (back'.register e other does q.0 (sym q.1 ∙ there)) (kept.out e other does (sym q.1 ∙ there))
      ];
      low = λ e. subst (λ (c : _). CountsAreLow s.opened c.turns c.probes c.faults) (sym (known_same (λ (p : DeviceProgress). p.at_opening) s.devices d known_now known refl e)) (kept.low e);
      values = λ e home. elim (get_set s.places d e (Home grip.device) within) [
        | inl p ↦ subst (λ x. IsTrue (has_value (kind_at s.setting.kinds x) (held_in after x))) (sym p.0) (subst (λ x. IsTrue (has_value (kind_at s.setting.kinds d) x)) (sym (ap (λ (p : DeviceProgress). p.held) here)) back'.value)
        | inr q ↦ subst (λ x. IsTrue (has_value (kind_at s.setting.kinds e) x)) (sym (ap (λ (p : DeviceProgress). p.held) (device_there s.devices d e known_now q.0))) (kept.values e home)
      ];
      events = λ e below. elim (get_set s.places d e (Home grip.device) within) [
        | inl p ↦ subst (λ x. (progress_at after.devices x).events ≡ events_in (read_of (configuration_of after)) x) (sym p.0) (ap (λ (p : DeviceProgress). p.events) here ∙ back'.counted)
        | inr q ↦ ap (λ (p : DeviceProgress). p.events) (device_there s.devices d e known_now q.0) ∙ kept.events e below ∙ sym (back'.events_other e q.0)
      ];
      few_tickets =
          let few : s.tickets ≤ length s.history + count_by is_away s.places + all_probes_taken s = kept.few_tickets in
          let taken = taken_same s.rounds s.devices d known_now refl known in
          let less = count_back s.places d grip.device grip.slip grip.task at in
          let more = length_with s.history grip.slip.maker entries in
          omega (arith, few, less, more, back'.ticket, taken);
    }
  where
    d : ℕ
    d = grip.slip.device.0

    known_now : DeviceProgress
    known_now = known_after grip.task grip.stage.told (progress_at s.devices d)

    after : OpenHub D
    after = back s grip entries t

    within : d < length s.places
    within = slice_get_within s.places d (Out grip.slip grip.task) at

    here : progress_at (slice_set s.devices d known_now) d ≡ known_now
    here = device_here s.devices d known_now known

    IsFitting : ℕ → Place D → Type 0
    IsFitting e (Home x) = FitsAtHome shows after e x
    IsFitting e (Out x y) = ⊤

    now : IsKeptByModel (configuration_of after) s.rounds s.opened (held_in after)
    now =
        subst (λ (c : Configuration). IsKeptByModel c s.rounds s.opened (held_in after)) (sym (back_configuration s grip entries t within known))
        (subst (λ h. IsKeptByModel (after_back s grip.slip entries t) s.rounds s.opened h) (sym (known_set (λ (p : DeviceProgress). p.held) s.devices d known_now known)) back'.configuration)

    comes : FitsAtHome shows after d grip.device
    comes =
        let fits = kept.out d grip.slip grip.task at in
        record {
          stand = λ up. back'.stand up ∙ ap (λ (p : DeviceProgress). p.held) (sym here);
          turns_are =
              let had : grip.slip.turns ≡ (progress_at s.devices d).at_opening.turns + told_calls s.setting.runs (entries_of s.history) d = fits.turns_are in
              let same : (progress_at after.devices d).at_opening.turns ≡ (progress_at s.devices d).at_opening.turns = ap (λ (p : DeviceProgress). p.at_opening.turns) here in
              let rose : (shows grip.device).turns + told_calls s.setting.runs (entries_of s.history) d ≡ grip.slip.turns + told_calls s.setting.runs (entries_of after.history) d = back'.turns_rose in
              omega (arith, rose, had, same);
          probes_are = back'.probes_rose ∙ fits.probes_are ∙ ap (λ (p : DeviceProgress). p.at_opening.probes + (s.rounds - p.probes_left)) (sym here);
          falls_told = subst (λ (p : DeviceProgress). p.at_opening.faults + told_falls (entries_of after.history) d ≤ (shows grip.device).faults) (sym here)
              (let had : (progress_at s.devices d).at_opening.faults + told_falls (entries_of s.history) d ≤ grip.slip.faults = fits.falls_told in
              let rose : told_falls (entries_of after.history) d + grip.slip.faults ≤ (shows grip.device).faults + told_falls (entries_of s.history) d = back'.falls_told in
              omega (arith, had, rose));
          few_faults = subst (λ (p : DeviceProgress). (shows grip.device).faults ≤ p.at_opening.faults + told_falls (entries_of after.history) d + (s.rounds - p.probes_left)) (sym here)
              (let had : grip.slip.faults + probed grip.task ≤ (progress_at s.devices d).at_opening.faults + told_falls (entries_of s.history) d + (s.rounds - (progress_at s.devices d).probes_left) = fits.few_faults in
              let rose : (shows grip.device).faults + told_falls (entries_of s.history) d ≤ grip.slip.faults + probed grip.task + told_falls (entries_of after.history) d = back'.few_faults in
              omega (arith, had, rose));
        }

-- What it told

-- another device is not out for the same run
other_maker : {D : Type 0} (shows : D → Shown) (s : OpenHub D) (slip : Slip) (task : Task) (purpose : Purpose) (e : ℕ) (other : Slip)
    (does : Task) → HubIsKept shows s → IsFor s slip task purpose → is_of_run purpose ≡ true → e ≢ slip.device.0
    → slice_get s.places e ≡ Some (Out other does) → other.maker ≢ slip.maker
other_maker shows s slip task purpose e other does kept for of_run apart there same =
    apart (kept.configuration.grips.runs.one e slip.device.0 (slip.maker - 1) (progress_at s.devices e).purpose purpose
    (ap (λ o. grip_in o (progress_at s.devices e).purpose) there ∙ ap (λ m. Some (record { maker = m; purpose = (progress_at s.devices e).purpose })) (same ∙ first))
    (for.grip ∙ ap (λ m. Some (record { maker = m; purpose = purpose })) first))
  where
    first : slip.maker ≡ suc (slip.maker - 1)
    first = (run_place s.setting.runs slip.maker (for.run of_run)).0

plus_none : (n : ℕ) → n ≡ n + 0
plus_none n = omega arith

-- the counts of its failures and restarts
turned_is : (up died : Bool) (e : Events) → turned up died e ≡ record { fell = e.fell + falls_of up died; rose = e.rose + rises_of up died }
turned_is true true e = λ i. record { fell = e.fell + 1; rose = plus_none e.rose i }
turned_is true false e = λ i. record { fell = plus_none e.fell i; rose = plus_none e.rose i }
turned_is false true e = λ i. record { fell = plus_none e.fell i; rose = plus_none e.rose i }
turned_is false false e = λ i. record { fell = plus_none e.fell i; rose = e.rose + 1 }

-- where the call lived the device is as the task leaves it; where it died it is counted down
pub comes_back : {D : Type 0} (shows : D → Shown) (s : OpenHub D) (grip : Gripped D Done) (purpose : Purpose) (t : ℕ)
    → IsFor s grip.slip grip.task purpose → WasCalled grip.stage.told grip.task grip.slip (shows grip.device) → s.moment ≤ t
    → HubIsKept shows s → ComesBack shows s grip (entries_for s grip purpose) t
comes_back {D = D} shows s grip purpose t for called later kept =
    record {
      configuration =
          given_kept (configuration_of s) s.rounds s.opened (held_in s) d t (held_back s grip) out told for.grip
          (brings_back s grip.slip grip.task purpose told for called.fits)
          (λ died. ap (λ b. if b then held_in s d else value_after grip.task (held_in s d)) died) fits later kept.configuration;
      value = fits;
      stand = by_told (has_died told) refl;
      turns_rose =
          let rose : (shows grip.device).turns ≡ grip.slip.turns + calls_told purpose told = called.turns_rose ∙ ap (λ k. grip.slip.turns + (if has_died told then 0 else k)) for.calls in
          omega (arith, rose, told_here);
      probes_rose = called.probes_rose;
      falls_told = let most = falls_most (is_up_for purpose) (has_died told) in omega (arith, called.faults_rose, falls_here, most);
      few_faults = let most = few_falls purpose (has_died told) for.does in omega (arith, called.faults_rose, falls_here, most);
      counted = (λ i. turned (for.up i) (has_died told) (kept.events d for.below i)) ∙ turned_is (is_up_for purpose) (has_died told) (events_in n d) ∙ (λ i. record { fell = fell_here i; rose = sym (give_rises (configuration_of s) d out told for.on) i });
      calls_other = λ e other. give_calls (configuration_of s) d e out told for.on ∙ more_other (told_calls s.setting.runs (entries_of s.history) e) (calls_told purpose told) e other;
      falls_other = falls_other;
      events_other = λ e other. events_same s.setting (entries_of s.history) (entries_of after.history) e (falls_other e other) (ap (λ c. c.1) (give_counted (configuration_of s) d e out told for.on other));
      up_other = λ e other. ap (λ c. c.0) (give_counted (configuration_of s) d e out told for.on other);
      register = λ e x does other there. sym (give_registers (configuration_of s) d x.maker out told (λ of_run. other_maker shows s grip.slip grip.task purpose e x does kept for of_run other there));
      ticket = subst (λ b. one_for b ≤ length (entries_for s grip purpose)) for.maker (some_entry s grip purpose);
    }
  where
    d : ℕ
    d = grip.slip.device.0

    told : Told
    told = grip.stage.told

    n : Reading
    n = read_of (configuration_of s)

    out : Grip
    out = record { maker = grip.slip.maker; purpose = purpose }

    after : Configuration
    after = after_back s grip.slip (entries_for s grip purpose) t

    fits : IsTrue (has_value (kind_at s.setting.kinds d) (held_back s grip))
    fits = by_death (has_died told)
      where
        by_death : (b : Bool) → IsTrue (has_value (kind_at s.setting.kinds d) (if b then held_in s d else value_after grip.task (held_in s d)))
        by_death true = kept.values d for.below
        by_death false = for.value

    by_told : (b : Bool) → has_died told ≡ b → (read_of after).up d ≡ true → (shows grip.device).stands ≡ held_back s grip
    by_told true died up = absurd (let both : true ≡ false = sym up ∙ give_down (configuration_of s) d out told for.on died in cc)
    by_told false lives up =
        subst (λ b. IfSome (if b then None else Some (value_after grip.task grip.slip.stood)) (λ v. (shows grip.device).stands ≡ v)) lives called.stands_there
        ∙ value_same grip.task grip.slip.stood (held_in s d) for.stood ∙ sym (ap (λ b. if b then held_in s d else value_after grip.task (held_in s d)) lives)

    -- what is more of this device alone
    more_other : (x k e : ℕ) → e ≢ d → x + (if d == e then k else 0) ≡ x
    more_other x k e other = ap (λ b. x + (if b then k else 0)) (ne_eqb d e (λ p. other (sym p))) ∙ sym (plus_none x)

    more_here : (x k : ℕ) → x + (if d == d then k else 0) ≡ x + k
    more_here x k = ap (λ b. x + (if b then k else 0)) (eq-eqb d d refl)

    told_here : told_calls s.setting.runs (entries_of after.history) d ≡ told_calls s.setting.runs (entries_of s.history) d + calls_told purpose told
    told_here = give_calls (configuration_of s) d d out told for.on ∙ more_here (told_calls s.setting.runs (entries_of s.history) d) (calls_told purpose told)

    falls_other : (e : ℕ) → e ≢ d → told_falls (entries_of after.history) e ≡ told_falls (entries_of s.history) e
    falls_other e other = give_falls (configuration_of s) d e out told for.on ∙ more_other (told_falls (entries_of s.history) e) (falls_of (is_up_for purpose) (has_died told)) e other

    falls_here : told_falls (entries_of after.history) d ≡ told_falls (entries_of s.history) d + falls_of (is_up_for purpose) (has_died told)
    falls_here = give_falls (configuration_of s) d d out told for.on ∙ more_here (told_falls (entries_of s.history) d) (falls_of (is_up_for purpose) (has_died told))

    fell_here : n.fell d + falls_of (is_up_for purpose) (has_died told) ≡ (read_of after).fell d
    fell_here = ap (λ k. k + falls_of (is_up_for purpose) (has_died told)) (fell_is s.setting (entries_of s.history) d) ∙ sym falls_here ∙ sym (fell_is s.setting (entries_of after.history) d)

    -- a device fails no more often than its calls do, but for the probes of one that is counted down
    falls_most : (up died : Bool) → falls_of up died ≤ (if died then 1 else 0)
    falls_most true true = omega arith
    falls_most true false = omega arith
    falls_most false true = omega arith
    falls_most false false = omega arith

    few_falls : (p : Purpose) (died : Bool) → grip.task ≡ task_of (configuration_of s) grip.slip.maker p → (if died then 1 else 0) ≤ probed grip.task + falls_of (is_up_for p) died
    few_falls (Commands k) true is = omega arith
    few_falls (Undoes v) true is = omega arith
    few_falls (Probes v) true is = let one : probed grip.task ≡ 1 = ap probed is in omega (arith, one)
    few_falls p false is = omega arith

-- The parts of the hub to which it comes back

-- what is known of the grip, and of its device
pub record IsReturned {D : Type 0} (shows : D → Shown) (h : Inside D) (why : Purpose) (grip : Gripped D Done) : Type 0 where
  pub there : IsKept h.checkouts.gate.places grip.slip grip.task
  pub purpose : (progress_at h.checkouts.known.items grip.slip.device.0).purpose ≡ why
  pub called : WasCalled grip.stage.told grip.task grip.slip (shows grip.device)

-- .. also where it is told of what the hub shows
pub grip_back : {D : Type 0} {shows : D → Shown} (h : Inside D) (s : OpenHub D) (why : Purpose) (grip : Gripped D Done) → open_of h ≡ s → IsKept s.places grip.slip grip.task → (progress_at s.devices grip.slip.device.0).purpose ≡ why
    → WasCalled grip.stage.told grip.task grip.slip (shows grip.device) → IsReturned shows h why grip
grip_back {D = D} h s why grip seen there for called =
    record {
      there = ap (λ (x : OpenHub D). slice_get x.places grip.slip.device.0) seen ∙ there;
      purpose = ap (λ (x : OpenHub D). (progress_at x.devices grip.slip.device.0).purpose) seen ∙ for;
      called = called;
    }

-- for what it was out
pub returned_for : {D : Type 0} {shows : D → Shown} (h : Inside D) (why : Purpose) (grip : Gripped D Done) → IsReturned shows h why grip → IsWhole shows h → IsFor (open_of h) grip.slip grip.task why
returned_for h why grip returned k = out_for _ (open_of h) grip.slip grip.task why k.shown returned.there returned.purpose

-- the entries that its step back makes
abbrev pub returned_entries : {D : Type 0} → OpenHub D → Gripped D Done → Purpose → List Entry
returned_entries s grip why = entries_for s grip why

-- how its device comes back, at the last moment or a later one
pub returned_comes : {D : Type 0} {shows : D → Shown} (h : Inside D) (t : ℕ) (why : Purpose) (grip : Gripped D Done) → IsReturned shows h why grip → h.moment ≤ t → IsWhole shows h
    → ComesBack shows (open_of h) grip (returned_entries (open_of h) grip why) t
returned_comes h t why grip returned later k = comes_back _ (open_of h) grip why t (returned_for h why grip returned k) returned.called later k.shown

-- its entries may be appended
pub takes_back : {D : Type 0} {shows : D → Shown} (h : Inside D) (why : Purpose) (grip : Gripped D Done) → IsReturned shows h why grip → IsWhole shows h → MayTake h.history grip.slip.maker (returned_entries (open_of h) grip why)
takes_back h why grip returned k = (returned_comes h h.moment why grip returned (omega arith) k).configuration.history.well_formed

-- it may
pub may_come : {D : Type 0} {shows : D → Shown} (h : Inside D) (s : OpenHub D) (grip : Gripped D Done) → open_of h ≡ s → IsKept s.places grip.slip grip.task → IsWhole shows h → MayComeHome h.checkouts grip
may_come {D = D} h s grip seen kept k =
    record {
      kept = there;
      known = omega (arith, for.below, k.shown.devices_size);
      maker = by_maker (is_of_run why) refl;
      few_fell = let counted = ap (λ (e : Events). e.fell) (k.shown.events d for.below) in omega (arith, counted, few, rounds);
      few_rose = let counted = ap (λ (e : Events). e.rose) (k.shown.events d for.below) in omega (arith, counted, few, rounds);
    }
  where
    d : ℕ
    d = grip.slip.device.0

    there : IsKept h.checkouts.gate.places grip.slip grip.task
    there = ap (λ (x : OpenHub D). slice_get x.places d) seen ∙ kept

    why : Purpose
    why = (progress_at h.checkouts.known.items d).purpose

    for : IsFor (open_of h) grip.slip grip.task why
    for = out_for _ (open_of h) grip.slip grip.task why k.shown there refl

    few : (read_in h.history).fell d + (read_in h.history).rose d ≤ 2 * h.rounds + 1
    few = few_events (configuration_of (open_of h)) h.rounds h.opened (held_in (open_of h)) d k.shown.configuration

    rounds : h.rounds ≤ 100
    rounds = k.shown.configuration.opens.few_rounds

    by_maker : (b : Bool) → is_of_run why ≡ b → grip.slip.maker ≤ length h.checkouts.held_tokens.items
    by_maker true of_run = let place = run_place h.history.setting.runs grip.slip.maker (for.run of_run) in omega (arith, place.0, place.1, k.held_tokens.size)
    by_maker false none = let detector : nat_lt 0 grip.slip.maker ≡ false = sym for.maker ∙ none in let zero' : grip.slip.maker ≡ 0 = grind (arith, common_steps) in omega (arith, zero')

-- the history has a place for each entry
pub returned_places : {D : Type 0} {shows : D → Shown} (h : Inside D) (why : Purpose) (grip : Gripped D Done) → IsReturned shows h why grip → IsWhole shows h → length (returned_entries (open_of h) grip why) ≤ h.history.spare
returned_places h why grip returned k =
    let entries = returned_entries (open_of h) grip why in
    let comes = returned_comes h h.moment why grip returned (omega arith) k in
    let fits : length (h.history.history ++ kept_by grip.slip.maker entries)
    ≤ most_entries (length h.history.setting.runs) (length h.history.setting.first) h.rounds = history_fits (after_back (open_of h) grip.slip entries h.moment)
    h.rounds h.opened (put (held_in (open_of h)) grip.slip.device.0 (held_back (open_of h) grip)) comes.configuration in
    let long = length_with h.history.history grip.slip.maker entries in
    omega (arith, fits, long, k.room.history)

-- the parts when it is home again: they change, but for the history and the order
pub record IsHome {D : Type 0} (h t : Inside D) (grip : Gripped D Done) : Type 0 where
  pub later : h.moment ≤ t.moment
  pub home : IsHomeAgain h.checkouts grip t.checkouts
  pub new : t ≡ record h { history = t.history; moment = t.moment; checkouts = t.checkouts; order = t.order }

-- what is known of a grip that came back, of what became of the parts, and of the entries that its step makes
pub record CameHome {D : Type 0} (shows : D → Shown) (h t : Inside D) (why : Purpose) (grip : Gripped D Done) (entries : List Entry) : Type 0 where
  pub returned : IsReturned shows h why grip
  pub parts : IsHome h t grip
  pub gives : returned_entries (open_of h) grip why ≡ entries
  pub history_is : t.history ≡ with_more h.history grip.slip.maker entries

-- the hub shows it
came_shows : {D : Type 0} {shows : D → Shown} (h t : Inside D) (why : Purpose) (grip : Gripped D Done) (entries : List Entry) → CameHome shows h t why grip entries → open_of t ≡ back (open_of h) grip entries t.moment
came_shows {D = D} h t why grip entries came =
    ap (λ (x : Inside D). open_of x) came.parts.new ∙ λ i. record {
      setting = (came.history_is i).setting;
      rounds = h.rounds;
      opened = h.opened;
      history = (came.history_is i).history;
      moment = t.moment;
      devices = came.parts.home.known i;
      places = came.parts.home.places i;
      tickets = came.parts.home.tickets i;
    }

came_within : {D : Type 0} {shows : D → Shown} (h t : Inside D) (why : Purpose) (grip : Gripped D Done) (entries : List Entry)
    → CameHome shows h t why grip entries → IsWhole shows h
    → (grip.slip.device.0 < length h.checkouts.gate.places) × (grip.slip.device.0 < length h.checkouts.known.items)
came_within h t why grip entries came k =
    let for = returned_for h why grip came.returned k in
    (omega (arith, for.below, k.shown.places_size), omega (arith, for.below, k.shown.devices_size))

-- the grips then
came_grips : {D : Type 0} {shows : D → Shown} (h t : Inside D) (why : Purpose) (grip : Gripped D Done) (entries : List Entry) → CameHome shows h t why grip entries → IsWhole shows h
    → ◌≡◌ {A = Grips} (configuration_of (open_of t)).grips (put (configuration_of (open_of h)).grips grip.slip.device.0 None)
came_grips {D = D} h t why grip entries came k =
    let within = came_within h t why grip entries came k in
    ap (λ (x : OpenHub D). (configuration_of x).grips) (came_shows h t why grip entries came)
    ∙ ap (λ (c : Configuration). c.grips) (back_configuration (open_of h) grip entries t.moment within.0 within.1)

-- what is kept is kept then, where line and table are
pub came_whole : {D : Type 0} {shows : D → Shown} (h t : Inside D) (why : Purpose) (grip : Gripped D Done) (entries : List Entry) → CameHome shows h t why grip entries
    → (IsWellFormed t.history.setting (entries_of t.history.history) → (configuration_of (open_of t)).grips ≡ put (configuration_of (open_of h)).grips
    grip.slip.device.0 None → OrderIsBeside h.rounds t.history (configuration_of (open_of t)).grips t.order.line t.order.table)
    → IsWhole shows h → IsWhole shows t
came_whole {D = D} {shows = shows} h t why grip entries came order k =
    subst (λ (x : Inside D). IsWhole shows x) (sym came.parts.new) (record {
      shown = subst (λ (x : Inside D). HubIsKept shows (open_of x)) came.parts.new shown;
      room = room;
      order = subst (λ (x : Inside D). OrderIsBeside h.rounds t.history (configuration_of (open_of x)).grips t.order.line t.order.table) came.parts.new (order shown.configuration.history.well_formed grips);
      held_tokens = subst (λ (x : Inside D). HeldTokensAre t.history.setting (configuration_of (open_of x)).grips t.checkouts.held_tokens.items) came.parts.new
          (subst (λ (w : Setting). HeldTokensAre w (configuration_of (open_of t)).grips t.checkouts.held_tokens.items) (sym (ap (λ (x : HistoryState). x.setting) came.history_is))
          (subst (λ (g : Grips). HeldTokensAre h.history.setting g t.checkouts.held_tokens.items) (sym grips) (subst (HeldTokensAre h.history.setting (put (configuration_of (open_of h)).grips d None)) (sym came.parts.home.held_tokens) held_tokens)));
    })
  where
    d : ℕ
    d = grip.slip.device.0

    for : IsFor (open_of h) grip.slip grip.task why
    for = returned_for h why grip came.returned k

    grips : ◌≡◌ {A = Grips} (configuration_of (open_of t)).grips (put (configuration_of (open_of h)).grips d None)
    grips = came_grips h t why grip entries came k

    comes : ComesBack shows (open_of h) grip entries t.moment
    comes = subst (λ es. ComesBack shows (open_of h) grip es t.moment) came.gives (returned_comes h t.moment why grip came.returned came.parts.later k)

    shown : HubIsKept shows (open_of t)
    shown = subst (λ (x : OpenHub D). HubIsKept shows x) (sym (came_shows h t why grip entries came))
        (back_kept shows (open_of h) grip entries t.moment came.returned.there (came_within h t why grip entries came k).1 comes k.shown)

    held_tokens : HeldTokensAre h.history.setting (put (configuration_of (open_of h)).grips d None) (with_hand h.checkouts.held_tokens.items grip.slip.maker None)
    held_tokens = hands_come h.history.setting (read_in h.history) (configuration_of (open_of h)).grips grip.slip.maker d why h.checkouts.held_tokens.items (λ some. for.run (for.maker ∙ some)) for.grip k.shown.configuration.grips k.held_tokens

    room : HasRoomLeft h.rounds t.history h.closing
    room = subst (λ x. HasRoomLeft h.rounds x h.closing) (sym came.history_is) (record {
      history =
          let fits : length entries ≤ h.history.spare = subst (λ es. length es ≤ h.history.spare) came.gives (returned_places h why grip came.returned k) in
          let long = length_with h.history.history grip.slip.maker entries in
          omega (arith, long, k.room.history, fits);
      order = k.room.order;
      last = k.room.last;
      world = k.room.world;
      turns = k.room.turns;
      faults = k.room.faults;
    })

-- The answer

-- a grip that is taken back
taken_in : (s : HubState) (c : Configuration) (told : Carried) (grip : Grip) (result : Told) → c.grips told.slip.device.0 ≡ Some grip
    → give_if true s c told result ≡ record { answer = Gave (give_entries c.setting (read_of c) told.slip.device.0 grip result); next = record { configuration = after_give c told.slip.device.0 grip result; carried = put s.carried told.slip.device.0 None } }
taken_in s c told grip result out = rw out refl

-- what the hub answers, and what it shows then
came_gives : {D : Type 0} {shows : D → Shown} (h t : Inside D) (why : Purpose) (grip : Gripped D Done) (entries : List Entry) → CameHome shows h t why grip entries → IsWhole shows h
    → give_if true (hub_state_of (open_of h)) (record (configuration_of (open_of h)) { moment = t.moment }) (carried_by grip) grip.stage.told ≡ record { answer = Gave entries; next = hub_state_of (open_of t) }
came_gives {D = D} h t why grip entries came k =
    let s = open_of h in
    let within = came_within h t why grip entries came k in
    taken_in (hub_state_of s) (record (configuration_of s) { moment = t.moment }) (carried_by grip) (record { maker = grip.slip.maker; purpose = why }) grip.stage.told (returned_for h why grip came.returned k).grip
    ∙ (λ i. record { answer = Gave (came.gives i); next = record { configuration = after_back s grip.slip (came.gives i) t.moment; carried = put (hub_state_of s).carried grip.slip.device.0 None } })
    ∙ ap (λ x. record { answer = Gave entries; next = x }) (sym (ap (λ (x : OpenHub D). hub_state_of x) (came_shows h t why grip entries came) ∙ back_state s grip entries t.moment within.0 within.1))

-- in the same window
came_window : {D : Type 0} {shows : D → Shown} (h t : Inside D) (why : Purpose) (grip : Gripped D Done) (entries : List Entry) → CameHome shows h t why grip entries → IsWhole shows h → SameWindow (open_of h) (open_of t)
came_window {D = D} h t why grip entries came k =
    subst (λ (x : OpenHub D). SameWindow (open_of h) x) (sym (came_shows h t why grip entries came)) (record {
      setting = refl;
      rounds = refl;
      opened = refl;
      at_opening = known_same (λ (p : DeviceProgress). p.at_opening) h.checkouts.known.items grip.slip.device.0 (known_after grip.task grip.stage.told (progress_at h.checkouts.known.items grip.slip.device.0)) (came_within h t why grip entries came k).1 refl;
    })

-- the grip of a run is given
pub record CameBack {D : Type 0} (s t : OpenHub D) (grip : Gripped D Done) (m : ℕ) (made : List Entry) : Type 0 where
  pub given : IsGiven s grip m (Ok made) t
  pub window : SameWindow s t

pub back_given : {D : Type 0} {shows : D → Shown} (h t : Inside D) (s₀ : OpenHub D) (m : ℕ) (why : Purpose)
    (grip : Gripped D Done) (entries : List Entry) (made : List Entry) → open_of h ≡ s₀ → 0 < grip.slip.maker → t.moment ≡ max h.moment m
    → CameHome shows h t why grip entries → made ≡ entries
    → IsWhole shows h → CameBack s₀ (open_of t) grip m made
back_given {D = D} h t s₀ m why grip entries made seen maker moment_is came made_is k =
    subst (λ (x : OpenHub D). CameBack x (open_of t) grip m made) seen (record {
      given = (
        (ap (λ x. Returned (Gave x)) made_is ∙ ap (λ (x : RunGiven). Returned x.answer) (sym gives), ap (λ (x : RunGiven). x.next) (sym gives)),
        came.parts.home.places,
        came.parts.home.tickets,
      );
      window = came_window h t why grip entries came k;
    })
  where
    s : OpenHub D
    s = open_of h

    gives : give (hub_state_of s) (carried_by grip) grip.stage.told m ≡ record { answer = Gave entries; next = hub_state_of (open_of t) }
    gives =
        ap (λ b. give_if (b && nat_lt 0 grip.slip.maker) (hub_state_of s) (at_moment (configuration_of s) m) (carried_by grip) grip.stage.told) (kept_is s grip.slip grip.task came.returned.there)
        ∙ ap (λ b. give_if (true && b) (hub_state_of s) (at_moment (configuration_of s) m) (carried_by grip) grip.stage.told) (lt-ltb 0 grip.slip.maker maker)
        ∙ ap (λ x. give_if true (hub_state_of s) (record (configuration_of s) { moment = x }) (carried_by grip) grip.stage.told) (sym moment_is)
        ∙ came_gives h t why grip entries came k

-- the grip of the detector is given
pub record ProbeBack {D : Type 0} (s t : OpenHub D) (grip : Gripped D Done) (made : List Entry) : Type 0 where
  pub given : IsProbeGiven s grip (Ok made) t
  pub window : SameWindow s t

pub probe_given : {D : Type 0} {shows : D → Shown} (h t : Inside D) (s₀ : OpenHub D) (why : Purpose) (grip : Gripped D Done)
    (entries : List Entry) (made : List Entry) → open_of h ≡ s₀ → grip.slip.maker ≡ 0 → t.moment ≡ h.moment
    → CameHome shows h t why grip entries → made ≡ entries
    → IsWhole shows h → ProbeBack s₀ (open_of t) grip made
probe_given {D = D} h t s₀ why grip entries made seen maker moment_is came made_is k =
    subst (λ (x : OpenHub D). ProbeBack x (open_of t) grip made) seen (record {
      given = (
        (ap (λ x. Returned (Gave x)) made_is ∙ ap (λ (x : RunGiven). Returned x.answer) (sym gives), ap (λ (x : RunGiven). x.next) (sym gives)),
        came.parts.home.places,
        came.parts.home.tickets,
      );
      window = came_window h t why grip entries came k;
    })
  where
    s : OpenHub D
    s = open_of h

    gives : give_probe (hub_state_of s) (carried_by grip) grip.stage.told ≡ record { answer = Gave entries; next = hub_state_of (open_of t) }
    gives =
        ap (λ b. give_if (b && (grip.slip.maker == 0)) (hub_state_of s) (configuration_of s) (carried_by grip) grip.stage.told) (kept_is s grip.slip grip.task came.returned.there)
        ∙ ap (λ b. give_if (true && b) (hub_state_of s) (configuration_of s) (carried_by grip) grip.stage.told) (eq-eqb grip.slip.maker 0 maker)
        ∙ ap (λ x. give_if true (hub_state_of s) (record (configuration_of s) { moment = x }) (carried_by grip) grip.stage.told) (sym moment_is)
        ∙ came_gives h t why grip entries came k
