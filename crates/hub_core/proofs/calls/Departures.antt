-- A device that goes out keeps what the type of a hub keeps, for whom it goes.
use Rattle.hub_core.proofs.Prelude.{Bool, Configuration, CountsAreLow, DeviceNo, DeviceProgress, FitsAtHome, FitsOut, Grip, Gripped, Grips, HeldTokensAre, Home, HubIsKept, Inside, IsHome, IsKeptByModel, IsNextGrip, IsSent, IsTrue, IsWhole, Kept, List, MayBeProbed, None, OpenHub, Option, OrderIsBeside, Out, Place, Purpose, SameWindow, Setting, Shown, Slip, Some, Task, [], all_probes_taken, ap, ap₂, arith, carrying, cond, configuration_of, count_by, count_by-le-length, count_cons, device_here, device_no, device_there, entries_of, false, get_set, grip_in, grips_set, has_value, held_in, hub_state_of, inl, inr, is_away, is_fall_of, is_out, is_some, kind_at, known_same, known_set, length, length-set, nat_lt, no_device, open_of, option_copied, probed, probes_of, progress_at, put, read_of, refl, same_Some, slice_get, slice_get_within, slice_set, subst, suc, sum_by, sum_by-le, sum_by-set, sym, task_of, tells_call, told_calls, told_falls, true, zero, ℕ, ⊤, ◌*◌, ◌+◌, ◌-◌, ◌<◌, ◌∙◌, ◌∷◌, ◌≡◌, ◌≤◌}
use Rattle.device_gate.specs.declared.grips.Ready.{Ready}
use Rattle.std.specs.Borrow.{Bor}
use Rattle.hub_core.proofs.calls.HubChanges.{few_entries, task_same}
use Rattle.hub_core.proofs.calls.HubStates.{carried_set}
use Rattle.std.proofs.lemmas.Nat.{mul-le}

-- one where it is so, else none
abbrev pub one_for : Bool → ℕ
one_for b = cond b 1 0

pub gone_past : {A : Type 0} (xs : List A) (i : ℕ) → slice_get xs i ≡ None → length xs ≤ i
gone_past [] i none = omega arith
gone_past (x ∷ xs) zero none = absurd (cc)
gone_past (x ∷ xs) (suc i) none = omega (arith, gone_past xs i none)

-- a device that is not out is home
pub home_place : {D : Type 0} (s : OpenHub D) (d : ℕ) → d < length s.places → is_out (configuration_of s).grips d ≡ false → IsHome s.places d
home_place {D = D} s d within home = by_place (slice_get s.places d) refl home
  where
    by_place : (o : Option (Place D)) → slice_get s.places d ≡ o → is_some (grip_in o (progress_at s.devices d).purpose) ≡ false → IsHome s.places d
    by_place None at is = absurd (omega (arith, within, gone_past s.places d at))
    by_place (Some (Home device)) at is = (device, at)
    by_place (Some (Out slip task)) at is = absurd (cc)

-- so often a device may still be called
pub has_room : {D : Type 0} (shows : D → Shown) (s : OpenHub D) (d : ℕ) (device : D) → HubIsKept shows s → slice_get s.places d ≡ Some (Home device) → MayBeProbed (shows device)
has_room shows s d device k at =
    let fits = k.home d device at in
    let windows : s.opened < 2147483648 = k.configuration.opens.few_windows in
    let rounds : s.rounds ≤ 100 = k.configuration.opens.few_rounds in
    let few = few_entries shows s k in
    let falls : told_falls (entries_of s.history) d ≤ length s.history = falls_most s.history d in
    let calls : told_calls s.setting.runs (entries_of s.history) d ≤ length s.history = told_most s.setting s.history d in
    let had_turns : (progress_at s.devices d).at_opening.turns ≤ s.opened * 131072 + 1 = (k.low d).few_turns in
    let had_probes : (progress_at s.devices d).at_opening.probes ≤ s.opened * 131072 + 1 = (k.low d).few_probes in
    let had_faults : (progress_at s.devices d).at_opening.faults ≤ s.opened * 131072 + 1 = (k.low d).few_faults in
    (omega (arith, fits.turns_are, windows, few, calls, had_turns), omega (arith, fits.probes_are, windows, rounds, had_probes), omega (arith, fits.few_faults, windows, rounds, few, falls, had_faults))
  where
    length_entries : (h : List Kept) → length (entries_of h) ≡ length h
    length_entries [] = refl
    length_entries (e ∷ h) = ap suc (length_entries h)

    falls_most : (h : List Kept) (e : ℕ) → told_falls (entries_of h) e ≤ length h
    falls_most h e = let most : told_falls (entries_of h) e ≤ length (entries_of h) = count_by-le-length (is_fall_of e) (entries_of h) in omega (arith, most, length_entries h)

    told_most : (w : Setting) (h : List Kept) (e : ℕ) → told_calls w.runs (entries_of h) e ≤ length h
    told_most w h e = let most : told_calls w.runs (entries_of h) e ≤ length (entries_of h) = count_by-le-length (tells_call w.runs e) (entries_of h) in omega (arith, most, length_entries h)

pub few_tickets : {D : Type 0} (shows : D → Shown) (s : OpenHub D) → HubIsKept shows s → s.tickets < 9223372036854775808
few_tickets shows s k =
    let few = few_entries shows s k in
    let tickets : s.tickets ≤ length s.history + count_by is_away s.places + all_probes_taken s = k.few_tickets in
    let away : count_by is_away s.places ≤ length s.places = count_by-le-length is_away s.places in
    let taken : all_probes_taken s ≤ length s.devices * s.rounds = sum_by-le (λ (p : DeviceProgress). s.rounds - p.probes_left) s.rounds s.devices (λ i p within. omega arith) in
    let devices : length s.setting.first ≤ 256 = k.configuration.opens.few_devices in
    let most : length s.devices * s.rounds ≤ 256 * 100 = mul-le (length s.devices) s.rounds 256 100 (omega (arith, devices, k.devices_size)) k.configuration.opens.few_rounds in
    omega (arith, few, tickets, away, devices, taken, most, k.places_size)

-- What is kept of another device

pub other_home : {D : Type 0} (shows : D → Shown) (s : OpenHub D) (x : List Kept) (m : ℕ) (v : List DeviceProgress) (u : List (Place D)) (k e : ℕ) (device : D)
    → progress_at v e ≡ progress_at s.devices e
    → told_calls s.setting.runs (entries_of x) e ≡ told_calls s.setting.runs (entries_of s.history) e
    → told_falls (entries_of x) e ≡ told_falls (entries_of s.history) e
    → (read_of (configuration_of (record s { history = x; moment = m; devices = v; places = u; tickets = k }))).up e ≡ (read_of (configuration_of s)).up e
    → FitsAtHome shows s e device → FitsAtHome shows (record s { history = x; moment = m; devices = v; places = u; tickets = k }) e device
other_home shows s x m v u k e device known told falls up' fits =
    record {
      stand = λ up. fits.stand (sym up' ∙ up) ∙ ap (λ (p : DeviceProgress). p.held) (sym known);
      turns_are = fits.turns_are ∙ ap₂ (λ (p : DeviceProgress) n. p.at_opening.turns + n) (sym known) (sym told);
      probes_are = fits.probes_are ∙ ap (λ (p : DeviceProgress). p.at_opening.probes + (s.rounds - p.probes_left)) (sym known);
      falls_told = subst (λ (p : DeviceProgress). p.at_opening.faults + told_falls (entries_of x) e ≤ (shows device).faults) (sym known) (omega (arith, fits.falls_told, falls));
      few_faults = subst (λ (p : DeviceProgress). (shows device).faults ≤ p.at_opening.faults + told_falls (entries_of x) e + (s.rounds - p.probes_left)) (sym known) (omega (arith, fits.few_faults, falls));
    }

pub other_out : {D : Type 0} (s : OpenHub D) (x : List Kept) (m : ℕ) (v : List DeviceProgress) (u : List (Place D)) (k e : ℕ) (slip : Slip) (task : Task)
    → progress_at v e ≡ progress_at s.devices e
    → told_calls s.setting.runs (entries_of x) e ≡ told_calls s.setting.runs (entries_of s.history) e
    → told_falls (entries_of x) e ≡ told_falls (entries_of s.history) e
    → ((read_of (configuration_of s)).run slip.maker).register ≡ ((read_of (configuration_of (record s { history = x; moment = m; devices = v; places = u; tickets = k }))).run slip.maker).register
    → FitsOut s e slip task → FitsOut (record s { history = x; moment = m; devices = v; places = u; tickets = k }) e slip task
other_out s x m v u k e slip task known told falls register fits =
    record {
      device = fits.device;
      stand = λ up. fits.stand up ∙ ap (λ (p : DeviceProgress). p.held) (sym known);
      turns_are = fits.turns_are ∙ ap₂ (λ (p : DeviceProgress) n. p.at_opening.turns + n) (sym known) (sym told);
      probes_are = fits.probes_are ∙ ap (λ (p : DeviceProgress). p.at_opening.probes + (s.rounds - p.probes_left)) (sym known);
      falls_told = subst (λ (p : DeviceProgress). p.at_opening.faults + told_falls (entries_of x) e ≤ slip.faults) (sym known) (omega (arith, fits.falls_told, falls));
      few_faults = subst (λ (p : DeviceProgress). slip.faults + probed task ≤ p.at_opening.faults + told_falls (entries_of x) e + (s.rounds - p.probes_left)) (sym known) (omega (arith, fits.few_faults, falls));
      does = fits.does ∙ task_same (configuration_of s) (configuration_of (record s { history = x; moment = m; devices = v; places = u; tickets = k })) slip.maker (progress_at s.devices e).purpose refl register
          ∙ ap (λ (p : DeviceProgress). task_of (configuration_of (record s { history = x; moment = m; devices = v; places = u; tickets = k })) slip.maker p.purpose) (sym known);
    }

-- how many are out for a run when one goes out
count_gone : {D : Type 0} (places : List (Place D)) (d : ℕ) (device : D) (slip : Slip) (task : Task) → slice_get places d ≡ Some (Home device) → count_by is_away (slice_set places d (Out slip task)) ≡ count_by is_away places + one_for (nat_lt 0 slip.maker)
count_gone [] d device slip task at = absurd (cc)
count_gone (Home x ∷ places) zero device slip task at =
    let now = count_cons is_away (Out slip task) places in
    let before = count_cons is_away (Home x) places in
    omega (arith, now, before)
count_gone (Out x y ∷ places) zero device slip task at = absurd (cc)
count_gone (p ∷ places) (suc d) device slip task at =
    let now = count_cons is_away p (slice_set places d (Out slip task)) in
    let before = count_cons is_away p places in
    let rest = count_gone places d device slip task at in
    omega (arith, now, before, rest)

-- how many probes were taken of all devices when one has another number left
taken_of : (rounds : ℕ) (devices : List DeviceProgress) (d : ℕ) (x : DeviceProgress) → d < length devices
    → sum_by (λ (p : DeviceProgress). rounds - p.probes_left) (slice_set devices d x) + (rounds - (progress_at devices d).probes_left) ≡ sum_by (λ (p : DeviceProgress). rounds - p.probes_left) devices + (rounds - x.probes_left)
taken_of rounds devices d x within = let both = sum_by-set (λ (p : DeviceProgress). rounds - p.probes_left) devices d x no_device within in omega (arith, both)

-- as many were taken where as many are left
pub taken_same : (rounds : ℕ) (devices : List DeviceProgress) (d : ℕ) (x : DeviceProgress) → x.probes_left ≡ (progress_at devices d).probes_left → d < length devices
    → sum_by (λ (p : DeviceProgress). rounds - p.probes_left) (slice_set devices d x) ≡ sum_by (λ (p : DeviceProgress). rounds - p.probes_left) devices
taken_same rounds devices d x same within =
    let both = taken_of rounds devices d x within in
    let left = ap (λ n. rounds - n) same in
    omega (arith, both, left)

-- The device goes out

-- for this purpose, with so many of its probes left
abbrev pub gone : {D : Type 0} → OpenHub D → ℕ → Purpose → ℕ → Slip → Task → ℕ → OpenHub D
gone s d purpose left slip task t =
    record s {
      history = s.history;
      moment = t;
      devices = slice_set s.devices d (record (progress_at s.devices d) { purpose = purpose; probes_left = left });
      places = slice_set s.places d (Out slip task);
      tickets = s.tickets + 1;
    }

-- its slip is for the maker, and says how it is; a probe is one of those that were left, and a run's device is counted as one that is out
pub record IsLeaving {D : Type 0} (shows : D → Shown) (s : OpenHub D) (r d : ℕ) (purpose : Purpose) (left : ℕ) (device : D) (slip : Slip) (task : Task) : Type 0 where
  pub number : slip.device.0 ≡ d
  pub maker : slip.maker ≡ r
  pub stood : slip.stood ≡ held_in s d
  pub had_turns : slip.turns ≡ (shows device).turns
  pub had_probes : slip.probes ≡ (shows device).probes
  pub had_faults : slip.faults ≡ (shows device).faults
  pub does : task ≡ task_of (configuration_of s) r purpose
  pub probed_so : left + probed task ≡ (progress_at s.devices d).probes_left
  pub ticket : 1 ≤ one_for (nat_lt 0 r) + probed task

pub gone_configuration : {D : Type 0} (s : OpenHub D) (r d left t : ℕ) (purpose : Purpose) (slip : Slip) (task : Task) → slip.maker ≡ r → d < length s.places → d < length s.devices
    → configuration_of (gone s d purpose left slip task t) ≡ record (configuration_of s) { moment = t; probes = put (configuration_of s).probes d left; grips = put (configuration_of s).grips d (Some (record { maker = r; purpose = purpose })) }
gone_configuration s r d left t purpose slip task maker within known =
    let known_now = record (progress_at s.devices d) { purpose = purpose; probes_left = left } in
    let probes : ◌≡◌ {A = ℕ → ℕ} (λ e. (progress_at (slice_set s.devices d known_now) e).probes_left) (put (configuration_of s).probes d left) = known_set (λ (p : DeviceProgress). p.probes_left) s.devices d known_now known in
    let grips : ◌≡◌ {A = ℕ → Option Grip} (λ e. grip_in (slice_get (slice_set s.places d (Out slip task)) e) (progress_at (slice_set s.devices d known_now) e).purpose) (put (configuration_of s).grips d (Some (record { maker = r; purpose = purpose }))) =
    grips_set s.places s.devices d (Out slip task) known_now within known ∙ ap (λ q. put (configuration_of s).grips d (Some (record { maker = q; purpose = purpose }))) maker in
    λ i. record { setting = s.setting; history = s.history; moment = t; probes = probes i; grips = grips i }

pub gone_kept : {D : Type 0} (shows : D → Shown) (s : OpenHub D) (r d left t : ℕ) (purpose : Purpose) (device : D) (slip : Slip) (task : Task)
    → slice_get s.places d ≡ Some (Home device) → IsLeaving shows s r d purpose left device slip task → IsKeptByModel (configuration_of (gone s d purpose left slip task t)) s.rounds s.opened (held_in s)
    → HubIsKept shows s → HubIsKept shows (gone s d purpose left slip task t)
gone_kept {D = D} shows s r d left t purpose device slip task at leaves configuration k =
    record {
      configuration = subst (λ h. IsKeptByModel (configuration_of after) s.rounds s.opened h) held configuration;
      devices_size = length-set s.devices d known_now ∙ k.devices_size;
      places_size = length-set s.places d (Out slip task) ∙ k.places_size;
      home = λ e other there. elim (get_set s.places d e (Out slip task) within) [
        | inl p ↦ absurd (let both : Some (Out slip task) ≡ Some (Home other) = sym p.1 ∙ there in cc)
        | inr q ↦ other_home shows s s.history t _ _ _ e other (device_there s.devices d e known_now q.0) refl refl refl (k.home e other (sym q.1 ∙ there))
      ];
      out = λ e other does there. elim (get_set s.places d e (Out slip task) within) [
        | inl p ↦ subst (λ (x : Place D). IsFitting e x) (same_Some (Out slip task) (Out other does) (sym p.1 ∙ there)) (subst (λ x. IsFitting x (Out slip task)) (sym p.0) goes)
        | inr q ↦ other_out s s.history t _ _ _ e other does (device_there s.devices d e known_now q.0) refl refl refl (k.out e other does (sym q.1 ∙ there))
      ];
      low = λ e. subst (λ (c : _). CountsAreLow s.opened c.turns c.probes c.faults) (sym (known_same (λ (p : DeviceProgress). p.at_opening) s.devices d known_now known refl e)) (k.low e);
      values = λ e home. subst (λ v. IsTrue (has_value (kind_at s.setting.kinds e) v)) (sym (known_same (λ (p : DeviceProgress). p.held) s.devices d known_now known refl e)) (k.values e home);
      events = λ e below. known_same (λ (p : DeviceProgress). p.events) s.devices d known_now known refl e ∙ k.events e below;
      few_tickets =
          let few : s.tickets ≤ length s.history + count_by is_away s.places + all_probes_taken s = k.few_tickets in
          let more : count_by is_away after.places ≡ count_by is_away s.places + one_for (nat_lt 0 r) = count_gone s.places d device slip task at ∙ ap (λ q. count_by is_away s.places + one_for (nat_lt 0 q)) leaves.maker in
          let taken : all_probes_taken after + (s.rounds - (progress_at s.devices d).probes_left) ≡ all_probes_taken s + (s.rounds - left) = taken_of s.rounds s.devices d known_now known in
          omega (arith, few, more, taken, leaves.probed_so, few_left, leaves.ticket);
    }
  where
    known_now : DeviceProgress
    known_now = record (progress_at s.devices d) { purpose = purpose; probes_left = left }

    after : OpenHub D
    after = gone s d purpose left slip task t

    within : d < length s.places
    within = slice_get_within s.places d (Home device) at

    known : d < length s.devices
    known = omega (arith, within, k.places_size, k.devices_size)

    held : ◌≡◌ {A = ℕ → ℕ} (held_in s) (held_in after)
    held = sym (λ i e. known_same (λ (p : DeviceProgress). p.held) s.devices d known_now known refl e i)

    few_left : (progress_at s.devices d).probes_left ≤ s.rounds
    few_left = let most : probes_of (configuration_of s) d ≤ s.rounds = k.configuration.probes d in omega (arith, most)

    IsFitting : ℕ → Place D → Type 0
    IsFitting e (Home x) = ⊤
    IsFitting e (Out x y) = FitsOut after e x y

    goes : FitsOut after d slip task
    goes =
        let fits = k.home d device at in
        let here = device_here s.devices d known_now known in
        record {
          device = leaves.number;
          stand = λ up. leaves.stood ∙ ap (λ (p : DeviceProgress). p.held) (sym here);
          turns_are = leaves.had_turns ∙ fits.turns_are ∙ ap (λ (p : DeviceProgress). p.at_opening.turns + told_calls s.setting.runs (entries_of s.history) d) (sym here);
          probes_are =
              let had : slip.probes ≡ (progress_at s.devices d).at_opening.probes + (s.rounds - (progress_at s.devices d).probes_left) = leaves.had_probes ∙ fits.probes_are in
              let now : slip.probes + probed task ≡ (progress_at s.devices d).at_opening.probes + (s.rounds - left) = omega (arith, had, leaves.probed_so, few_left) in
              now ∙ ap (λ (p : DeviceProgress). p.at_opening.probes + (s.rounds - p.probes_left)) (sym here);
          falls_told = subst (λ (p : DeviceProgress). p.at_opening.faults + told_falls (entries_of s.history) d ≤ slip.faults) (sym here) (omega (arith, fits.falls_told, leaves.had_faults));
          few_faults = subst (λ (p : DeviceProgress). slip.faults + probed task ≤ p.at_opening.faults + told_falls (entries_of s.history) d + (s.rounds - p.probes_left)) (sym here)
              (let few : (shows device).faults ≤ (progress_at s.devices d).at_opening.faults + told_falls (entries_of s.history) d + (s.rounds - (progress_at s.devices d).probes_left) = fits.few_faults in
              omega (arith, few, leaves.had_faults, leaves.probed_so, few_left));
          does = leaves.does ∙ task_same (configuration_of s) (configuration_of after) r purpose refl refl
              ∙ ap₂ (λ q (p : DeviceProgress). task_of (configuration_of after) q p.purpose) (sym leaves.maker) (sym here);
        }

-- what a list has at a place is some
pub is_there : {A : Type 0} (xs : List A) (i : ℕ) (o : Option (Bor A)) → i < length xs → option_copied o ≡ slice_get xs i → is_some o ≡ true
is_there xs i None less is = absurd (omega (arith, less, gone_past xs i (sym is)))
is_there xs i (Some x) less is = refl

-- as the hub is seen
pub gone_carries : {D : Type 0} (s : OpenHub D) (r d left t : ℕ) (purpose : Purpose) (slip : Slip) (task : Task) → task ≡ task_of (configuration_of s) r purpose → d < length s.places
    → (hub_state_of (gone s d purpose left slip task t)).carried ≡ carrying (hub_state_of s) r d purpose slip
gone_carries s r d left t purpose slip task does within = carried_set s.places d (Out slip task) within ∙ ap (λ x. put (hub_state_of s).carried d (Some (record { slip = slip; task = x }))) does

-- The parts of the hub from which it goes out

-- the device is sent to the maker, for this purpose and task, and so many of its probes are left: so the parts change, but for the history
pub record IsGone {D : Type 0} (shows : D → Shown) (h t : Inside D) (r d : ℕ) (purpose : Purpose) (left : ℕ) (task : Task) (grip : Gripped D Ready) : Type 0 where
  pub sent : IsSent shows h.checkouts (device_no d) r (record (progress_at h.checkouts.known.items d) { purpose = purpose; probes_left = left }) task grip t.checkouts
  pub does : task ≡ task_of (configuration_of (open_of h)) r purpose
  pub probed_so : left + probed task ≡ (progress_at h.checkouts.known.items d).probes_left
  pub ticket : 1 ≤ one_for (nat_lt 0 r) + probed task
  pub new : t ≡ record h { moment = t.moment; checkouts = t.checkouts; order = t.order }

-- the device is one of the home
pub gone_within : {D : Type 0} {shows : D → Shown} (h t : Inside D) (r d : ℕ) (purpose : Purpose) (left : ℕ) (task : Task)
    (grip : Gripped D Ready) → IsGone shows h t r d purpose left task grip → IsWhole shows h
    → (d < length h.checkouts.gate.places) × (d < length h.checkouts.known.items)
gone_within h t r d purpose left task grip is k =
    let within = slice_get_within h.checkouts.gate.places d (Home grip.device) is.sent.at in
    (within, omega (arith, within, k.shown.devices_size, k.shown.places_size))

gone_leaves : {D : Type 0} {shows : D → Shown} (h t : Inside D) (r d : ℕ) (purpose : Purpose) (left : ℕ) (task : Task) (grip : Gripped D Ready)
    → IsGone shows h t r d purpose left task grip → IsLeaving shows (open_of h) r d purpose left grip.device grip.slip task
gone_leaves h t r d purpose left task grip is = record {
  number = ap (λ (x : DeviceNo). x.0) is.sent.device;
  maker = is.sent.maker_is;
  stood = is.sent.stood;
  had_turns = is.sent.had_turns;
  had_probes = is.sent.had_probes;
  had_faults = is.sent.had_faults;
  does = is.does;
  probed_so = is.probed_so;
  ticket = is.ticket;
}

-- the hub shows it
pub gone_shows : {D : Type 0} {shows : D → Shown} (h t : Inside D) (r d : ℕ) (purpose : Purpose) (left : ℕ) (task : Task) (grip : Gripped D Ready) → IsGone shows h t r d purpose left task grip → open_of t ≡ gone (open_of h) d purpose left grip.slip task t.moment
gone_shows {D = D} h t r d purpose left task grip is =
    ap (λ (x : Inside D). open_of x) is.new ∙ λ i. record (open_of h) { moment = t.moment; devices = is.sent.known_is i; places = is.sent.places i; tickets = is.sent.tickets i }

-- .. and its grips
pub gone_grips : {D : Type 0} {shows : D → Shown} (h t : Inside D) (r d : ℕ) (purpose : Purpose) (left : ℕ) (task : Task) (grip : Gripped D Ready) → IsGone shows h t r d purpose left task grip → IsWhole shows h
    → ◌≡◌ {A = Grips} (configuration_of (open_of t)).grips (put (configuration_of (open_of h)).grips d (Some (record { maker = r; purpose = purpose })))
gone_grips {D = D} h t r d purpose left task grip is k =
    let within = gone_within h t r d purpose left task grip is k in
    ap (λ (x : OpenHub D). (configuration_of x).grips) (gone_shows h t r d purpose left task grip is)
    ∙ ap (λ (c : Configuration). c.grips) (gone_configuration (open_of h) r d left t.moment purpose grip.slip task is.sent.maker_is within.0 within.1)

-- what is kept is kept then, where configuration, line, table and held tokens are
pub gone_whole : {D : Type 0} {shows : D → Shown} (h t : Inside D) (r d : ℕ) (purpose : Purpose) (left : ℕ) (task : Task)
    (grip : Gripped D Ready) → IsGone shows h t r d purpose left task grip
    → IsKeptByModel (configuration_of (open_of t)) h.rounds h.opened (held_in (open_of h))
    → OrderIsBeside h.rounds h.history (configuration_of (open_of t)).grips t.order.line t.order.table → HeldTokensAre h.history.setting (configuration_of (open_of t)).grips t.checkouts.held_tokens.items → IsWhole shows h → IsWhole shows t
gone_whole {D = D} {shows = shows} h t r d purpose left task grip is configuration order held_tokens k =
    subst (λ (x : Inside D). IsWhole shows x) (sym is.new) (record {
      shown = subst (λ (x : Inside D). HubIsKept shows (open_of x)) is.new (subst (λ (x : OpenHub D). HubIsKept shows x) (sym seen)
          (gone_kept shows (open_of h) r d left t.moment purpose grip.device grip.slip task is.sent.at (gone_leaves h t r d purpose left task grip is)
          (subst (λ (x : OpenHub D). IsKeptByModel (configuration_of x) h.rounds h.opened (held_in (open_of h))) seen configuration) k.shown));
      room = k.room;
      order = subst (λ (x : Inside D). OrderIsBeside h.rounds h.history (configuration_of (open_of x)).grips t.order.line t.order.table) is.new order;
      held_tokens = subst (λ (x : Inside D). HeldTokensAre h.history.setting (configuration_of (open_of x)).grips t.checkouts.held_tokens.items) is.new held_tokens;
    })
  where
    seen : open_of t ≡ gone (open_of h) d purpose left grip.slip task t.moment
    seen = gone_shows h t r d purpose left task grip is

-- in the same window
pub gone_window : {D : Type 0} {shows : D → Shown} (h t : Inside D) (r d : ℕ) (purpose : Purpose) (left : ℕ) (task : Task)
    (grip : Gripped D Ready) → IsGone shows h t r d purpose left task grip → IsWhole shows h
    → SameWindow (open_of h) (open_of t)
gone_window {D = D} h t r d purpose left task grip is k =
    subst (λ (x : OpenHub D). SameWindow (open_of h) x) (sym (gone_shows h t r d purpose left task grip is)) (record {
      setting = refl;
      rounds = refl;
      opened = refl;
      at_opening = known_same (λ (p : DeviceProgress). p.at_opening) h.checkouts.known.items d (record (progress_at h.checkouts.known.items d) { purpose = purpose; probes_left = left }) (gone_within h t r d purpose left task grip is k).1 refl;
    })

-- its grip is the next one
pub gone_next : {D : Type 0} {shows : D → Shown} (h t : Inside D) (r d : ℕ) (purpose : Purpose) (left : ℕ) (task : Task) (grip : Gripped D Ready) → IsGone shows h t r d purpose left task grip → IsNextGrip (open_of h) grip (open_of t)
gone_next h t r d purpose left task grip is = record {
  ticket = is.sent.ticket;
  tickets = is.sent.tickets;
  stood = is.sent.stood ∙ ap (λ (x : DeviceNo). held_in (open_of h) x.0) (sym is.sent.device);
}
