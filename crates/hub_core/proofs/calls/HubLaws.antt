-- What holds of every hub, from what its type keeps.
use Rattle.hub_core.proofs.Prelude.{AllHome, Bool, Commands, Configuration, DeviceNo, DeviceProgress, Home, HubIsKept, HubStands, IfNone, IfSome, IsBounded, IsFirstOut, IsTrue, List, None, OpenHub, Option, Out, Place, Purpose, Shown, Slip, Some, SomeRunMoves, Task, Waits, [], ap, arith, commands_of, common_steps, configuration_of, device_no, device_numbers, entries_of, false, find, find_first, find_none, grip_in, held_in, if◌then◌else◌, is_device, is_none, is_out, is_run, is_some, is_wait, length, nat_lt, next_of, not_quiet, opened, option_map, option_or, order_stands, progress_at, read_facts, read_of, refl, run_no, run_numbers, same_Some, shapes, slice_get, slice_get_within, slip_of, subst, suc, sym, true, zero, ℕ, ◌+◌, ◌<◌, ◌↔◌, ◌∙◌, ◌∷◌, ◌≡◌, ◌≤◌}
use Rattle.hub_core.proofs.weak.WeakChoices.{weak_moves}
use Rattle.hub_core.proofs.kept.KeptByModel.{by_model, stands_at_home}
use Rattle.hub_core.proofs.calls.HubChanges.{few_entries}
use Rattle.hub_core.proofs.kept.ReturnsKept.{out_is}
use Rattle.hub_core.proofs.windows.Progress.{some_run_moves}
use Rattle.hub_core.proofs.kept.EndedOnce.{dooms_fit, ends_fit}
use Rattle.hub_core.proofs.kept.Sizes.{history_fits, line_fits}
use Rattle.hub_core.proofs.steps.Takes.{live_run}
use Rattle.hub_core.specs.declared.refusals.NotQuiet.TheVariants.{StillLive, StillOut}

pub kept_at : {D : Type 0} (shows : D → Shown) (s t : OpenHub D) → s ≡ t → HubIsKept shows s → HubIsKept shows t
kept_at {D = D} shows s t same k = subst (λ (x : OpenHub D). HubIsKept shows x) same k

pub bounded_hub : {D : Type 0} (shows : D → Shown) (s : OpenHub D) → HubIsKept shows s → IsBounded s
bounded_hub shows s k = record {
  history = history_fits (configuration_of s) s.rounds s.opened (held_in s) k.configuration;
  few_entries = few_entries shows s k;
  ends = ends_fit s.setting (entries_of s.history) k.configuration.history.well_formed;
  dooms = dooms_fit s.setting (entries_of s.history) k.configuration.history.well_formed;
  line = line_fits (configuration_of s) s.rounds s.opened (held_in s) k.configuration;
}

pub moves_hub : {D : Type 0} (shows : D → Shown) (s : OpenHub D) → HubIsKept shows s → SomeRunMoves (configuration_of s)
moves_hub shows s k = by_model (SomeRunMoves (configuration_of s)) (configuration_of s) s.rounds s.opened (held_in s) k.configuration
    (λ c r run going home.
    let moves = some_run_moves (configuration_of s) s.rounds s.opened (held_in s) r c home run going in
    (moves.0, moves.1, moves.2, λ m why waits. absurd (let wait : is_wait (Waits why) ≡ false = ap is_wait (sym waits) ∙ moves.3 m in cc)))
    (λ c. weak_moves (configuration_of s) s.rounds s.opened (held_in s) c)

-- a device that has a place is one of the home
device_has : {D : Type 0} (s : OpenHub D) (d : ℕ) (place : Place D) → length s.places ≡ length s.setting.first → slice_get s.places d ≡ Some place → is_device s.setting d ≡ true
device_has s d place size at = let within : d < length s.setting.first = omega (arith, slice_get_within s.places d place at, size) in grind (arith, common_steps, within)

pub stands_hub : {D : Type 0} (shows : D → Shown) (s : OpenHub D) → ((d : ℕ) (device : D) → slice_get s.places d ≡ Some (Home device) → (shows device).tag ≡ d) → HubIsKept shows s → HubStands shows s
stands_hub {D = D} shows s numbered k =
    let c = k.configuration in
    let read = read_facts s.setting (entries_of s.history) c.history.well_formed in
    record {
      size = k.places_size;
      numbered = numbered;
      few_runs = c.opens.few_runs;
      few_devices = c.opens.few_devices;
      well_formed = c.history.well_formed;
      grips = c.grips;
      order = λ strong. order_stands s.setting (read_of (configuration_of s)) (configuration_of s).grips (held_in s) read (c.ordered strong).order;
      clean = λ strong. (c.ordered strong).history.clean;
      places = λ strong. (c.ordered strong).history.places;
      weakly = λ weak. (c.weakly weak).allowed;
      justified = c.history.justified;
      moment = c.history.moment;
      stand = λ d device at up. (k.home d device at).stand up
          ∙ stands_at_home (configuration_of s) s.rounds s.opened (held_in s) d c (device_has s d (Home device) k.places_size at) (ap (λ o. grip_in o (progress_at s.devices d).purpose) at) up;
      told = record {
        turns_rose = λ d device at. (k.home d device at).turns_are;
        probes_rose = λ d device at. (k.home d device at).probes_are;
        falls_told = λ d device at. (k.home d device at).falls_told;
        few_faults = λ d device at. (k.home d device at).few_faults;
      };
    }

-- Quiet hubs

pub quiet_out : (s : Configuration) (o : Option DeviceNo) → None ≡ find (λ q. is_none ((read_of s).run q).ended) (run_numbers s.setting) → option_map (λ d. d.0) o ≡ find (is_out s.grips) (device_numbers s.setting)
    → option_map (λ d. StillOut d) o ≡ not_quiet s
quiet_out s o none out = by_device o out ∙ ap (λ x. option_or (option_map (λ q. StillLive (run_no q)) x) (option_map (λ d. StillOut (device_no d)) (find (is_out s.grips) (device_numbers s.setting)))) none
  where
    by_device : (x : Option DeviceNo) → option_map (λ d. d.0) x ≡ find (is_out s.grips) (device_numbers s.setting) → option_map (λ d. StillOut d) x ≡ option_map (λ d. StillOut (device_no d)) (find (is_out s.grips) (device_numbers s.setting))
    by_device None e = ap (λ x. option_map (λ d. StillOut (device_no d)) x) e
    by_device (Some d) e = ap (λ x. option_map (λ d. StillOut (device_no d)) x) e

-- the first device that is out
pub first_out_is : {D : Type 0} (s : OpenHub D) (o : Option DeviceNo) → length s.places ≡ length s.setting.first → IfSome o (λ d. IsFirstOut s.places d.0) → IfNone o (AllHome s.places)
    → option_map (λ d. d.0) o ≡ find (is_out (configuration_of s).grips) (device_numbers s.setting)
first_out_is {D = D} s None size some none = sym (find_none (is_out (configuration_of s).grips) 0 (length s.setting.first) (λ y low high. home y (none y (omega (arith, high, size)))))
  where
    home : (y : ℕ) → (device : D) × (slice_get s.places y ≡ Some (Home device)) → is_out (configuration_of s).grips y ≡ false
    home y at = ap (λ o. is_some (grip_in o (progress_at s.devices y).purpose)) at.1
first_out_is {D = D} s (Some d) size some none =
    sym (find_first (is_out (configuration_of s).grips) 0 (length s.setting.first) d.0 (omega arith) (within some.0) (away some.0) (λ y before. home y (some.1 y before)))
  where
    within : (slip : Slip) × (task : Task) × (slice_get s.places d.0 ≡ Some (Out slip task)) → d.0 < 0 + length s.setting.first
    within at = omega (arith, slice_get_within s.places d.0 (Out at.0 at.1) at.2, size)

    away : (slip : Slip) × (task : Task) × (slice_get s.places d.0 ≡ Some (Out slip task)) → is_out (configuration_of s).grips d.0 ≡ true
    away at = ap (λ o. is_some (grip_in o (progress_at s.devices d.0).purpose)) at.2

    home : (y : ℕ) → (device : D) × (slice_get s.places y ≡ Some (Home device)) → is_out (configuration_of s).grips y ≡ false
    home y at = ap (λ o. is_some (grip_in o (progress_at s.devices y).purpose)) at.1

-- .. as the code finds it
pub quiet_hub : {D : Type 0} (shows : D → Shown) (s t : OpenHub D) (o : Option DeviceNo) → s ≡ t → HubIsKept shows s
    → None ≡ find (λ q. is_none ((read_of (configuration_of s)).run q).ended) (run_numbers s.setting) → IfSome o (λ d. IsFirstOut s.places d.0) → IfNone o (AllHome s.places)
    → option_map (λ d. StillOut d) o ≡ not_quiet (configuration_of t)
quiet_hub {D = D} shows s t o same k ended some none =
    quiet_out (configuration_of s) o ended (first_out_is s o k.places_size some none) ∙ ap (λ (x : OpenHub D). not_quiet (configuration_of x)) same

-- Fresh hubs

-- no probe of a device was taken
abbrev pub AllProbesLeft : {D : Type 0} → OpenHub D → Type 0
AllProbesLeft s = (d : ℕ) → d < length s.devices → (progress_at s.devices d).probes_left ≡ s.rounds

no_length : {A : Type 0} (xs : List A) → length xs ≡ 0 → xs ≡ []
no_length [] e = refl
no_length (x ∷ xs) e = absurd (omega (arith, e))

pub fresh_is : {D : Type 0} (shows : D → Shown) (s : OpenHub D) → HubIsKept shows s → length s.history ≡ 0 → s.moment ≡ 0 → AllHome s.places → AllProbesLeft s → configuration_of s ≡ opened s.setting s.rounds
fresh_is {D = D} shows s k none start home left =
    let empty : s.history ≡ [] = no_length s.history none in
    λ i. record { setting = s.setting; history = empty i; moment = start i; probes = λ d. untaken d i; grips = λ d. unheld d i }
  where
    untaken : (d : ℕ) → (progress_at s.devices d).probes_left ≡ (if is_device s.setting d then s.rounds else 0)
    untaken d = by_place' (nat_lt d (length s.setting.first)) refl
      where
        none_beyond : (devices : List DeviceProgress) (e : ℕ) → length devices ≤ e → (progress_at devices e).probes_left ≡ 0
        none_beyond [] e past = refl
        none_beyond (x ∷ devices) zero past = absurd (omega (arith, past))
        none_beyond (x ∷ devices) (suc e) past = none_beyond devices e (omega (arith, past))

        by_place' : (b : Bool) → nat_lt d (length s.setting.first) ≡ b → (progress_at s.devices d).probes_left ≡ (if b then s.rounds else 0)
        by_place' true within = left d (let lt : d < length s.setting.first = grind (arith, common_steps) in omega (arith, lt, k.devices_size))
        by_place' false beyond = none_beyond s.devices d (let past : length s.setting.first ≤ d = grind (arith, common_steps) in omega (arith, past, k.devices_size))

    by_place : (d : ℕ) (o : Option (Place D)) → slice_get s.places d ≡ o → grip_in o (progress_at s.devices d).purpose ≡ None
    by_place d None at = refl
    by_place d (Some (Home device)) at = refl
    by_place d (Some (Out slip task)) at = absurd (let here = home d (slice_get_within s.places d (Out slip task) at) in let both : Some (Out slip task) ≡ Some (Home here.0) = sym at ∙ here.1 in cc)

    unheld : (d : ℕ) → grip_in (slice_get s.places d) (progress_at s.devices d).purpose ≡ None
    unheld d = by_place d (slice_get s.places d) refl

-- what such a hub shows
fresh_home : {D : Type 0} (s : OpenHub D) (d : ℕ) → configuration_of s ≡ opened s.setting s.rounds → IsFirstOut s.places d → ⊥
fresh_home s d same out =
    let away : is_out (configuration_of s).grips d ≡ true = ap (λ p. is_some (grip_in p (progress_at s.devices d).purpose)) out.0.2 in
    let home : is_out (configuration_of s).grips d ≡ false = ap (λ c. is_out c.grips d) same in
    let both : true ≡ false = sym away ∙ home in absurd (cc)

fresh_probes : {D : Type 0} (s : OpenHub D) → length s.devices ≡ length s.setting.first → configuration_of s ≡ opened s.setting s.rounds → AllProbesLeft s
fresh_probes s size same d within = ap (λ c. c.probes d) same ∙ in_home (is_device s.setting d) (let lt : d < length s.setting.first = omega (arith, within, size) in grind (arith, common_steps))
  where
    in_home : (b : Bool) → b ≡ true → (if b then s.rounds else 0) ≡ s.rounds
    in_home true e = refl
    in_home false e = absurd (cc)

-- where a device is out it is not fresh
pub fresh_out : {D : Type 0} (s t : OpenHub D) (o : Option DeviceNo) → s ≡ t → IfSome o (λ d. IsFirstOut s.places d.0) → is_some o ≡ true → configuration_of t ≡ opened t.setting t.rounds → ⊥
fresh_out {D = D} s t o same some there = subst (λ (x : OpenHub D). configuration_of x ≡ opened x.setting x.rounds → ⊥) same (by_device o some there)
  where
    by_device : (x : Option DeviceNo) → IfSome x (λ d. IsFirstOut s.places d.0) → is_some x ≡ true → configuration_of s ≡ opened s.setting s.rounds → ⊥
    by_device None some there = absurd (cc)
    by_device (Some d) some there = λ fresh. fresh_home s d.0 fresh some

-- else it is where no probe was taken
pub fresh_hub : {D : Type 0} (shows : D → Shown) (s t : OpenHub D) (o : Option DeviceNo) (b : Bool) → s ≡ t → HubIsKept shows s → length s.history ≡ 0 → s.moment ≡ 0
    → IfNone o (AllHome s.places) → is_some o ≡ false → IsTrue b ↔ AllProbesLeft t → IsTrue b ↔ (configuration_of t ≡ opened t.setting t.rounds)
fresh_hub {D = D} shows s t o b same k none start home away is =
    subst (λ (x : OpenHub D). IsTrue b ↔ AllProbesLeft x → IsTrue b ↔ (configuration_of x ≡ opened x.setting x.rounds)) same
    (λ left. (λ test. fresh_is shows s k none start (all_home o home away) (left.0 test), λ fresh. left.1 (fresh_probes s k.devices_size fresh))) is
  where
    all_home : (x : Option DeviceNo) → IfNone x (AllHome s.places) → is_some x ≡ false → AllHome s.places
    all_home None home away = home
    all_home (Some d) home away = absurd (cc)

-- What a hub tells

-- the grip of a device that is out
pub grip_by_slip : {D : Type 0} (s : OpenHub D) (d : ℕ) (slip : Slip) → Some slip ≡ slip_of (slice_get s.places d) → (configuration_of s).grips d ≡ Some (record { maker = slip.maker; purpose = (progress_at s.devices d).purpose })
grip_by_slip {D = D} s d slip some = by_place (slice_get s.places d) some
  where
    by_place : (o : Option (Place D)) → Some slip ≡ slip_of o → grip_in o (progress_at s.devices d).purpose ≡ Some (record { maker = slip.maker; purpose = (progress_at s.devices d).purpose })
    by_place None e = absurd (cc)
    by_place (Some (Home device)) e = absurd (cc)
    by_place (Some (Out other task)) e = ap (λ (x : Slip). Some (record { maker = x.maker; purpose = (progress_at s.devices d).purpose })) (sym (same_Some slip other e))

-- the run of a command that is out, and its number
pub command_out : {D : Type 0} (shows : D → Shown) (s : OpenHub D) (d : ℕ) (slip : Slip) (k : ℕ) → HubIsKept shows s → Some slip ≡ slip_of (slice_get s.places d)
    → (progress_at s.devices d).purpose ≡ Commands k → IsTrue (is_run s.setting.runs slip.maker) × (k < length (commands_of s.setting.runs slip.maker))
command_out {D = D} shows s d slip k kept some purpose =
    let n = read_of (configuration_of s) in
    let grip : (configuration_of s).grips d ≡ Some (record { maker = slip.maker; purpose = Commands k }) = grip_by_slip s d slip some ∙ ap (λ (q : Purpose). Some (record { maker = slip.maker; purpose = q })) purpose in
    let out = out_is s.setting n (configuration_of s).grips slip.maker k d kept.configuration.grips.runs grip in
    let shaped = shapes s.setting (entries_of s.history) kept.configuration.history.well_formed in
    let next : slice_get (commands_of s.setting.runs slip.maker) (next_of n slip.maker) ≡ Some out.0 = out.1.next in
    (live_run s.setting n slip.maker shaped out.1.live, omega (arith, slice_get_within (commands_of s.setting.runs slip.maker) (next_of n slip.maker) out.0 next, out.1.number))
