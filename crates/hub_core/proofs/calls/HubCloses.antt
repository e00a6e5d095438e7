-- A window that closes: its devices are home, its record is legal, and the home that is left is as every home is kept.
use Rattle.hub_core.proofs.Prelude.{AllHome, AreNumbered, Bool, CallsAreAccounted, Committed, Configuration, CountsAreLow, Entry, FitsAtHome, Home, HomeIsKept, HubIsKept, Inside, IsKeptByModel, IsLegalWindow, IsTrue, IsWhole, Kind, List, Mark, None, NoneFails, OpenHub, Out, Place, Shown, Some, Stand, WindowIsClosed, [], all_home, ap, arith, at_place, common_steps, configuration_of, count_by, count_by-le-length, entries_of, false, grip_in, has_value, held_in, is_device, is_fall_of, is_weak, kind_at, left_at, left_size, length, length-map, map, nat_lt, not_quiet, open_of, option_map, point, point_of, probes_taken, progress_at, read_in, read_of, reading, refl, slice_get, slice_get-map, slice_get_within, slice_index_or, stand_at, standing_value, subst, sym, tells_call, told_calls, told_falls, true, ℕ, ◌*◌, ◌+◌, ◌<◌, ◌^◌, ◌∙◌, ◌≡◌, ◌≤◌}
use Rattle.history_book.specs.declared.records.WindowRecord.{WindowRecord}
use Rattle.hub_core.proofs.calls.EndedRuns.{each_has_ended}
use Rattle.hub_core.proofs.calls.HubChanges.{few_entries}
use Rattle.hub_core.proofs.kept.Kept.{values_fit}
use Rattle.hub_core.proofs.kept.KeptByModel.{by_model, stands_at_home}
use Rattle.hub_core.proofs.kept.Sizes.{line_fits, stays_up}
use Rattle.hub_core.proofs.kept.TableFits.{counted_told, either_model}
use Rattle.hub_core.proofs.kept.WrittenValues.{standing_fits, writes_fit}
use Rattle.hub_core.proofs.weak.WeakClosings.{weak_ends, weak_legal_window, weak_none_out}
use Rattle.hub_core.proofs.weak.WeakProbes.{weak_standing}
use Rattle.hub_core.proofs.windows.CalmHistories.{NoneFailed}
use Rattle.hub_core.proofs.windows.Closings.{IsLastState, IsQuiet, ended_committed, legal_window, none_out, quiet_is, table_leaves}
use Rattle.legal_days.specs.Agreement.{UpDevicesStand}
use Rattle.window_devices.specs.LeftDevices.{HaveRisen, NoneFell, all_known_left}
use Rattle.window_order.specs.Leavings.{IsEmptyFor, stand_left}

-- where nothing is left to do, no device is out
home_when_quiet : (s : Configuration) (rounds opened : ℕ) (held : ℕ → ℕ) (d : ℕ) → IsKeptByModel s rounds opened held → IsQuiet s → s.grips d ≡ None
home_when_quiet s rounds opened held d kept quiet = by_model (s.grips d ≡ None) s rounds opened held kept (λ c. none_out s rounds opened held d c quiet) (λ c. weak_none_out s rounds opened held d c quiet)

-- .. and every device is home
pub all_are_home : {D : Type 0} (shows : D → Shown) (s : OpenHub D) → HubIsKept shows s → not_quiet (configuration_of s) ≡ None → AllHome s.places
all_are_home {D = D} shows s kept quiet d lt = by (at_place s.places d lt)
  where
    away : grip_in (slice_get s.places d) (progress_at s.devices d).purpose ≡ None
    away = home_when_quiet (configuration_of s) s.rounds s.opened (held_in s) d kept.configuration (quiet_is (configuration_of s) quiet)

    by : (x : Place D) × (slice_get s.places d ≡ Some x) → (device : D) × (slice_get s.places d ≡ Some (Home device))
    by (Home device, at) = (device, at)
    by (Out slip task, at) = absurd (let gone = ap (λ p. grip_in p (progress_at s.devices d).purpose) at in cc (sym gone ∙ away))

-- what a window that closes has: nothing is left to do, and these are its devices, each of its number
pub record Closes {D : Type 0} (shows : D → Shown) (s : OpenHub D) (devices : List D) : Type 0 where
  pub kept : HubIsKept shows s
  pub quiet : not_quiet (configuration_of s) ≡ None
  pub places : all_home devices ≡ s.places
  pub numbered : AreNumbered shows devices

fits_at_home : {D : Type 0} (shows : D → Shown) (s : OpenHub D) (devices : List D) (d : ℕ) (device : D) → Closes shows s devices → slice_get devices d ≡ Some device → FitsAtHome shows s d device
fits_at_home shows s devices d device c at =
    c.kept.home d device (ap (λ l. slice_get l d) (sym c.places) ∙ slice_get-map (λ x. Home x) devices d ∙ ap (option_map (λ x. Home x)) at)

sizes : {D : Type 0} (shows : D → Shown) (s : OpenHub D) (devices : List D) → Closes shows s devices → length devices ≡ length s.setting.first
sizes shows s devices c = sym (length-map devices (λ x. Home x)) ∙ ap (λ l. length l) c.places ∙ c.kept.places_size

pub turns_fell : {D : Type 0} (shows : D → Shown) (s : OpenHub D) (devices : List D) → Closes shows s devices → NoneFell (λ device. (shows device).turns) (λ k. k.at_opening.turns) s.devices devices
turns_fell shows s devices c = record {
  size = sizes shows s devices c ∙ sym c.kept.devices_size;
  each = λ d device at. (let is = (fits_at_home shows s devices d device c at).turns_are in omega (arith, is));
}

pub faults_fell : {D : Type 0} (shows : D → Shown) (s : OpenHub D) (devices : List D) → Closes shows s devices → NoneFell (λ device. (shows device).faults) (λ k. k.at_opening.faults) s.devices devices
faults_fell shows s devices c = record {
  size = sizes shows s devices c ∙ sym c.kept.devices_size;
  each = λ d device at. (let is = (fits_at_home shows s devices d device c at).falls_told in omega (arith, is));
}

-- a window makes few calls
few_calls : {D : Type 0} (shows : D → Shown) (s : OpenHub D) (told : Entry → Bool) → HubIsKept shows s → count_by told (entries_of s.history) ≤ 59904
few_calls shows s told kept =
    let few = few_entries shows s kept in
    let counted : count_by told (entries_of s.history) ≤ length (entries_of s.history) = count_by-le-length told (entries_of s.history) in
    let same : length (entries_of s.history) ≡ length s.history = length-map s.history (λ k. k.entry) in
    omega (arith, few, counted, same)

-- so a count stays low
still_low : (opened count then rise : ℕ) → then ≤ opened * 2 ^ 17 + 1 → count ≤ then + rise → rise ≤ 60004 → count ≤ (opened + 1) * 2 ^ 17 + 1
still_low opened count then rise low is few = omega arith

-- the lineage table leaves each device as the last state has it, and under the weak model what is known of each
pub hub_leaves : {D : Type 0} {shows : D → Shown} (h : Inside D) (last : List Stand) → IsWhole shows h → not_quiet (configuration_of (open_of h)) ≡ None → (is_weak h.history.setting.mode ≡ false → last ≡ map stand_left h.order.table)
    → (is_weak h.history.setting.mode ≡ true → last ≡ all_known_left h.checkouts.known.items h.order.table (length h.order.table)) → IsLastState (configuration_of (open_of h)) last
hub_leaves h last k quiet are known = either_model (IsLastState (configuration_of (open_of h)) last) h.history.setting
    (λ weak. record {
      size = ap length (known weak) ∙ left_size h.checkouts.known.items h.order.table (length h.order.table) ∙ k.order.table_is.devices;
      each = λ d below.
          ap (λ l. stand_at l d) (known weak) ∙ left_at h.checkouts.known.items h.order.table (length h.order.table) d (omega (arith, below, k.order.table_is.devices))
          ∙ (λ i. record {
            value =
                ((k.shown.configuration.weakly weak).held_is d below
                ∙ sym (weak_standing (configuration_of (open_of h)) h.rounds h.opened (held_in (open_of h)) d (k.shown.configuration.weakly weak))) i;
            up = counted_told (point h.history.setting (read_in h.history) (configuration_of (open_of h)).grips) h.order.table d below k.order.table_is i;
          });
    })
    (λ strong. table_leaves (configuration_of (open_of h)) h.rounds h.opened (held_in (open_of h)) h.order.table last (k.shown.configuration.ordered strong) (quiet_is (configuration_of (open_of h)) quiet) (k.order.table_is.ordered strong) (are strong))

-- the home that is left is as every home is kept
pub home_left : {D : Type 0} (shows : D → Shown) (s : OpenHub D) (devices : List D) (kinds : List Kind) (world : List Stand) → Closes shows s devices → kinds ≡ s.setting.kinds → IsLastState (configuration_of s) world
    → HomeIsKept shows (record { kinds = kinds; world = world; devices = devices; opened = s.opened + 1 })
home_left {D = D} shows s devices kinds world c kinds_are left =
    record {
      numbered = c.numbered;
      kinds = ap (λ l. length l) kinds_are ∙ c.kept.configuration.kinds ∙ sym left.size;
      size = sizes shows s devices c ∙ sym left.size;
      few = rw left.size c.kept.configuration.opens.few_devices;
      opened = let few = c.kept.configuration.opens.few_windows in omega (arith, few);
      values = value_at;
      stand = stand;
      counts = λ d device at. counts d device (fits_at_home shows s devices d device c at);
    }
  where
    standing_value_fits : (d : ℕ) → d < length s.setting.first → IsTrue (has_value (kind_at s.setting.kinds d) (standing_value (point_of (configuration_of s)) d))
    standing_value_fits d within = by_model (IsTrue (has_value (kind_at s.setting.kinds d) (standing_value (point_of (configuration_of s)) d))) (configuration_of s) s.rounds s.opened (held_in s) c.kept.configuration
        (λ k. standing_fits (point_of (configuration_of s)) d k.strong (writes_fit s.setting (entries_of s.history) (values_fit (configuration_of s) s.rounds s.opened (held_in s) k) k.history.well_formed) (k.values d within))
        (λ k. subst (λ v. IsTrue (has_value (kind_at s.setting.kinds d) v)) (k.held_is d within ∙ sym (weak_standing (configuration_of s) s.rounds s.opened (held_in s) d k)) (c.kept.values d within))

    value_at : (d : ℕ) → d < length world → IsTrue (has_value (kind_at kinds d) (stand_at world d).value)
    value_at d lt =
        let within : d < length s.setting.first = omega (arith, lt, left.size) in
        rw (kinds_are, left.each d within) (standing_value_fits d within)

    stand : UpDevicesStand shows devices world
    stand d device at up =
        let within : d < length s.setting.first = (let there = slice_get_within devices d device at in let same = sizes shows s devices c in omega (arith, there, same)) in
        let here : is_device s.setting d ≡ true = is_below d (length s.setting.first) within in
        let counted : (read_of (configuration_of s)).up d ≡ true = sym (ap (λ (x : Stand). x.up) (left.each d within)) ∙ up in
        (fits_at_home shows s devices d device c at).stand counted
        ∙ stands_at_home (configuration_of s) s.rounds s.opened (held_in s) d c.kept.configuration here (home_when_quiet (configuration_of s) s.rounds s.opened (held_in s) d c.kept.configuration (quiet_is (configuration_of s) c.quiet)) counted
        ∙ sym (ap (λ (x : Stand). x.value) (left.each d within))
      where
        is_below : (a b : ℕ) → a < b → nat_lt a b ≡ true
        is_below a b lt = grind (arith, common_steps)

    counts : (d : ℕ) (device : D) → FitsAtHome shows s d device → CountsAreLow (s.opened + 1) (shows device).turns (shows device).probes (shows device).faults
    counts d device fits = record {
      few_turns =
          still_low s.opened (shows device).turns (progress_at s.devices d).at_opening.turns (told_calls s.setting.runs (entries_of s.history) d)
          (c.kept.low d).few_turns (omega (arith, fits.turns_are))
          (let few = few_calls shows s (tells_call s.setting.runs d) c.kept in omega (arith, few));
      few_probes = still_low s.opened (shows device).probes (progress_at s.devices d).at_opening.probes (probes_taken s d) (c.kept.low d).few_probes (omega (arith, fits.probes_are)) (let few = c.kept.configuration.opens.few_rounds in omega (arith, few));
      few_faults = still_low s.opened (shows device).faults (progress_at s.devices d).at_opening.faults (told_falls (entries_of s.history) d + probes_taken s d) (c.kept.low d).few_faults (omega (arith, fits.few_faults))
          (let few = c.kept.configuration.opens.few_rounds in let falls = few_calls shows s (is_fall_of d) c.kept in omega (arith, few, falls));
    }

-- what the record tells
pub record Tells {D : Type 0} (shows : D → Shown) (s : OpenHub D) (devices : List D) (closed : WindowRecord) : Type 0 where
  pub mode : closed.mode ≡ s.setting.mode
  pub first : closed.first.devices.items ≡ s.setting.first
  pub history : closed.history.items ≡ s.history
  pub order : is_weak s.setting.mode ≡ false → closed.order.items ≡ (read_of (configuration_of s)).line
  pub unclaimed : is_weak s.setting.mode ≡ true → closed.order.items ≡ []
  pub last : IsLastState (configuration_of s) closed.last.devices.items
  pub turns_rose : HaveRisen (λ device. (shows device).turns) (λ k. k.at_opening.turns) s.devices devices (length s.devices) closed.turns.items
  pub faults_rose : HaveRisen (λ device. (shows device).faults) (λ k. k.at_opening.faults) s.devices devices (length s.devices) closed.faults.items

-- it accounts for the calls
accounted : {D : Type 0} (shows : D → Shown) (s : OpenHub D) (devices : List D) (closed : WindowRecord) → Closes shows s devices → Tells shows s devices closed
    → CallsAreAccounted s.setting (entries_of s.history) closed.turns.items closed.faults.items
accounted {D = D} shows s devices closed c tells =
    record {
      turns_size = tells.turns_rose.size ∙ c.kept.devices_size;
      faults_size = tells.faults_rose.size ∙ c.kept.devices_size;
      turns_of = λ d lt. turns_of d lt (at_place devices d (let same = sizes shows s devices c in omega (arith, lt, same)));
      faults_of = λ d lt. falls_of d lt (at_place devices d (let same = sizes shows s devices c in omega (arith, lt, same)));
    }
  where
    falls_of : (d : ℕ) → d < length s.setting.first → (device : D) × (slice_get devices d ≡ Some device) → told_falls (entries_of s.history) d ≤ slice_index_or closed.faults.items d 0
    falls_of d lt (device, at) =
        let rose = tells.faults_rose.each d device (let known = c.kept.devices_size in omega (arith, lt, known)) at in
        let told = (fits_at_home shows s devices d device c at).falls_told in
        omega (arith, rose, told)

    turns_of : (d : ℕ) → d < length s.setting.first → (device : D) × (slice_get devices d ≡ Some device) → slice_index_or closed.turns.items d 0 ≡ told_calls s.setting.runs (entries_of s.history) d
    turns_of d lt (device, at) =
        let rose = tells.turns_rose.each d device (let known = c.kept.devices_size in omega (arith, lt, known)) at in
        let told = (fits_at_home shows s devices d device c at).turns_are in
        omega (arith, rose, told)

-- the window was closed with this record
pub window_closed : {D : Type 0} (shows : D → Shown) (s : OpenHub D) (devices : List D) (kinds : List Kind) (world : List Stand) (closed : WindowRecord) → Closes shows s devices → Tells shows s devices closed
    → kinds ≡ s.setting.kinds → world ≡ closed.last.devices.items
    → WindowIsClosed shows s (record { kinds = kinds; world = world; devices = devices; opened = s.opened + 1 }) closed
window_closed {D = D} shows s devices kinds world closed c tells kinds_are world_is =
    record {
      legal = legal;
      history = tells.history;
      ends = record {
        ended = each_has_ended s.setting closed legal;
        commits = λ first none_fails r run none. ap (λ h. ((reading s.setting (entries_of h)).run r).ended) tells.history ∙ by_model (((read_of (configuration_of s)).run r).ended ≡ Some Committed) (configuration_of s) s.rounds s.opened (held_in s) c.kept.configuration
            (λ k. ended_committed (configuration_of s) s.rounds s.opened (held_in s) r k (quiet_is (configuration_of s) c.quiet) first (none_failed none_fails) run none)
            (λ k. (weak_ends (configuration_of s) s.rounds s.opened (held_in s) k (quiet_is (configuration_of s) c.quiet) (none_failed none_fails)).commits r run none);
      };
      places = sym c.places;
      after = record {
        kinds = kinds_are;
        last = world_is;
        opened = refl;
        up = λ none_fails d lt. up_at_end none_fails d (let same = ap (λ l. length l) world_is in let size = tells.last.size in omega (arith, lt, same, size));
        turns_rose = λ d device at. tells.turns_rose.each d device (known d device at) at;
        probes_rose = λ d device at. (fits_at_home shows s devices d device c at).probes_are;
        faults_rose = λ d device at. tells.faults_rose.each d device (known d device at) at;
      };
    }
  where
    calls : CallsAreAccounted s.setting (entries_of s.history) closed.turns.items closed.faults.items
    calls = accounted shows s devices closed c tells

    legal : IsLegalWindow s.setting closed
    legal = by_model (IsLegalWindow s.setting closed) (configuration_of s) s.rounds s.opened (held_in s) c.kept.configuration
        (λ k. legal_window (configuration_of s) s.rounds s.opened (held_in s) closed k (quiet_is (configuration_of s) c.quiet) (record {
          mode = tells.mode;
          first = tells.first;
          history = tells.history;
          order = tells.order k.strong;
          last = tells.last;
          accounted = calls;
        }))
        (λ k. weak_legal_window (configuration_of s) s.rounds s.opened (held_in s) closed k (quiet_is (configuration_of s) c.quiet) (record {
          mode = tells.mode;
          first = tells.first;
          history = tells.history;
          unclaimed = tells.unclaimed k.weak;
          last = record {
            size = tells.last.size;
            each = λ d within. tells.last.each d within ∙ (λ i. record { value = (weak_standing (configuration_of s) s.rounds s.opened (held_in s) d k ∙ sym (k.held_is d within)) i; up = (read_of (configuration_of s)).up d });
          };
          accounted = calls;
        }))

    none_failed : NoneFails s.setting closed.faults.items → NoneFailed (configuration_of s)
    none_failed none_fails = record { up = none_fails.up; steady = λ d lt. (let told = calls.faults_of d lt in let none = none_fails.steady d lt in omega (arith, told, none)) }

    up_at_end : NoneFails s.setting closed.faults.items → (d : ℕ) → d < length s.setting.first → (stand_at world d).up ≡ true
    up_at_end none_fails d lt = ap (λ l. (stand_at l d).up) world_is ∙ ap (λ (x : Stand). x.up) (tells.last.each d lt) ∙ stays_up (configuration_of s) s.rounds s.opened d (held_in s) c.kept.configuration (none_fails.up d lt) ((none_failed none_fails).steady d lt)

    known : (d : ℕ) (device : D) → slice_get devices d ≡ Some device → d < length s.devices
    known d device at = (let there = slice_get_within devices d device at in let same = sizes shows s devices c in let all = c.kept.devices_size in omega (arith, there, same, all))

-- the line of a window that closes has a place in the record's list for each item
pub items_fit : {D : Type 0} {shows : D → Shown} (h : Inside D) → IsWhole shows h → IsEmptyFor h.closing.order (length h.order.line.marks)
items_fit h k =
    let fits = line_fits _ h.rounds h.opened _ k.shown.configuration in
    let size = sym (length-map h.order.line.marks (λ (x : Mark). x.item)) ∙ ap length k.order.line_is.items in
    (k.room.order.0, omega (arith, fits, size, k.room.order.1))
