-- A window that opens: what the hub knows, and that it is as every hub is kept.
use Rattle.hub_core.proofs.Prelude.{AreKnown, Bool, Configuration, CountsAreLow, DeviceNo, DeviceProgress, FitsAtHome, Grips, HasRoomLeft, HeldTokensAre, Home, HomeIsKept, HomeState, HubIsKept, IsKeptByModel, IsOpened, IsTrue, Kept, Kind, LineageState, List, Marked, MayOpen, None, OpenHub, Option, OrderIsBeside, Place, Setting, Shown, Some, Stand, There, [], all_home, ap, arith, configuration_of, false, has_value, held_in, if◌then◌else◌, kind_at, known_as, known_there, le-ltb, length, length-map, lt-ltb, most_entries, most_items, nat_lt, no_events, no_held_tokens, none_out, nowhere, opened, past_end, plain_run, progress_at, refl, replicate, runs_of, setting_for, slice_get, stand_at, subst, sym, there, true, unknown, ℕ, ◌∙◌, ◌≡◌, ◌≤◌}
use Rattle.command_rules.specs.declared.rosters.Roster.{Roster}
use Rattle.device_gate.proofs.Cited.{device_at as home_there, none_out as not_out}
use Rattle.home_types.specs.declared.modes.Mode.{Mode}
use Rattle.hub_core.proofs.kept.KeptByModel.{starts_kept}
use Rattle.hub_core.proofs.kept.OrderSteps.{order_begins}
use Rattle.hub_core.specs.OpeningRooms.{IsClosingRoom, IsOrderRoom, IsScratchFor}
use Rattle.hub_core.specs.PlannedPlaces.{IsForHome}
use Rattle.hub_core.specs.declared.open_windows.ClosingLists.{ClosingLists}
use Rattle.timeline_scheduler.specs.Scratches.{ScratchRoom}

-- A window that opens

-- the hub of a window that opens
abbrev pub first_hub : {D : Type 0} → HomeState D → Roster → Mode → ℕ → List DeviceProgress → OpenHub D
first_hub home roster mode rounds known = record {
  setting = setting_for home roster mode;
  rounds = rounds;
  opened = home.opened;
  history = [];
  moment = 0;
  devices = known;
  places = all_home home.devices;
  tickets = 0;
}

-- what a window needs of a home to open
pub record Opens {D : Type 0} (shows : D → Shown) (home : HomeState D) (roster : Roster) (mode : Mode) (rounds : ℕ) (known : List DeviceProgress) : Type 0 where
  pub kept : HomeIsKept shows home
  pub may : MayOpen (setting_for home roster mode) rounds home.opened
  pub knows : AreKnown shows home.devices home.world rounds (length home.devices) known

-- the configuration of a window that opens
pub first_configuration : {D : Type 0} (shows : D → Shown) (home : HomeState D) (roster : Roster) (mode : Mode) (rounds : ℕ) (known : List DeviceProgress)
    → Opens shows home roster mode rounds known → configuration_of (first_hub home roster mode rounds known) ≡ opened (setting_for home roster mode) rounds
first_configuration shows home roster mode rounds known opens = λ i. record {
  setting = setting_for home roster mode;
  history = [];
  moment = 0;
  probes = λ d. left d i;
  grips = λ d. none_out home.devices d (progress_at known d).purpose i;
}
  where
    in_home : (b : Bool) (lt : ℕ) → b ≡ true → (if b then lt else 0) ≡ lt
    in_home true lt e = refl
    in_home false lt e = absurd (cc)

    out_home : (b : Bool) (lt : ℕ) → b ≡ false → (if b then lt else 0) ≡ 0
    out_home false lt e = refl
    out_home true lt e = absurd (cc)

    left_by : (d : ℕ) → There shows home.devices home.world rounds known d → (progress_at known d).probes_left ≡ (if nat_lt d (length home.world) then rounds else 0)
    left_by d (known_as device at lt is) = ap (λ (k : DeviceProgress). k.probes_left) is ∙ sym (in_home (nat_lt d (length home.world)) rounds (lt-ltb d (length home.world) lt))
    left_by d (unknown le is) = ap (λ (k : DeviceProgress). k.probes_left) is ∙ sym (out_home (nat_lt d (length home.world)) rounds (le-ltb d (length home.world) le))

    left : (d : ℕ) → (progress_at known d).probes_left ≡ (if nat_lt d (length home.world) then rounds else 0)
    left d = left_by d (there shows home.devices home.world rounds known d opens.kept.size opens.knows)

-- where the devices stand as the window opens
pub first_held : {D : Type 0} (shows : D → Shown) (home : HomeState D) (roster : Roster) (mode : Mode) (rounds : ℕ) (known : List DeviceProgress) (d : ℕ)
    → Opens shows home roster mode rounds known → (stand_at home.world d).value ≡ held_in (first_hub home roster mode rounds known) d
first_held shows home roster mode rounds known d opens = by (there shows home.devices home.world rounds known d opens.kept.size opens.knows)
  where
    by : There shows home.devices home.world rounds known d → (stand_at home.world d).value ≡ (progress_at known d).held
    by (known_as device at lt is) = sym (ap (λ (k : DeviceProgress). k.held) is)
    by (unknown le is) = ap (λ (s : Stand). s.value) (past_end home.world d nowhere le) ∙ sym (ap (λ (k : DeviceProgress). k.held) is)

-- a hub is kept as its window opens
pub first_kept : {D : Type 0} (shows : D → Shown) (home : HomeState D) (roster : Roster) (mode : Mode) (rounds : ℕ) (known : List DeviceProgress)
    → Opens shows home roster mode rounds known → HubIsKept shows (first_hub home roster mode rounds known)
first_kept {D = D} shows home roster mode rounds known opens = record {
  configuration = configuration;
  devices_size = opens.knows.size ∙ opens.kept.size;
  places_size = length-map home.devices (λ device. Home device) ∙ opens.kept.size;
  home = λ d device at. at_home d device (home_there home.devices d device at);
  out = λ d slip task at. absurd (not_out home.devices d slip task at);
  low = λ d. low d (there shows home.devices home.world rounds known d opens.kept.size opens.knows);
  values = λ d lt. subst (λ v. IsTrue (has_value (kind_at home.kinds d) v)) (held d) (opens.kept.values d lt);
  events = λ d lt. none_yet d (there shows home.devices home.world rounds known d opens.kept.size opens.knows);
  few_tickets = omega arith;
}
  where
    s : OpenHub D
    s = first_hub home roster mode rounds known

    w : Setting
    w = setting_for home roster mode

    held : (d : ℕ) → (stand_at home.world d).value ≡ held_in s d
    held d = first_held shows home roster mode rounds known d opens

    all_held : (λ d. (stand_at w.first d).value) ≡ held_in s
    all_held i d = held d i

    configuration : IsKeptByModel (configuration_of s) rounds home.opened (held_in s)
    configuration =
        subst (λ h. IsKeptByModel (configuration_of s) rounds home.opened h) all_held
        (subst (λ c. IsKeptByModel c rounds home.opened (λ d. (stand_at w.first d).value)) (sym (first_configuration shows home roster mode rounds known opens))
        (starts_kept w rounds home.opened opens.may opens.kept.kinds opens.kept.values))

    at_home : (d : ℕ) (device : D) → slice_get home.devices d ≡ Some device → FitsAtHome shows s d device
    at_home d device at =
        let is = known_there shows home.devices home.world rounds known d device opens.knows at in
        record {
          stand = λ up. opens.kept.stand d device at up ∙ held d;
          turns_are = let same : (progress_at known d).at_opening.turns ≡ (shows device).turns = ap (λ (k : DeviceProgress). k.at_opening.turns) is in omega (arith, same);
          probes_are =
              let same : (progress_at known d).at_opening.probes ≡ (shows device).probes = ap (λ (k : DeviceProgress). k.at_opening.probes) is in
              let left : (progress_at known d).probes_left ≡ rounds = ap (λ (k : DeviceProgress). k.probes_left) is in omega (arith, same, left);
          falls_told = let same : (progress_at known d).at_opening.faults ≡ (shows device).faults = ap (λ (k : DeviceProgress). k.at_opening.faults) is in omega (arith, same);
          few_faults = let same : (progress_at known d).at_opening.faults ≡ (shows device).faults = ap (λ (k : DeviceProgress). k.at_opening.faults) is in omega (arith, same);
        }

    none_yet : (d : ℕ) → There shows home.devices home.world rounds known d → (progress_at known d).events ≡ no_events
    none_yet d (known_as device at lt is) = ap (λ (k : DeviceProgress). k.events) is
    none_yet d (unknown le is) = ap (λ (k : DeviceProgress). k.events) is

    low : (d : ℕ) → There shows home.devices home.world rounds known d → CountsAreLow home.opened (progress_at known d).at_opening.turns (progress_at known d).at_opening.probes (progress_at known d).at_opening.faults
    low d (known_as device at lt is) = rw is (opens.kept.counts d device at)
    low d (unknown le is) = rw is (record { few_turns = omega arith; few_probes = omega arith; few_faults = omega arith })

-- .. and has its room
pub first_room : {D : Type 0} (home : HomeState D) (roster : Roster) (mode : Mode) (rounds spare : ℕ) (closing : ClosingLists)
    → length home.devices ≡ length home.world → most_entries (length roster.runs.items) (length home.world) rounds ≤ spare → IsClosingRoom (most_items (length roster.runs.items) (length home.world) rounds) (length home.devices) closing
    → HasRoomLeft rounds (record { setting = setting_for home roster mode; history = []; spare = spare }) closing
first_room home roster mode rounds spare closing size enough room = record {
  history = let same : length (runs_of roster) ≡ length roster.runs.items = length-map roster.runs.items plain_run in rw same (omega (arith, enough));
  order = let same : length (runs_of roster) ≡ length roster.runs.items = length-map roster.runs.items plain_run in rw same (room.order.0, omega (arith, room.order.1));
  last = rw (← size) (room.last.0, omega (arith, room.last.1));
  world = rw (← size) (room.world.0, omega (arith, room.world.1));
  turns = rw (← size) (room.turns.0, omega (arith, room.turns.1));
  faults = rw (← size) (room.faults.0, omega (arith, room.faults.1));
}

-- the window was opened on the home
pub first_opened : {D : Type 0} (shows : D → Shown) (home : HomeState D) (roster : Roster) (mode : Mode) (rounds : ℕ) (known : List DeviceProgress)
    → Opens shows home roster mode rounds known → IsOpened shows (setting_for home roster mode) rounds home (first_hub home roster mode rounds known)
first_opened shows home roster mode rounds known opens = record {
  configuration = first_configuration shows home roster mode rounds known opens;
  places = refl;
  rounds_are = refl;
  windows = refl;
  tickets = refl;
  turns_then = λ d device at. ap (λ (k : DeviceProgress). k.at_opening.turns) (known_there shows home.devices home.world rounds known d device opens.knows at);
  probes_then = λ d device at. ap (λ (k : DeviceProgress). k.at_opening.probes) (known_there shows home.devices home.world rounds known d device opens.knows at);
  faults_then = λ d device at. ap (λ (k : DeviceProgress). k.at_opening.faults) (known_there shows home.devices home.world rounds known d device opens.knows at);
}

-- a setting with the roster that was indexed
pub setting_of_indexed : (s : Setting) (indexed roster : Roster) (mode : Mode) (kinds : List Kind) (world : List Stand)
    → ◌≡◌ {A = Setting} s (record { runs = runs_of indexed; mode = mode; kinds = kinds; first = world })
    → indexed ≡ roster
    → ◌≡◌ {A = Setting} s (record { runs = runs_of roster; mode = mode; kinds = kinds; first = world })
setting_of_indexed s indexed roster mode kinds world is same = subst (λ (q : Roster). ◌≡◌ {A = Setting} s (record { runs = runs_of q; mode = mode; kinds = kinds; first = world })) same is

-- a home with these parts is the home
pub seen_home : {D : Type 0} (home : HomeState D) (kinds : List Kind) (world : List Stand) (opened' : ℕ)
    → kinds ≡ home.kinds → world ≡ home.world → opened' ≡ home.opened
    → ◌≡◌ {A = HomeState D} (record { kinds = kinds; world = world; devices = home.devices; opened = opened' }) home
seen_home home kinds world opened' same_kinds same_world same_opened = λ i. record { kinds = same_kinds i; world = same_world i; devices = home.devices; opened = same_opened i }

-- what was put together is the hub of a window that opens
pub is_first_hub : {D : Type 0} (home : HomeState D) (roster : Roster) (mode : Mode) (rounds : ℕ) (known : List DeviceProgress) (kinds : List Kind) (world : List Stand) (devices : List D) (opened' : ℕ) (setting : Setting) (history : List Kept) (places : List (Place D)) (tickets : ℕ)
    → ◌≡◌ {A = HomeState D} (record { kinds = kinds; world = world; devices = devices; opened = opened' }) home
    → ◌≡◌ {A = Setting} setting (record { runs = runs_of roster; mode = mode; kinds = kinds; first = world })
    → history ≡ [] → places ≡ all_home devices → tickets ≡ 0
    → ◌≡◌ {A = OpenHub D} (record { setting = setting; rounds = rounds; opened = opened'; history = history; moment = 0; devices = known; places = places; tickets = tickets }) (first_hub home roster mode rounds known)
is_first_hub {D = D} home roster mode rounds known kinds world devices opened' setting history places tickets seen fixed none at_home no_ticket = λ i. record {
  setting = settings i;
  rounds = rounds;
  opened = ap (λ (h : HomeState D). h.opened) seen i;
  history = none i;
  moment = 0;
  devices = known;
  places = all_places i;
  tickets = no_ticket i;
}
  where
    settings : setting ≡ setting_for home roster mode
    settings = fixed ∙ ap (λ (h : HomeState D). setting_for h roster mode) seen

    all_places : places ≡ all_home home.devices
    all_places = at_home ∙ ap (λ (h : HomeState D). all_home h.devices) seen

-- the line and the table of a window that opens
pub first_order : {D : Type 0} (shows : D → Shown) (home : HomeState D) (roster : Roster) (mode : Mode) (rounds spare : ℕ) (known : List DeviceProgress) (line : Marked) (table : List LineageState)
    → Opens shows home roster mode rounds known
    → IsOrderRoom (most_items (length roster.runs.items) (length home.world) rounds) (runs_of roster) home.world line table
    → OrderIsBeside rounds (record { setting = setting_for home roster mode; history = []; spare = spare })
    (configuration_of (first_hub home roster mode rounds known)).grips line table
first_order shows home roster mode rounds spare known line table opens room =
    subst (λ (g : Grips). OrderIsBeside rounds (record { setting = setting_for home roster mode; history = []; spare = spare }) g line table) (sym (ap (λ (c : Configuration). c.grips) (first_configuration shows home roster mode rounds known opens)))
    (order_begins rounds (setting_for home roster mode) line table room.no_item room.none_sealed room.runs_kept (let same : length (runs_of roster) ≡ length roster.runs.items = length-map roster.runs.items plain_run in rw same (omega (arith, room.room))) room.opened)

-- the scratch of a window that opens is for its home
pub first_scratch : {D : Type 0} (home : HomeState D) (roster : Roster) (mode : Mode) (rounds : ℕ) (kinds : List Kind) (world : List Stand) (devices : List D) (opened' : ℕ) (setting : Setting) (room : ScratchRoom)
    → ◌≡◌ {A = HomeState D} (record { kinds = kinds; world = world; devices = devices; opened = opened' }) home
    → ◌≡◌ {A = Setting} setting (record { runs = runs_of roster; mode = mode; kinds = kinds; first = world })
    → IsScratchFor (length home.world) (most_items (length roster.runs.items) (length home.world) rounds) room → IsForHome setting rounds room
first_scratch {D = D} home roster mode rounds kinds world devices opened' setting room seen fixed fits =
    subst (λ (w : Setting). IsForHome w rounds room) (sym (fixed ∙ ap (λ (h : HomeState D). setting_for h roster mode) seen)) (record {
      devices = fits.devices_are;
      items = let same : length (runs_of roster) ≡ length roster.runs.items = length-map roster.runs.items plain_run in rw same (omega (arith, fits.items_are));
    })

-- no run holds a grip
pub first_hands : {D : Type 0} (shows : D → Shown) (home : HomeState D) (roster : Roster) (mode : Mode) (rounds : ℕ) (known : List DeviceProgress) (held_tokens : List (Option DeviceNo))
    → Opens shows home roster mode rounds known → held_tokens ≡ replicate (length roster.runs.items) None → HeldTokensAre (setting_for home roster mode) (configuration_of (first_hub home roster mode rounds known)).grips held_tokens
first_hands shows home roster mode rounds known held_tokens opens none =
    subst (λ (x : List (Option DeviceNo)). HeldTokensAre (setting_for home roster mode) (configuration_of (first_hub home roster mode rounds known)).grips x) (sym (none ∙ ap (λ n. replicate n None) (sym (length-map roster.runs.items plain_run))))
    (no_held_tokens (setting_for home roster mode) _ (λ d. ap (λ (c : Configuration). c.grips d) (first_configuration shows home roster mode rounds known opens)))
