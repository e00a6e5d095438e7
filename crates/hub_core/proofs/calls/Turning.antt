-- A device that fails or comes back as it comes home: it may, and line and history have room for it.
use Rattle.hub_core.proofs.Prelude.{Back, Bool, DeviceNo, Done, Entry, Failed, Fell, Gripped, Grips, Inside, IsWhole, List, Mark, MarksAreKept, MayTurn, Purpose, Reading, Rose, Setting, Shown, Slip, ap, arith, common_steps, configuration_of, entry, event_place_of, events_after, events_in, failure_absent, false, fold, has_died, held_in, length, marks_fell, marks_rose, may_follow, most_items, open_of, point, progress_at, put, read_in, read_of, restart_absent, subst, sym, takes_first, true, turned, ℕ, ◌+◌, ◌<◌, ◌∙◌, ◌∷◌, ◌≡◌, ◌≤◌}
use Rattle.hub_core.proofs.calls.Homecomings.{ComesBack, IsReturned, after_back, held_back, returned_comes, returned_entries, returned_for, returned_places}
use Rattle.hub_core.proofs.calls.HubOrders.{read_whole}
use Rattle.hub_core.proofs.kept.EventsTold.{line_size}
use Rattle.hub_core.proofs.kept.OrderSteps.{length_with}
use Rattle.hub_core.proofs.kept.SealedOrders.{table_unsealed}
use Rattle.hub_core.proofs.kept.Sizes.{line_fits}
use Rattle.hub_core.proofs.kept.TableFits.{counted_told, no_detector}
use Rattle.hub_core.proofs.steps.Afters.{read_with}
use Rattle.hub_core.proofs.steps.Calls.{is_up_for}
use Rattle.window_devices.specs.declared.known.Events.{Events}
use Rattle.serial_line.specs.Marks.{stands as stands_item}

-- with an event the line is longer by one
fell_line : (w : Setting) (n : Reading) (g : Grips) (d : DeviceNo) (marks : List Mark) → MarksAreKept n g marks → length (entry w n (Fell d)).line ≡ length n.line + 1
fell_line w n g d marks lines =
    sym (line_size (entry w n (Fell d)) g _ (marks_fell w n g d marks lines)) ∙ length_with (event_place_of w n d.0) (Failed d (n.fell d.0 + 1)) marks ∙ ap (λ k. k + 1) (line_size n g marks lines)

rose_line : (w : Setting) (n : Reading) (g : Grips) (d : DeviceNo) (marks : List Mark) → MarksAreKept n g marks → length (entry w n (Rose d)).line ≡ length n.line + 1
rose_line w n g d marks lines =
    sym (line_size (entry w n (Rose d)) g _ (marks_rose w n g d marks lines)) ∙ length_with (event_place_of w n d.0) (Back d (n.rose d.0 + 1)) marks ∙ ap (λ k. k + 1) (line_size n g marks lines)

-- what a step back tells: an event of a device, and then entries that leave the line
pub record TellsTurn {D : Type 0} (shows : D → Shown) (h : Inside D) (why : Purpose) (grip : Gripped D Done) (e : Entry) (es : List Entry) : Type 0 where
  pub returned : IsReturned shows h why grip
  pub gives : returned_entries (open_of h) grip why ≡ e ∷ es
  pub leave : (fold (entry h.history.setting) (entry h.history.setting (read_in h.history) e) es).line ≡ (entry h.history.setting (read_in h.history) e).line

tells_comes : {D : Type 0} {shows : D → Shown} (h : Inside D) (why : Purpose) (grip : Gripped D Done) (e : Entry)
    (es : List Entry) → TellsTurn shows h why grip e es → IsWhole shows h
    → ComesBack shows (open_of h) grip (e ∷ es) h.moment
tells_comes {shows = shows} h why grip e es tells k =
    subst (λ x. ComesBack shows (open_of h) grip x h.moment) tells.gives (returned_comes h h.moment why grip tells.returned (omega arith) k)

-- its event may stand where it stands
pub tells_may : {D : Type 0} {shows : D → Shown} (h : Inside D) (why : Purpose) (grip : Gripped D Done) (e : Entry)
    (es : List Entry) → TellsTurn shows h why grip e es → IsWhole shows h
    → may_follow h.history.setting (read_in h.history) e ≡ true
tells_may h why grip e es tells k = takes_first h.history grip.slip.maker e es (tells_comes h why grip e es tells k).configuration.history.well_formed

-- so line and history have room
turn_room : {D : Type 0} {shows : D → Shown} (h : Inside D) (why : Purpose) (grip : Gripped D Done) (e : Entry) (es : List Entry) → TellsTurn shows h why grip e es
    → length (entry h.history.setting (read_in h.history) e).line ≡ length (read_in h.history).line + 1 → IsWhole shows h → (0 < h.order.line.spare) × (0 < h.history.spare)
turn_room h why grip e es tells longer k = (
  (let fits : length (read_of (after_back (open_of h) grip.slip (e ∷ es) h.moment)).line
      ≤ most_items (length h.history.setting.runs) (length h.history.setting.first) h.rounds = line_fits (after_back (open_of h) grip.slip (e ∷ es) h.moment)
      h.rounds h.opened (put (held_in (open_of h)) grip.slip.device.0 (held_back (open_of h) grip)) (tells_comes h why grip e es tells k).configuration in
      let now : length (read_of (after_back (open_of h) grip.slip (e ∷ es) h.moment)).line ≡ length (read_in h.history).line + 1 = ap (λ (n : Reading). length n.line) (read_with (configuration_of (open_of h)) grip.slip.maker (e ∷ es)) ∙ ap length tells.leave ∙ longer in
      let size = line_size (read_in h.history) (configuration_of (open_of h)).grips h.order.line.marks k.order.line_is in
      omega (arith, fits, now, size, k.order.room)),
  (let places : length (e ∷ es) ≤ h.history.spare = subst (λ x. length x ≤ h.history.spare) tells.gives (returned_places h why grip tells.returned k) in
      omega (arith, places)),
)

-- The counts of its events

-- what is counted then, where it died that was counted up, or answered that was counted down
turned_to : {D : Type 0} {shows : D → Shown} (h : Inside D) (why : Purpose) (grip : Gripped D Done) (events : Events) (up died : Bool) → IsReturned shows h why grip → is_up_for why ≡ up → has_died grip.stage.told ≡ died
    → events ≡ events_after grip.task grip.stage.told (progress_at h.checkouts.known.items grip.slip.device.0).events → IsWhole shows h → events ≡ turned up died (events_in (read_in h.history) grip.slip.device.0)
turned_to h why grip events up died returned up_is died_is events_are k =
    let for = returned_for h why grip returned k in
    events_are ∙ (λ i. turned ((for.up ∙ up_is) i) (died_is i) (k.shown.events grip.slip.device.0 for.below i))

-- what the code counts of a failure
pub record Falls {D : Type 0} (h : Inside D) (why : Purpose) (grip : Gripped D Done) (sl : Slip) (events : Events) : Type 0 where
  pub same : sl ≡ grip.slip
  pub up : is_up_for why ≡ true
  pub died : has_died grip.stage.told ≡ true
  pub events_are : events ≡ events_after grip.task grip.stage.told (progress_at h.checkouts.known.items grip.slip.device.0).events

pub fallen_number : {D : Type 0} {shows : D → Shown} (h : Inside D) (why : Purpose) (grip : Gripped D Done) (sl : Slip)
    (events : Events) → IsReturned shows h why grip → Falls h why grip sl events → IsWhole shows h
    → events.fell ≡ (read_in h.history).fell grip.slip.device.0 + 1
fallen_number h why grip sl events returned falls k = ap (λ (e : Events). e.fell) (turned_to h why grip events true true returned falls.up falls.died falls.events_are k)

-- .. and of a restart
pub record Rises {D : Type 0} (h : Inside D) (why : Purpose) (grip : Gripped D Done) (sl : Slip) (events : Events) : Type 0 where
  pub same : sl ≡ grip.slip
  pub down : is_up_for why ≡ false
  pub lives : has_died grip.stage.told ≡ false
  pub events_are : events ≡ events_after grip.task grip.stage.told (progress_at h.checkouts.known.items grip.slip.device.0).events

pub risen_number : {D : Type 0} {shows : D → Shown} (h : Inside D) (why : Purpose) (grip : Gripped D Done) (sl : Slip)
    (events : Events) → IsReturned shows h why grip → Rises h why grip sl events → IsWhole shows h
    → events.rose ≡ (read_in h.history).rose grip.slip.device.0 + 1
risen_number h why grip sl events returned rises k = ap (λ (e : Events). e.rose) (turned_to h why grip events false false returned rises.down rises.lives rises.events_are k)

-- Whether it may

-- a device fails: it is counted up
pub may_fall : {D : Type 0} {shows : D → Shown} (h : Inside D) (why : Purpose) (grip : Gripped D Done) (es : List Entry) (sl : Slip) (events : Events) → TellsTurn shows h why grip (Fell grip.slip.device) es → Falls h why grip sl events
    → IsWhole shows h → MayTurn true (Failed sl.device events.fell) h.history.spare sl.device h.order.line h.order.table
may_fall h why grip es sl events tells falls k =
    subst (λ (z : Slip). MayTurn true (Failed z.device events.fell) h.history.spare z.device h.order.line h.order.table) (sym falls.same) (record {
      device = omega (arith, below, k.order.table_is.devices);
      runs = no_detector (point w n g) h.order.table d.0 (read_whole h k) below k.order.table_is;
      counted = counted_told (point w n g) h.order.table d.0 below k.order.table_is ∙ (let may : may_follow w n (Fell d) ≡ true = tells_may h why grip (Fell d) es tells k in grind (arith, common_steps));
      place = room.0;
      absent = (λ i. stands_in (fallen_number h why grip sl events tells.returned falls k i)) ∙ failure_absent w n g d h.order.line.marks (read_whole h k) k.order.line_is;
      sealed = k.order.sealed;
      unsealed = table_unsealed (point w n g) d.0 h.order.line h.order.table below k.order.table_is k.order.line_is k.order.sealed;
      entry = room.1;
    })
  where
    w : Setting
    w = h.history.setting

    n : Reading
    n = read_in h.history

    g : Grips
    g = (configuration_of (open_of h)).grips

    d : DeviceNo
    d = grip.slip.device

    below : d.0 < length w.first
    below = (returned_for h why grip tells.returned k).below

    room : (0 < h.order.line.spare) × (0 < h.history.spare)
    room = turn_room h why grip (Fell d) es tells (fell_line w n g d h.order.line.marks k.order.line_is) k

    stands_in : ℕ → Bool
    stands_in x = stands_item (Failed d x) h.order.line.marks

-- a device is back: it is counted down
pub may_rise : {D : Type 0} {shows : D → Shown} (h : Inside D) (why : Purpose) (grip : Gripped D Done) (es : List Entry) (sl : Slip) (events : Events) → TellsTurn shows h why grip (Rose grip.slip.device) es → Rises h why grip sl events
    → IsWhole shows h → MayTurn false (Back sl.device events.rose) h.history.spare sl.device h.order.line h.order.table
may_rise h why grip es sl events tells rises k =
    subst (λ (z : Slip). MayTurn false (Back z.device events.rose) h.history.spare z.device h.order.line h.order.table) (sym rises.same) (record {
      device = omega (arith, below, k.order.table_is.devices);
      runs = no_detector (point w n g) h.order.table d.0 (read_whole h k) below k.order.table_is;
      counted = counted_told (point w n g) h.order.table d.0 below k.order.table_is ∙ (let may : may_follow w n (Rose d) ≡ true = tells_may h why grip (Rose d) es tells k in grind (arith, common_steps));
      place = room.0;
      absent = (λ i. stands_in (risen_number h why grip sl events tells.returned rises k i)) ∙ restart_absent w n g d h.order.line.marks (read_whole h k) k.order.line_is;
      sealed = k.order.sealed;
      unsealed = table_unsealed (point w n g) d.0 h.order.line h.order.table below k.order.table_is k.order.line_is k.order.sealed;
      entry = room.1;
    })
  where
    w : Setting
    w = h.history.setting

    n : Reading
    n = read_in h.history

    g : Grips
    g = (configuration_of (open_of h)).grips

    d : DeviceNo
    d = grip.slip.device

    below : d.0 < length w.first
    below = (returned_for h why grip tells.returned k).below

    room : (0 < h.order.line.spare) × (0 < h.history.spare)
    room = turn_room h why grip (Rose d) es tells (rose_line w n g d h.order.line.marks k.order.line_is) k

    stands_in : ℕ → Bool
    stands_in x = stands_item (Back d x) h.order.line.marks
